-- One byte of a text: what it is, what it does to the code so far, and where the reading goes on. One law for each way. Assumes nothing.
use Prim.Native.Nat.{ℕ, ◌+◌, ◌-◌, ◌*◌, ◌≤◌, ◌<◌, min}
use native.Mathlib.Omega.{arith}
use mathlib.Core.Path.{◌≡◌, refl, ◌∙◌}
use mathlib.Core.Logic.{◌⊎◌, inl, inr}
use mathlib.Core.Bool.{Bool, true, false, cond, ◌&&◌}
use mathlib.Core.List.{List, [], ◌∷◌, ◌++◌}
use lib.Dec.{leb}
use borrow.Author.Tests.{le-leb, lt-leb, leb-true, ne_eqb}
use Rattle.text.specs.Lines.{quote, comma, cr, lf, digit_zero, no_code, kind_of, is_digit, code_on, act, line, on_act, lines_from}
use Rattle.text.specs.declared.Form.{Form}
use Rattle.text.specs.declared.Form.TheVariants.{AtStart, InPlain, InQuotes, AfterQuote, AfterCr}
use Rattle.text.specs.declared.Act.{Act}
use Rattle.text.specs.declared.Act.TheVariants.{Marks, NextField, NextLine}
use Rattle.text.specs.declared.Kind.TheVariants.{TextByte, QuoteByte, CommaByte, CrByte, LfByte, OtherByte}

-- ---- kinds

pub kind-quote : (b : ℕ) → b ≡ quote → kind_of b ≡ QuoteByte
unfolding kind_of
kind-quote b e = rw e

pub kind-comma : (b : ℕ) → b ≡ comma → kind_of b ≡ CommaByte
unfolding kind_of
kind-comma b e = rw e

pub kind-cr : (b : ℕ) → b ≡ cr → kind_of b ≡ CrByte
unfolding kind_of
kind-cr b e = rw e

pub kind-lf : (b : ℕ) → b ≡ lf → kind_of b ≡ LfByte
unfolding kind_of
kind-lf b e = rw e

pub kind-text : (b : ℕ) → 0x20 ≤ b → b ≤ 0x7E → (b ≡ quote → ⊥) → (b ≡ comma → ⊥) → kind_of b ≡ TextByte
unfolding kind_of
kind-text b l h q c =
    rw (ne_eqb b quote q, ne_eqb b comma c, ne_eqb b cr (omega arith), ne_eqb b lf (omega arith), le-leb 0x20 b l, le-leb b 0x7E h)

pub kind-other : (b : ℕ) → (b ≡ quote → ⊥) → (b ≡ comma → ⊥) → (b ≡ cr → ⊥) → (b ≡ lf → ⊥) → (b < 0x20) ⊎ (0x7E < b) → kind_of b ≡ OtherByte
unfolding kind_of
kind-other b q c r f (inl h) = rw (ne_eqb b quote q, ne_eqb b comma c, ne_eqb b cr r, ne_eqb b lf f, lt-leb 0x20 b h)
kind-other b q c r f (inr h) = rw (ne_eqb b quote q, ne_eqb b comma c, ne_eqb b cr r, ne_eqb b lf f, le-leb 0x20 b (omega arith), lt-leb b 0x7E h)

-- ---- codes

pub digit-is : (b : ℕ) → digit_zero ≤ b → b ≤ digit_zero + 9 → is_digit b ≡ true
unfolding is_digit
digit-is b l h = rw (le-leb digit_zero b l, le-leb b (digit_zero + 9) h)

pub digit-says : (b : ℕ) → is_digit b ≡ true → (digit_zero ≤ b) × (b ≤ digit_zero + 9)
unfolding is_digit
digit-says b h = by (leb digit_zero b) refl (leb b (digit_zero + 9)) refl h
  where
    by : (t : Bool) → leb digit_zero b ≡ t → (u : Bool) → leb b (digit_zero + 9) ≡ u → (t && u) ≡ true → (digit_zero ≤ b) × (b ≤ digit_zero + 9)
    by true a true c e = (leb-true digit_zero b a, leb-true b (digit_zero + 9) c)
    by true a false c e = absurd (let z : ◌≡◌ {A = ℕ} 0 1 = cc in omega arith)
    by false a u c e = absurd (let z : ◌≡◌ {A = ℕ} 0 1 = cc in omega arith)

pub code-first : (b : ℕ) → is_digit b ≡ true → code_on 0 b ≡ b - digit_zero + 1
unfolding code_on
code-first b d = rw d

pub code-next : (c b : ℕ) → is_digit b ≡ true → 1 < c → code_on c b ≡ min (10 * (c - 1) + (b - digit_zero) + 1) no_code
unfolding code_on
code-next c b d h = rw (d, ne_eqb c 0 (omega arith), ne_eqb c 1 (omega arith))

pub code-zero : (b : ℕ) → code_on 1 b ≡ no_code
unfolding code_on
code-zero b = by (is_digit b)
  where
    by : (t : Bool) → cond t no_code no_code ≡ no_code
    by true = refl
    by false = refl

pub code_other : (c b : ℕ) → is_digit b ≡ false → code_on c b ≡ no_code
unfolding code_on
code_other c b d = rw d

-- One law for each way that code goes.
pub code_below_lem : (c b : ℕ) → b < digit_zero → code_on c b ≡ no_code
unfolding code_on is_digit
code_below_lem c b h = rw (lt-leb digit_zero b h)

pub code-above : (c b : ℕ) → digit_zero + 9 < b → code_on c b ≡ no_code
unfolding code_on is_digit
code-above c b h = rw (le-leb digit_zero b (omega arith), lt-leb b (digit_zero + 9) h)

module _ (c b : ℕ) (l : digit_zero ≤ b) (h : b ≤ digit_zero + 9) where
  pub code-start : c ≡ 0 → code_on c b ≡ b - digit_zero + 1
  code-start e = rw e (code-first b (digit-is b l h))

  pub code-behind-zero : c ≡ 1 → code_on c b ≡ no_code
  code-behind-zero e = rw e (code-zero b)

  pub code-digit : 1 < c → code_on c b ≡ min (10 * (c - 1) + (b - digit_zero) + 1) no_code
  code-digit z = code-next c b (digit-is b l h) z

-- ---- the reading

pub lines-on : (b : ℕ) (s : List ℕ) (f : Form) (c : ℕ) (row : List ℕ) (a : Act) → act f (kind_of b) ≡ a
    → lines_from (b ∷ s) f c row ≡ on_act a b c row (λ g d r. lines_from s g d r)
unfolding lines_from
lines-on b s f c row a e = rw e

-- A field may end here.
abbrev pub MayEnd : Form → Type 0
MayEnd AtStart = Unit
MayEnd InPlain = Unit
MayEnd InQuotes = ⊥
MayEnd AfterQuote = Unit
MayEnd AfterCr = ⊥

comma-act : (f : Form) → MayEnd f → act f (kind_of comma) ≡ NextField
unfolding kind_of
comma-act AtStart h = refl
comma-act InPlain h = refl
comma-act InQuotes h = absurd h
comma-act AfterQuote h = refl
comma-act AfterCr h = absurd h

cr-act : (f : Form) → MayEnd f → act f (kind_of cr) ≡ Marks AfterCr
unfolding kind_of
cr-act AtStart h = refl
cr-act InPlain h = refl
cr-act InQuotes h = absurd h
cr-act AfterQuote h = refl
cr-act AfterCr h = absurd h

lf-act : act AfterCr (kind_of lf) ≡ NextLine
unfolding kind_of
lf-act = refl

pub comma-ends : (f : Form) (c : ℕ) (t row : List ℕ) → MayEnd f → lines_from (comma ∷ t) f c row ≡ lines_from t AtStart 0 (row ++ (c ∷ []))
comma-ends f c t row h = lines-on comma t f c row NextField (comma-act f h)

pub crlf-ends : (f : Form) (c : ℕ) (t row : List ℕ) → MayEnd f → lines_from (cr ∷ lf ∷ t) f c row ≡ line (row ++ (c ∷ [])) (lines_from t AtStart 0 [])
crlf-ends f c t row h = lines-on cr (lf ∷ t) f c row (Marks AfterCr) (cr-act f h) ∙ lines-on lf t AfterCr c row NextLine lf-act
