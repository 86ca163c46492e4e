-- Laws for code: the next byte of a field at a place, one law for each way; how far a field goes; and the lines of a text from field to field. Assumes nothing.
use Prim.Native.Nat.{ℕ, zero, suc, ◌+◌, ◌-◌, ◌≤◌, ◌<◌}
use native.Mathlib.Omega.{arith}
use native.Mathlib.Numerals.{sub-one}
use mathlib.Core.Path.{◌≡◌, refl, sym, ap, ◌∙◌}
use mathlib.Core.List.{List, [], ◌∷◌, ◌++◌}
use lib.ListN.{length, get_or, drop, length-drop, drop_of_length-le}
use lib.Seq.{drop-cons, drop-drop}
use Rattle.text.specs.Lines.{done, line, on_act, lines_from, kind_of, code_on, act}
use Rattle.text.specs.declared.Form.{Form}
use Rattle.text.specs.declared.Form.TheVariants.{AtStart, InPlain, InQuotes, AfterQuote, AfterCr}
use Rattle.text.specs.declared.Act.{Act}
use Rattle.text.specs.declared.Act.TheVariants.{Takes, Marks, NextField, NextLine, Breaks}
use Rattle.text.specs.declared.Fielded.{Fielded}
use Rattle.text.specs.declared.Fielded.TheVariants.{ToComma, ToLine, Nothing, OutsideHere}
use Rattle.text.specs.declared.CodeAt.{CodeAt}
use Rattle.text.specs.Fields.{Reads, field_end, field_on, field_from, field_at, lines_field, code_of, next_of, codes_at}

-- ---- the next byte

pub field-ends : (s : List ℕ) (at : ℕ) (f : Form) (c : ℕ) → length s ≤ at → field_from (drop at s) f c at ≡ field_end f c at
unfolding field_from
field-ends s at f c h = rw (drop_of_length-le s h)

pub field-on : (s : List ℕ) (at : ℕ) (f : Form) (c : ℕ) (a : Act) → at < length s → act f (kind_of (get_or s at 0)) ≡ a
    → field_from (drop at s) f c at ≡ field_on a (get_or s at 0) c at (λ g d n. field_from (drop (at + 1) s) g d n)
unfolding field_from
field-on s at f c a h e = let p : at + 1 ≡ suc at = omega arith in rw (drop-cons s at 0 h, e, p)

-- ---- how far a field goes

-- The place that a field gives lies between here and the end; k more bytes are needed at least.
abbrev Goes : (k at end : ℕ) → Fielded → Type 0
Goes k at end (ToComma c n) = (at + 1 ≤ n) × (n ≤ end)
Goes k at end (ToLine c n) = (at + k ≤ n) × (n ≤ end)
Goes k at end (Nothing c) = Unit
Goes k at end OutsideHere = Unit

-- A field that has not begun takes one byte at least.
abbrev fewest : Form → ℕ
fewest AtStart = 1
fewest InPlain = 0
fewest InQuotes = 0
fewest AfterQuote = 0
fewest AfterCr = 0

goes_on_lem : (k at end : ℕ) (a : Fielded) → k ≤ 1 → Goes 0 (at + 1) end a → Goes k at end a
goes_on_lem k at end (ToComma c n) h (p, q) = (omega arith, q)
goes_on_lem k at end (ToLine c n) h (p, q) = (omega arith, q)
goes_on_lem k at end (Nothing c) h g = tt
goes_on_lem k at end OutsideHere h g = tt

goes-weak : (k at end : ℕ) (a : Fielded) → Goes k at end a → Goes 0 at end a
goes-weak k at end (ToComma c n) (p, q) = (p, q)
goes-weak k at end (ToLine c n) (p, q) = (omega arith, q)
goes-weak k at end (Nothing c) g = tt
goes-weak k at end OutsideHere g = tt

few_bytes : (f : Form) → fewest f ≤ 1
few_bytes AtStart = omega arith
few_bytes InPlain = omega arith
few_bytes InQuotes = omega arith
few_bytes AfterQuote = omega arith
few_bytes AfterCr = omega arith

field-goes : (u : List ℕ) (f : Form) (c at end : ℕ) → at + length u ≡ end → Goes (fewest f) at end (field_from u f c at)
unfolding field_from
field-goes [] AtStart c at end e = tt
field-goes [] InPlain c at end e = (omega arith, omega arith)
field-goes [] InQuotes c at end e = tt
field-goes [] AfterQuote c at end e = (omega arith, omega arith)
field-goes [] AfterCr c at end e = tt
field-goes (b ∷ u) f c at end e = by (act f (kind_of b)) (λ g d. field-goes u g d (at + 1) end (omega arith))
  where
    by : (a : Act) → ((g : Form) (d : ℕ) → Goes (fewest g) (at + 1) end (field_from u g d (at + 1)))
        → Goes (fewest f) at end (field_on a b c at (λ g d n. field_from u g d n))
    by (Takes g) ih = goes_on_lem (fewest f) at end (field_from u g (code_on c b) (at + 1)) (few_bytes f) (goes-weak (fewest g) (at + 1) end (field_from u g (code_on c b) (at + 1)) (ih g (code_on c b)))
    by (Marks g) ih = goes_on_lem (fewest f) at end (field_from u g c (at + 1)) (few_bytes f) (goes-weak (fewest g) (at + 1) end (field_from u g c (at + 1)) (ih g c))
    by NextField ih = (omega arith, omega arith)
    by NextLine ih = (omega (arith, few_bytes f), omega arith)
    by Breaks ih = tt

module _ (s : List ℕ) (at c n : ℕ) (h : at ≤ length s) where
  goes : Goes 1 at (length s) (field_at s at)
  goes = field-goes (drop at s) AtStart 0 at (length s) (rw (length-drop at s) (omega arith))

  pub comma-next : field_at s at ≡ ToComma c n → (at < n) × (n ≤ length s)
  comma-next e = let g : Goes 1 at (length s) (ToComma c n) = rw e at goes in (omega arith, omega arith)

  pub line-next : field_at s at ≡ ToLine c n → (at < n) × (n ≤ length s)
  line-next e = let g : Goes 1 at (length s) (ToLine c n) = rw e at goes in (omega arith, omega arith)

-- ---- from field to field

-- The rest of a text behind one byte of it.
behind : (s : List ℕ) (at b : ℕ) (u : List ℕ) → drop at s ≡ b ∷ u → drop (at + 1) s ≡ u
behind s at b u e = sym (drop-drop 1 at s) ∙ ap (drop 1) e

last_line_lem : (s row : List ℕ) (c at : ℕ) → drop at s ≡ [] → line (row ++ (c ∷ [])) done ≡ line (row ++ (c ∷ [])) (lines_from (drop at s) AtStart 0 [])
unfolding lines_from
last_line_lem s row c at e = rw e

module _ (s : List ℕ) where
  lines-over : (u : List ℕ) (f : Form) (c : ℕ) (row : List ℕ) (at : ℕ) → drop at s ≡ u → lines_from u f c row ≡ lines_field s row (field_from u f c at)
  unfolding lines_from field_from
  lines-over [] AtStart c row at e = refl
  lines-over [] InPlain c row at e = last_line_lem s row c at e
  lines-over [] InQuotes c row at e = refl
  lines-over [] AfterQuote c row at e = last_line_lem s row c at e
  lines-over [] AfterCr c row at e = refl
  lines-over (b ∷ u) f c row at e = by (act f (kind_of b)) (λ g d. lines-over u g d row (at + 1) (behind s at b u e))
    where
      by : (a : Act) → ((g : Form) (d : ℕ) → lines_from u g d row ≡ lines_field s row (field_from u g d (at + 1)))
          → on_act a b c row (λ g d r. lines_from u g d r) ≡ lines_field s row (field_on a b c at (λ g d n. field_from u g d n))
      by (Takes g) ih = ih g (code_on c b)
      by (Marks g) ih = ih g c
      by NextField ih = rw (behind s at b u e)
      by NextLine ih = rw (behind s at b u e)
      by Breaks ih = refl

  -- The lines from a field's first byte on, by that field.
  pub lines-field : (row : List ℕ) (at : ℕ) (a : Fielded) → field_at s at ≡ a → lines_from (drop at s) AtStart 0 row ≡ lines_field s row a
  lines-field row at a e = lines-over (drop at s) AtStart 0 row at refl ∙ ap (lines_field s row) e

-- ---- the codes of so many fields, one law for each way

pub codes-none : (k : ℕ) (s : List ℕ) (at : ℕ) → k ≤ 0 → codes_at k s at ≡ []
unfolding codes_at
codes-none zero s at h = refl
codes-none (suc k) s at h = absurd (omega arith)

pub codes-next : (k : ℕ) (s : List ℕ) (at : ℕ) → 0 < k → codes_at k s at ≡ code_of (field_at s at) ∷ codes_at (k - 1) s (next_of at (field_at s at))
unfolding codes_at
codes-next zero s at h = absurd (omega arith)
codes-next (suc k) s at h = rw (sub-one (suc k))

-- The same of a field that was read.
pub codes-read : (k : ℕ) (s : List ℕ) (at : ℕ) (r : CodeAt) → 0 < k → Reads s at r → codes_at k s at ≡ r.code ∷ codes_at (k - 1) s r.next
codes-read k s at r h e = codes-next k s at h ∙ rw (e.code, e.next)

pub length-codes-at : (k : ℕ) (s : List ℕ) (at : ℕ) → length (codes_at k s at) ≡ k
unfolding codes_at
length-codes-at zero s at = refl
length-codes-at (suc k) s at = ap suc (length-codes-at k s (next_of at (field_at s at)))
