-- A field is read as the grammar has it: at the front of a text stands a field that a comma, CRLF or the end follows, and the reading goes over it to
-- its code; or none does, and the reading is broken there. Assumes nothing.
use Prim.Native.Nat.{ℕ, ◌+◌}
use native.Mathlib.Decide.{dec_lt, ℕ_discrete}
use native.Mathlib.Omega.{arith}
use mathlib.Core.Path.{◌≡◌, refl, ap, ◌∙◌}
use mathlib.Core.Logic.{◌⊎◌, inl, inr}
use mathlib.Core.List.{List, [], ◌∷◌, ◌++◌, append_assoc}
use lib.ListN.{length}
use Rattle.text.specs.Lines.{quote, comma, cr, lf, kind_of, code_on, code_from, act, broken, lines_from}
use Rattle.text.specs.declared.Form.{Form}
use Rattle.text.specs.declared.Form.TheVariants.{AtStart, InPlain, InQuotes, AfterQuote, AfterCr}
use Rattle.text.specs.declared.Act.TheVariants.{Takes, Marks, Breaks}
use Rattle.text.specs.declared.Kind.TheVariants.{TextByte, OtherByte}
use Rattle.text.specs.Grammar.{Textdata, Plain, Inside, Field, nonescaped, escaped, FieldThen}
use Rattle.text.proofs.CellLaws.{code-none, code-more}
use Rattle.text.proofs.LineLaws.{kind-text, kind-other, lines-on}

-- ---- the kinds, both ways

-- What a byte is: one of the marks, TEXTDATA, or none of these.
pub data Which (b : ℕ) : Type 0 where
  is_text : Textdata b → kind_of b ≡ TextByte → Which b
  is_quote : b ≡ quote → Which b
  is_comma : b ≡ comma → Which b
  is_cr : b ≡ cr → Which b
  is_lf : b ≡ lf → Which b
  is_other : kind_of b ≡ OtherByte → Which b

pub which : (b : ℕ) → Which b
which b =
    elim (ℕ_discrete b quote) [
      | yes q ↦ is_quote q
      | no q ↦ elim (ℕ_discrete b comma) [
        | yes k ↦ is_comma k
        | no k ↦ elim (ℕ_discrete b cr) [
          | yes r ↦ is_cr r
          | no r ↦ elim (ℕ_discrete b lf) [
            | yes f ↦ is_lf f
            | no f ↦ elim (dec_lt b 0x20) [
              | yes l ↦ is_other (kind-other b q k r f (inl l))
              | no l ↦ elim (dec_lt 0x7E b) [
                | yes h ↦ is_other (kind-other b q k r f (inr h))
                | no h ↦ is_text (omega arith, omega arith, q, k) (kind-text b (omega arith) (omega arith) q k)
              ]
            ]
          ]
        ]
      ]
    ]

-- ---- the content of a field, byte by byte

text-taken : (f : Form) (b : ℕ) (s : List ℕ) (c : ℕ) (row : List ℕ) → Textdata b → (g : Form) → act f TextByte ≡ Takes g
    → lines_from (b ∷ s) f c row ≡ lines_from s g (code_on c b) row
text-taken f b s c row (l, h, q, k) g e = lines-on b s f c row (Takes g) (rw (kind-text b l h q k) e)

plain-read : (x t : List ℕ) (c : ℕ) (row : List ℕ) → Plain x → lines_from (x ++ t) InPlain c row ≡ lines_from t InPlain (code_from c x) row
plain-read [] t c row Plain.none = rw (code-none c)
plain-read (b ∷ x) t c row (Plain.more w p) = text-taken InPlain b (x ++ t) c row w InPlain refl ∙ rw (code-more c b x) (plain-read x t (code_on c b) row p)

inside-read : {x k : List ℕ} (t : List ℕ) (c : ℕ) (row : List ℕ) → Inside x k → lines_from (x ++ t) InQuotes c row ≡ lines_from t InQuotes (code_from c k) row
unfolding kind_of
inside-read t c row Inside.none = rw (code-none c)
inside-read t c row (Inside.text {b} {s = x} {c = k} w i) = text-taken InQuotes b (x ++ t) c row w InQuotes refl ∙ rw (code-more c b k) (inside-read t (code_on c b) row i)
inside-read t c row (Inside.comma_in {s = x} {c = k} i) = lines-on comma (x ++ t) InQuotes c row (Takes InQuotes) refl ∙ rw (code-more c comma k) (inside-read t (code_on c comma) row i)
inside-read t c row (Inside.cr_in {s = x} {c = k} i) = lines-on cr (x ++ t) InQuotes c row (Takes InQuotes) refl ∙ rw (code-more c cr k) (inside-read t (code_on c cr) row i)
inside-read t c row (Inside.lf_in {s = x} {c = k} i) = lines-on lf (x ++ t) InQuotes c row (Takes InQuotes) refl ∙ rw (code-more c lf k) (inside-read t (code_on c lf) row i)
inside-read t c row (Inside.two_quotes {s = x} {c = k} i) =
    lines-on quote (quote ∷ (x ++ t)) InQuotes c row (Marks AfterQuote) refl ∙ lines-on quote (x ++ t) AfterQuote c row (Takes InQuotes) refl
    ∙ rw (code-more c quote k) (inside-read t (code_on c quote) row i)

-- A form in which a field may end; `begins` only behind no byte.
pub data Over : List ℕ → Form → Type 0 where
  over_none : Over [] AtStart
  over_plain : {x : List ℕ} → Over x InPlain
  over_closed : {x : List ℕ} → Over x AfterQuote

-- Over a field the reading comes to its content's code.
pub field-read : {x k : List ℕ} → Field x k → (f : Form) × Over x f × ((t row : List ℕ) → lines_from (x ++ t) AtStart 0 row ≡ lines_from t f (code_from 0 k) row)
unfolding kind_of
field-read (nonescaped Plain.none) = (AtStart, over_none, λ t row. rw (code-none 0))
field-read (nonescaped (Plain.more {b} {s = x} w p)) =
    (InPlain, over_plain, λ t row. text-taken AtStart b (x ++ t) 0 row w InPlain refl ∙ rw (code-more 0 b x) (plain-read x t (code_on 0 b) row p))
field-read (escaped {s = x} {c = k} i) = (
  AfterQuote,
  over_closed,
  λ t row.
      lines-on quote (x ++ (quote ∷ []) ++ t) AtStart 0 row (Marks InQuotes) refl
      ∙ rw (append_assoc x (quote ∷ []) t) (inside-read (quote ∷ t) 0 row i)
      ∙ lines-on quote t InQuotes (code_from 0 k) row (Marks AfterQuote) refl,
)

-- ---- what follows a field

pub data Next : Type 0 where
  ToComma : List ℕ → Next
  ToLine : List ℕ → Next
  to_end : Next

abbrev pub after : Next → List ℕ
after (ToComma t) = comma ∷ t
after (ToLine t) = cr ∷ lf ∷ t
after to_end = []

-- The reading is broken at this field.
abbrev pub Stuck : List ℕ → Form → Type 0
Stuck s f = (c : ℕ) (row : List ℕ) → lines_from s f c row ≡ broken (length row + 1)

stuck_at : (f : Form) (b : ℕ) (s : List ℕ) → act f (kind_of b) ≡ Breaks → Stuck (b ∷ s) f
stuck_at f b s e c row = lines-on b s f c row Breaks e

-- Where a byte goes on in a form that is stuck.
stuck-takes : (f g : Form) (b : ℕ) (s : List ℕ) → act f (kind_of b) ≡ Takes g → Stuck s g → Stuck (b ∷ s) f
stuck-takes f g b s e h c row = lines-on b s f c row (Takes g) e ∙ h (code_on c b) row

stuck-goes : (f g : Form) (b : ℕ) (s : List ℕ) → act f (kind_of b) ≡ Marks g → Stuck s g → Stuck (b ∷ s) f
stuck-goes f g b s e h c row = lines-on b s f c row (Marks g) e ∙ h c row

-- Behind a CR comes LF, or the reading is broken.
cr-ways : (s : List ℕ) → ((t : List ℕ) × (s ≡ lf ∷ t)) ⊎ Stuck s AfterCr
unfolding lines_from kind_of
cr-ways [] = inr (λ c row. refl)
cr-ways (b ∷ s) = by (which b)
  where
    by : Which b → ((t : List ℕ) × (b ∷ s ≡ lf ∷ t)) ⊎ Stuck (b ∷ s) AfterCr
    by (is_text w k) = inr (stuck_at AfterCr b s (rw k))
    by (is_quote e) = inr (stuck_at AfterCr b s (rw e))
    by (is_comma e) = inr (stuck_at AfterCr b s (rw e))
    by (is_cr e) = inr (stuck_at AfterCr b s (rw e))
    by (is_lf e) = inl (s, rw e)
    by (is_other k) = inr (stuck_at AfterCr b s (rw k))

-- ---- a plain field

abbrev PlainWays : List ℕ → Type 0
PlainWays s = ((x : List ℕ) × Plain x × (n : Next) × (s ≡ x ++ after n)) ⊎ Stuck s InPlain

plain-ways : (s : List ℕ) → PlainWays s
unfolding kind_of
plain-ways [] = inl ([], Plain.none, to_end, refl)
plain-ways (b ∷ s) = by (which b) (plain-ways s) (cr-ways s)
  where
    on-text : Textdata b → kind_of b ≡ TextByte → PlainWays s → PlainWays (b ∷ s)
    on-text w k (inl (x, p, n, e)) = inl (b ∷ x, Plain.more w p, n, ap {B = List ℕ} (λ r. b ∷ r) e)
    on-text w k (inr h) = inr (stuck-takes InPlain InPlain b s (rw k) h)

    on-cr : b ≡ cr → ((t : List ℕ) × (s ≡ lf ∷ t)) ⊎ Stuck s AfterCr → PlainWays (b ∷ s)
    on-cr e (inl (t, q)) = inl ([], Plain.none, ToLine t, rw (e, q))
    on-cr e (inr h) = inr (stuck-goes InPlain AfterCr b s (rw e) h)

    by : Which b → PlainWays s → ((t : List ℕ) × (s ≡ lf ∷ t)) ⊎ Stuck s AfterCr → PlainWays (b ∷ s)
    by (is_text w k) ih r = on-text w k ih
    by (is_quote e) ih r = inr (stuck_at InPlain b s (rw e))
    by (is_comma e) ih r = inl ([], Plain.none, ToComma s, rw e)
    by (is_cr e) ih r = on-cr e r
    by (is_lf e) ih r = inr (stuck_at InPlain b s (rw e))
    by (is_other k) ih r = inr (stuck_at InPlain b s (rw k))

-- ---- a quoted field

-- What is left of a quoted field: bytes inside, and the closing quote.
abbrev Rest : List ℕ → Type 0
Rest s = (y : List ℕ) × (k : List ℕ) × Inside y k × (n : Next) × (s ≡ y ++ (quote ∷ after n))

abbrev QuotedWays : List ℕ → Type 0
QuotedWays s = Rest s ⊎ Stuck s InQuotes

-- Behind a quote inside quotes: it was the last, or the first of two.
abbrev ClosedWays : List ℕ → Type 0
ClosedWays s = ((n : Next) × (s ≡ after n)) ⊎ (((t : List ℕ) × (s ≡ quote ∷ t) × Rest t) ⊎ Stuck s AfterQuote)

quoted-step : (b : ℕ) (s : List ℕ) → Which b → QuotedWays s → ClosedWays s → QuotedWays (b ∷ s)
unfolding kind_of
quoted-step b s o q k = by o q k
  where
    -- A byte that belongs to the content.
    taken : ((y c : List ℕ) → Inside y c → Inside (b ∷ y) (b ∷ c)) → act InQuotes (kind_of b) ≡ Takes InQuotes → QuotedWays s → QuotedWays (b ∷ s)
    taken i e (inl (y, c, h, n, p)) = inl (b ∷ y, b ∷ c, i y c h, n, ap {B = List ℕ} (λ r. b ∷ r) p)
    taken i e (inr h) = inr (stuck-takes InQuotes InQuotes b s e h)

    mark : b ≡ quote → ClosedWays s → QuotedWays (b ∷ s)
    mark e (inl (n, p)) = inl ([], [], Inside.none, n, rw (e, p))
    mark e (inr (inl (t, p, (y, c, h, n, r)))) = inl (quote ∷ quote ∷ y, quote ∷ c, Inside.two_quotes h, n, rw (e, p, r))
    mark e (inr (inr h)) = inr (stuck-goes InQuotes AfterQuote b s (rw e) h)

    by : Which b → QuotedWays s → ClosedWays s → QuotedWays (b ∷ s)
    by (is_text w j) q k = taken (λ y c h. Inside.text w h) (rw j) q
    by (is_quote e) q k = mark e k
    by (is_comma e) q k = taken (λ y c h. rw e (Inside.comma_in h)) (rw e) q
    by (is_cr e) q k = taken (λ y c h. rw e (Inside.cr_in h)) (rw e) q
    by (is_lf e) q k = taken (λ y c h. rw e (Inside.lf_in h)) (rw e) q
    by (is_other j) q k = inr (stuck_at InQuotes b s (rw j))

closed-step : (b : ℕ) (s : List ℕ) → Which b → QuotedWays s → ClosedWays (b ∷ s)
unfolding kind_of
closed-step b s o q = by o q (cr-ways s)
  where
    again : b ≡ quote → QuotedWays s → ClosedWays (b ∷ s)
    again e (inl r) = inr (inl (s, rw e, r))
    again e (inr h) = inr (inr (stuck-takes AfterQuote InQuotes b s (rw e) h))

    on-cr : b ≡ cr → ((t : List ℕ) × (s ≡ lf ∷ t)) ⊎ Stuck s AfterCr → ClosedWays (b ∷ s)
    on-cr e (inl (t, p)) = inl (ToLine t, rw (e, p))
    on-cr e (inr h) = inr (inr (stuck-goes AfterQuote AfterCr b s (rw e) h))

    by : Which b → QuotedWays s → ((t : List ℕ) × (s ≡ lf ∷ t)) ⊎ Stuck s AfterCr → ClosedWays (b ∷ s)
    by (is_text w j) q r = inr (inr (stuck_at AfterQuote b s (rw j)))
    by (is_quote e) q r = again e q
    by (is_comma e) q r = inl (ToComma s, rw e)
    by (is_cr e) q r = on-cr e r
    by (is_lf e) q r = inr (inr (stuck_at AfterQuote b s (rw e)))
    by (is_other j) q r = inr (inr (stuck_at AfterQuote b s (rw j)))

quoted-ways : (s : List ℕ) → QuotedWays s × ClosedWays s
unfolding lines_from
quoted-ways [] = (inr (λ c row. refl), inl (to_end, refl))
quoted-ways (b ∷ s) = let (q, k) = quoted-ways s in (quoted-step b s (which b) q k, closed-step b s (which b) q)

-- ---- any field

abbrev pub FieldWays : List ℕ → Type 0
FieldWays s = ((k : List ℕ) × (n : Next) × FieldThen s k (after n)) ⊎ Stuck s AtStart

pub field-ways : (s : List ℕ) → FieldWays s
unfolding kind_of
field-ways [] = inl ([], to_end, ([], nonescaped Plain.none, refl))
field-ways (b ∷ s) = by (which b)
  where
    on-text : Textdata b → kind_of b ≡ TextByte → PlainWays s → FieldWays (b ∷ s)
    on-text w k (inl (x, p, n, e)) = inl (b ∷ x, n, (b ∷ x, nonescaped (Plain.more w p), ap {B = List ℕ} (λ r. b ∷ r) e))
    on-text w k (inr h) = inr (stuck-takes AtStart InPlain b s (rw k) h)

    on-quote : b ≡ quote → QuotedWays s → FieldWays (b ∷ s)
    on-quote e (inl (y, k, h, n, p)) = inl (k, n, (quote ∷ (y ++ (quote ∷ [])), escaped h, rw (e, p, append_assoc y (quote ∷ []) (after n))))
    on-quote e (inr h) = inr (stuck-goes AtStart InQuotes b s (rw e) h)

    on-cr : b ≡ cr → ((t : List ℕ) × (s ≡ lf ∷ t)) ⊎ Stuck s AfterCr → FieldWays (b ∷ s)
    on-cr e (inl (t, q)) = inl ([], ToLine t, ([], nonescaped Plain.none, rw (e, q)))
    on-cr e (inr h) = inr (stuck-goes AtStart AfterCr b s (rw e) h)

    by : Which b → FieldWays (b ∷ s)
    by (is_text w k) = on-text w k (plain-ways s)
    by (is_quote e) = on-quote e (quoted-ways s).0
    by (is_comma e) = inl ([], ToComma s, ([], nonescaped Plain.none, rw e))
    by (is_cr e) = on-cr e (cr-ways s)
    by (is_lf e) = inr (stuck_at AtStart b s (rw e))
    by (is_other k) = inr (stuck_at AtStart b s (rw k))
