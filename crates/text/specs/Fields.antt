-- The reading field by field, with places in the text: what code goes by. That the lines of specs/Lines are read so stands in proofs/Fieldwise.
-- Assumes nothing.
use Rattle.std.specs.Prelude.{ℕ, zero, suc, ◌+◌, ◌≡◌, List, [], ◌∷◌, ◌++◌, length, drop}
use Rattle.text.specs.declared.Form.{Form}
use Rattle.text.specs.declared.Form.TheVariants.{AtStart, InPlain, InQuotes, AfterQuote, AfterCr}
use Rattle.text.specs.declared.Act.{Act}
use Rattle.text.specs.declared.Act.TheVariants.{Takes, Marks, NextField, NextLine, Breaks}
use Rattle.text.specs.declared.Fielded.{Fielded}
use Rattle.text.specs.declared.Fielded.TheVariants.{ToComma, ToLine, Nothing, OutsideHere}
use Rattle.text.specs.declared.CodeAt.{CodeAt}
use Rattle.text.specs.Lines.{Lines, broken, line, last_line, lines_from, no_code, kind_of, code_on, act}

-- ---- one field

-- The text ends inside a field, of the code c so far.
abbrev pub field_end : Form → (c at : ℕ) → Fielded
field_end AtStart c at = Nothing c
field_end InPlain c at = ToLine c at
field_end AfterQuote c at = ToLine c at
field_end InQuotes c at = OutsideHere
field_end AfterCr c at = OutsideHere

abbrev pub field_on : Act → (b c at : ℕ) → (Form → ℕ → ℕ → Fielded) → Fielded
field_on (Takes f) b c at on = on f (code_on c b) (at + 1)
field_on (Marks f) b c at on = on f c (at + 1)
field_on NextField b c at on = ToComma c (at + 1)
field_on NextLine b c at on = ToLine c (at + 1)
field_on Breaks b c at on = OutsideHere

-- A field goes on at this place, with the code c so far.
unfoldable pub field_from : List ℕ → Form → ℕ → ℕ → Fielded
field_from [] f c at = field_end f c at
field_from (b ∷ s) f c at = field_on (act f (kind_of b)) b c at (λ g d n. field_from s g d n)

-- The field that begins at a place.
abbrev pub field_at : List ℕ → ℕ → Fielded
field_at s at = field_from (drop at s) AtStart 0 at

-- The lines from a field on, behind the fields of `row`.
abbrev pub lines_field : List ℕ → List ℕ → Fielded → Lines
lines_field s row (ToComma c n) = lines_from (drop n s) AtStart 0 (row ++ (c ∷ []))
lines_field s row (ToLine c n) = line (row ++ (c ∷ [])) (lines_from (drop n s) AtStart 0 [])
lines_field s row (Nothing c) = last_line row c
lines_field s row OutsideHere = broken (length row + 1)

-- ---- so many fields

-- A field's code, and the place behind it. What is no field has no code and no end.
unfoldable pub code_of : Fielded → ℕ
code_of (ToComma c n) = c
code_of (ToLine c n) = c
code_of (Nothing c) = c
code_of OutsideHere = no_code

unfoldable pub next_of : ℕ → Fielded → ℕ
next_of at (ToComma c n) = n
next_of at (ToLine c n) = n
next_of at (Nothing c) = at
next_of at OutsideHere = at

-- The codes of k fields from a place on: the row of a line that has so many.
unfoldable pub codes_at : ℕ → List ℕ → ℕ → List ℕ
codes_at zero s at = []
codes_at (suc k) s at = code_of (field_at s at) ∷ codes_at k s (next_of at (field_at s at))

-- What code is given of the field at a place.
pub record Reads (s : List ℕ) (at : ℕ) (r : CodeAt) : Type 0 where
  pub code : r.code ≡ code_of (field_at s at)
  pub next : r.next ≡ next_of at (field_at s at)
