-- RFC 4180 as a reading of bytes one by one: what each byte means where it stands, the code of a field so far, and the lines that come of it.
-- The grammar itself stands in specs/Grammar; that these are its lines, in proofs/GrammarLaws. Assumes nothing.
use Rattle.std.specs.Prelude.{ℕ, ◌+◌, ◌-◌, ◌*◌, ◌^◌, min, Bool, cond, ◌&&◌, List, [], ◌∷◌, ◌++◌, length, leb, eqb}
use Rattle.text.specs.declared.Kind.{Kind}
use Rattle.text.specs.declared.Kind.TheVariants.{TextByte, QuoteByte, CommaByte, CrByte, LfByte, OtherByte}
use Rattle.text.specs.declared.Form.{Form}
use Rattle.text.specs.declared.Form.TheVariants.{AtStart, InPlain, InQuotes, AfterQuote, AfterCr}
use Rattle.text.specs.declared.Act.{Act}
use Rattle.text.specs.declared.Act.TheVariants.{Takes, Marks, NextField, NextLine, Breaks}

-- ---- bytes

-- "DQUOTE = %x22", "COMMA = %x2C", "CR = %x0D", "LF = %x0A"; and the digit 0.
abbrev pub quote : ℕ
quote = 0x22

abbrev pub comma : ℕ
comma = 0x2C

abbrev pub cr : ℕ
cr = 0x0D

abbrev pub lf : ℕ
lf = 0x0A

abbrev pub digit_zero : ℕ
digit_zero = 0x30

-- "TEXTDATA = %x20-21 / %x23-2B / %x2D-7E"
unfoldable pub kind_of : ℕ → Kind
kind_of b =
    cond (eqb b quote) QuoteByte
    (cond (eqb b comma) CommaByte
    (cond (eqb b cr) CrByte
    (cond (eqb b lf) LfByte
    (cond (leb 0x20 b && leb b 0x7E) TextByte
    OtherByte))))

-- ---- the code of a field

-- "24: a cell .. above 2^63 - 2": no cell has this code, which stands for every field that is written otherwise.
abbrev pub no_code : ℕ
no_code = 2 ^ 63

unfoldable pub is_digit : ℕ → Bool
is_digit b = leb digit_zero b && leb b (digit_zero + 9)

-- "each cell `0`, decimal digits without a leading zero, or empty for null". A field whose bytes so far have the code c goes on with the byte b.
-- "A cell code is 0 for null, else the value plus 1": 0 is the code of what is empty, 1 that of `0`.
unfoldable pub code_on : ℕ → ℕ → ℕ
code_on c b =
    cond (is_digit b)
    (cond (eqb c 0) (b - digit_zero + 1)
    (cond (eqb c 1) no_code
    (min (10 * (c - 1) + (b - digit_zero) + 1) no_code)))
    no_code

-- The code of a field that goes on with these bytes, and of a field's whole content.
unfoldable pub code_from : ℕ → List ℕ → ℕ
code_from c [] = c
code_from c (b ∷ s) = code_from (code_on c b) s

-- ---- the reading

-- "record = field *(COMMA field)", "field = (escaped / non-escaped)", "escaped = DQUOTE *(TEXTDATA / COMMA / CR / LF / 2DQUOTE) DQUOTE",
-- "non-escaped = *TEXTDATA"; a line ends in CRLF.
abbrev pub act : Form → Kind → Act
act AtStart TextByte = Takes InPlain
act AtStart QuoteByte = Marks InQuotes
act AtStart CommaByte = NextField
act AtStart CrByte = Marks AfterCr
act AtStart LfByte = Breaks
act AtStart OtherByte = Breaks
act InPlain TextByte = Takes InPlain
act InPlain QuoteByte = Breaks
act InPlain CommaByte = NextField
act InPlain CrByte = Marks AfterCr
act InPlain LfByte = Breaks
act InPlain OtherByte = Breaks
act InQuotes TextByte = Takes InQuotes
act InQuotes QuoteByte = Marks AfterQuote
act InQuotes CommaByte = Takes InQuotes
act InQuotes CrByte = Takes InQuotes
act InQuotes LfByte = Takes InQuotes
act InQuotes OtherByte = Breaks
act AfterQuote TextByte = Breaks
act AfterQuote QuoteByte = Takes InQuotes
act AfterQuote CommaByte = NextField
act AfterQuote CrByte = Marks AfterCr
act AfterQuote LfByte = Breaks
act AfterQuote OtherByte = Breaks
act AfterCr TextByte = Breaks
act AfterCr QuoteByte = Breaks
act AfterCr CommaByte = Breaks
act AfterCr CrByte = Breaks
act AfterCr LfByte = NextLine
act AfterCr OtherByte = Breaks

-- The lines of a text, each with the codes of its fields, up to the end or to a line outside the grammar, with the field that is at fault.
pub data Lines : Type 0 where
  done : Lines
  broken : (field : ℕ) → Lines
  line : (codes : List ℕ) → Lines → Lines

-- Where the text ends: behind the last CRLF, "the last record .. may or may not have an ending line break", or inside quotes or behind a lone CR.
-- `row` has the codes of the line's fields before this one.
abbrev pub last_line : List ℕ → ℕ → Lines
last_line [] c = done
last_line (x ∷ row) c = line ((x ∷ row) ++ (c ∷ [])) done

abbrev pub at_end : Form → ℕ → List ℕ → Lines
at_end AtStart c row = last_line row c
at_end InPlain c row = line (row ++ (c ∷ [])) done
at_end AfterQuote c row = line (row ++ (c ∷ [])) done
at_end InQuotes c row = broken (length row + 1)
at_end AfterCr c row = broken (length row + 1)

abbrev pub on_act : Act → ℕ → ℕ → List ℕ → (Form → ℕ → List ℕ → Lines) → Lines
on_act (Takes f) b c row on = on f (code_on c b) row
on_act (Marks f) b c row on = on f c row
on_act NextField b c row on = on AtStart 0 (row ++ (c ∷ []))
on_act NextLine b c row on = line (row ++ (c ∷ [])) (on AtStart 0 [])
on_act Breaks b c row on = broken (length row + 1)

-- The lines of what is left of a text, inside a field of the code c so far, behind the fields of `row` on its line.
unfoldable pub lines_from : List ℕ → Form → ℕ → List ℕ → Lines
lines_from [] f c row = at_end f c row
lines_from (b ∷ s) f c row = on_act (act f (kind_of b)) b c row (λ g d r. lines_from s g d r)

-- The lines of a text.
abbrev pub lines_of : List ℕ → Lines
lines_of s = lines_from s AtStart 0 []
