-- "Also write a table as such text, never quoted, every line ended". A table alone is lent as m, a scheme, a row count and cells. Assumes nothing.
use Rattle.std.specs.Prelude.{ℕ, zero, suc, ◌+◌, ◌*◌, ◌/◌, ◌%◌, Bool, true, false, cond, ◌||◌, List, [], ◌∷◌, ◌++◌, length, take, drop, ltb, leb, eqb}
use Rattle.std.specs.Int.Count.{ones}
use Rattle.laws.specs.Lists.{put}
use Rattle.lines.specs.Decimals.{decimal}
use Rattle.tables.specs.Sizes.{most_attributes, most_rows, most_cells}
use Rattle.tables.specs.Rows.{below}
use Rattle.tables.specs.Checks.{first_met, outside, bad_scheme}
use Rattle.text.specs.Lines.{comma, cr, lf, no_code}

-- ---- the text

-- "each cell `0`, decimal digits without a leading zero, or empty for null"
unfoldable pub cell_text : ℕ → List ℕ
cell_text zero = []
cell_text (suc v) = decimal v

-- The fields behind the first, and "every line ended".
unfoldable pub rest_text : List ℕ → List ℕ
rest_text [] = cr ∷ lf ∷ []
rest_text (c ∷ codes) = comma ∷ (cell_text c ++ rest_text codes)

unfoldable pub line_text : List ℕ → List ℕ
line_text [] = cr ∷ lf ∷ []
line_text (c ∷ codes) = cell_text c ++ rest_text codes

unfoldable pub lines_text : List (List ℕ) → List ℕ
lines_text [] = []
lines_text (r ∷ rows) = line_text r ++ lines_text rows

-- A code in front of others, or not.
abbrev pub code_if : Bool → ℕ → List ℕ → List ℕ
code_if true c codes = c ∷ codes
code_if false c codes = codes

-- "a header line of attribute numbers": the attributes of a scheme from a on, k bits of it, each by its number plus 1.
unfoldable pub attribute_codes : ℕ → ℕ → ℕ → List ℕ
attribute_codes zero a x = []
attribute_codes (suc k) a x = code_if (eqb (x % 2) 1) (a + 1) (attribute_codes k (a + 1) (x / 2))

unfoldable pub text_of : ℕ → ℕ → List (List ℕ) → List ℕ
text_of m scheme rows = line_text (attribute_codes m 0 scheme) ++ lines_text rows

-- ---- the refusals

-- "each with its scheme's cells": k rows of w cells.
unfoldable pub cut : ℕ → ℕ → List ℕ → List (List ℕ)
cut zero w cells = []
cut (suc k) w cells = take w cells ∷ cut k w (drop w cells)

-- "10: a cell code of 2^63 or more"
unfoldable pub too_high : List ℕ → Bool
too_high [] = false
too_high (x ∷ xs) = leb no_code x || too_high xs

-- "per row 10, then 7": the rows behind a row.
unfoldable pub rows_fault : List ℕ → List (List ℕ) → ℕ
rows_fault before [] = 0
rows_fault before (r ∷ rows) = cond (too_high r) 10 (cond (below before r) (rows_fault r rows) 7)

unfoldable pub all_fault : List (List ℕ) → ℕ
all_fault [] = 0
all_fault (r ∷ rows) = cond (too_high r) 10 (rows_fault r rows)

-- "4"; "5, 6, 8", for `lent` cells.
unfoldable pub table_fault : ℕ → ℕ → ℕ → ℕ → ℕ
table_fault m scheme count lent =
    cond (outside 1 most_attributes m) 4
    (cond (bad_scheme m scheme) 5
    (cond (ltb most_rows count) 6
    (cond (ltb most_cells (count * ones scheme) || ltb lent (count * ones scheme)) 8
    0)))

-- "The text writer refuses a table as the image writer refuses one table alone, 21 aside"
unfoldable pub write_fault : ℕ → ℕ → ℕ → List ℕ → ℕ
write_fault m scheme count cells = first_met (table_fault m scheme count (length cells)) (all_fault (cut count (ones scheme) cells))

-- What a write gives.
pub data Wrote : Type 0 where
  wrote : (text : List ℕ) → Wrote
  unwritten : (number : ℕ) → Wrote

abbrev pub wrote_of : ℕ → List ℕ → Wrote
wrote_of zero text = wrote text
wrote_of (suc k) text = unwritten (suc k)

-- "then gives 11": into `room` bytes.
unfoldable pub write_of : ℕ → ℕ → ℕ → List ℕ → ℕ → Wrote
write_of m scheme count cells room =
    let text = text_of m scheme (cut count (ones scheme) cells) in
    wrote_of (first_met (write_fault m scheme count cells) (cond (ltb room (length text)) 11 0)) text

-- "A refusal writes nothing": the lent output behind a write. Bytes behind the text stay.
abbrev pub output_after : Wrote → List ℕ → List ℕ
output_after (wrote text) lent = put text lent
output_after (unwritten k) lent = lent
