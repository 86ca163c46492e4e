-- Worked rows, by computation. Codes are values plus 1, and 0 is null. Assumes nothing.
use mathlib.Core.Path.{◌≡◌, refl}
use mathlib.Core.Bool.{true, false}
use mathlib.Core.List.{[], ◌∷◌}
use lib.Count.{ones, ones_in}
use Rattle.laws.specs.Lists.{tab}
use Rattle.laws.specs.Tests.{any, all}
use Rattle.words.specs.Words.{bit_of}
use Rattle.keys.specs.Keys.{row_of, rows_in}
use Rattle.tables.specs.Sample.{three, three_cells}
use Rattle.tables.specs.Catalogues.{first_cell, row_start}
use Rattle.disjunction.specs.Rule.{member}
use Rattle.disjunction.specs.Cells.{gives, code_below, padded}
use Rattle.padding.specs.Padding.{padded_row}
use Rattle.padding.specs.Covering.{keeps, covering, Pair}

-- ---- padded rows

-- "set 1 1 1 | 1 10 7", "set 2 0 2 | 2 20 -", "set 0 2 0 | - 4294967306 9", by their keys.
pub sample-rows : (padded_row three three_cells 16781313 ≡ 2 ∷ 11 ∷ 8 ∷ []) × (padded_row three three_cells 33554434 ≡ 3 ∷ 21 ∷ 0 ∷ [])
    × (padded_row three three_cells 8192 ≡ 0 ∷ 4294967307 ∷ 10 ∷ [])
unfolding padded_row padded code_below gives member tab any bit_of rows_in row_of row_start first_cell ones ones_in three three_cells
sample-rows = (refl, refl, refl)

-- Rows 1 and 2 of the first two tables are not consistent: attribute 1 is that of table 0.
pub lowest-table : padded_row three three_cells 8193 ≡ 2 ∷ 11 ∷ 10 ∷ []
unfolding padded_row padded code_below gives member tab any bit_of rows_in row_of row_start first_cell ones ones_in three three_cells
lowest-table = refl

-- ---- covering

-- Request #104's pair: (1, null, 3) has no 2, and (1, 2, null) no 3.
pub pair : Pair
unfolding covering keeps all
pair = record { there = refl; back = refl }

-- (1, 2) covers (1, null), which does not cover it; (null, null) is covered by both.
pub fewer-values : (covering (2 ∷ 3 ∷ []) (2 ∷ 0 ∷ []) ≡ true) × (covering (2 ∷ 0 ∷ []) (2 ∷ 3 ∷ []) ≡ false)
    × (covering (2 ∷ 0 ∷ []) (0 ∷ 0 ∷ []) ≡ true)
unfolding covering keeps all
fewer-values = (refl, refl, refl)

-- (1, 2) and (1, 3) do not cover each other.
pub other-value : covering (2 ∷ 3 ∷ []) (2 ∷ 4 ∷ []) ≡ false
unfolding covering keeps all
other-value = refl

-- (1, 2) does not cover (1), although it has every value of it, for rows of unequal length never cover.
pub longer-row : covering (2 ∷ 3 ∷ []) (2 ∷ []) ≡ false
unfolding covering keeps all
longer-row = refl
