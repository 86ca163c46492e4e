-- Document 01's sample by the rule on sets alone: open's row tests, the three sets in the order in which the stream finds them, and that they are all the
-- maximal ones. Then which keys name rows of it. Assumes nothing.
use Prim.Native.Nat.{ℕ, ◌+◌, ◌^◌}
use native.Mathlib.Omega.{arith}
use native.Mathlib.Decide.{ℕ_discrete}
use mathlib.Core.Path.{◌≡◌, refl}
use mathlib.Core.Logic.{◌↔◌}
use mathlib.Core.Bool.{true, false}
use mathlib.Core.List.{List, [], ◌∷◌, Memᴰ}
use lib.Count.{ones}
use Rattle.laws.specs.Tests.{any, all}
use Rattle.laws.specs.Lists.{tab}
use Rattle.words.specs.Words.{bit_of}
use Rattle.keys.specs.Keys.{row_of}
use Rattle.keys.specs.TwoWords.{joined, number_in}
use Rattle.tables.specs.Sample.{three, three_cells}
use Rattle.tables.specs.Catalogues.{first_cell, row_start}
use Rattle.disjunction.specs.Sets.{Tables, Maximal}
use Rattle.disjunction.specs.Rule.{rows_to, rows_below, row_at, member, absent, near, agrees, row_test, walk, grow, extension, stays, dropped, alone, joins, members_below, piece, start, trial}
use Rattle.disjunction.specs.Cells.{same, sharing, matching}
use Rattle.disjunction.specs.Asked.{every_set}
use Rattle.disjunction.specs.Keeping.{same_dec, sets-discrete, dec_memᴰ, stored, keep, keep_if, take, try, list_open, list_move, list_tests, list_moves, tests_in}
use Rattle.disjunction.proofs.Draining.{ended, drained-all}
use Rattle.rows.specs.Named.{missing, beyond, named}
use Rattle.rows.specs.World.{world_of, touches_in, fits_in}
use Rattle.rows.proofs.WorldLaws.{world-symmetric}

abbrev W : Tables
W = world_of three three_cells

-- "set 1 1 1", "set 2 0 2", "set 0 2 0".
abbrev pub three_sets : List (List ℕ)
three_sets = (1 ∷ 1 ∷ 1 ∷ []) ∷ (2 ∷ 0 ∷ 2 ∷ []) ∷ (0 ∷ 2 ∷ 0 ∷ []) ∷ []

-- "tables 3 3 6 14": open's row tests.
pub three-open : extension W (alone W (row_at W 0)) ≡ record { rows = 1 ∷ 1 ∷ 1 ∷ []; tests = 14 }
unfolding three three_cells first_cell row_start bit_of ones touches_in fits_in extension grow walk row_test near agrees absent member rows_below rows_to alone sharing matching same any all
three-open = refl

-- "end 3 18 160": 18 trials and a step for each set.
pub three-drained : (list_moves W every_set 21 (list_open W every_set) ≡ ended W three_sets) × (tests_in W every_set 21 (list_open W every_set) ≡ 160)
unfolding three three_cells first_cell row_start bit_of ones touches_in fits_in list_moves list_move list_tests tests_in list_open try take keep_if keep stored dec_memᴰ sets-discrete same_dec ℕ_discrete trial start piece joins members_below dropped stays tab extension grow walk row_test near agrees absent member rows_below rows_to alone sharing matching same any all
three-drained = (refl, refl)

-- They are all the maximal sets.
pub three-sets : (T : List ℕ) → Maximal W T ↔ Memᴰ T three_sets
three-sets T = drained-all W every_set (world-symmetric three three_cells) tt 21 three_sets three-drained.0 (omega arith) T

-- ---- keys that name rows

-- "set 1 1 1" does; without a row, with row 3 of table 0, with a row of table 3, and with a spare bit of either word (#110) a key does not.
pub three-named : (named three 16781313 ≡ true) × (named three 0 ≡ false) × (named three 3 ≡ false) × (named three (2 ^ 36) ≡ false)
    × (named three (number_in (16781313 + 2 ^ 60) 0) ≡ false) × (named three (number_in 16781313 (2 ^ 36)) ≡ false)
unfolding named missing beyond any row_of joined three
three-named = (refl, refl, refl, refl, refl, refl)
