-- The check of a list on document 01's sample, run by the definitions: its three sets in two orders, and each kind of 'no'. Assumes nothing.
use Prim.Native.Nat.{ℕ}
use native.Mathlib.Decide.{ℕ_discrete}
use mathlib.Core.Path.{◌≡◌, refl}
use mathlib.Core.List.{List, [], ◌∷◌}
use lib.Count.{ones}
use Rattle.laws.specs.Tests.{any, all, is_yes, lowest_below}
use Rattle.laws.specs.Lists.{tab}
use Rattle.words.specs.Words.{bit_of}
use Rattle.keys.specs.Keys.{row_of, key_of, rows_in}
use Rattle.tables.specs.Sample.{three, three_cells}
use Rattle.tables.specs.Catalogues.{first_cell, touch, touching_below, row_start, rows_before}
use Rattle.tables.specs.Checks.{size_fault, bad_scheme, count_fault, table_fault, tables_fault, shape_fault, misstored, stored_fault, catalogue_fault}
use Rattle.disjunction.specs.Rule.{rows_to, rows_below, member, absent, near, agrees, row_test, walk, grow, extension, stays, dropped, alone, joins, members_below, piece, start, trial}
use Rattle.disjunction.specs.Cells.{same, sharing, matching}
use Rattle.disjunction.specs.Keeping.{same_dec, sets-discrete, dec_memᴰ, list_open}
use Rattle.disjunction.specs.Standing.{same_set, valid, gives_back, standing}
use Rattle.rows.specs.World.{touches_in, fits_in}
use Rattle.rows.specs.Named.{missing, beyond, named}
use Rattle.keys.specs.TwoWords.{joined, first_word, second_word, number_in, key_with}
use Rattle.hub.specs.Answers.{ListVerdict, Right, Entry, Missing}
use Rattle.hub.specs.Verdicts.{listed, seek, spoilt, tried, tried_on, reached, verdict}
use Rattle.hub.specs.Promises.{word_set, checked}

-- The check of these keys.
abbrev asks : List ℕ → ListVerdict
asks keys = checked three three_cells keys

-- Right in any order; a repeat, a set that is not maximal, 0 and a table that is not there; one left out; the empty list; and row 1 of table 0 with a spare
-- bit of the first word, and with one of the second.
pub sample-lists : (asks (16781313 ∷ (33554434 ∷ (8192 ∷ []))) ≡ Right)
    × (asks (8192 ∷ (16781313 ∷ (33554434 ∷ []))) ≡ Right)
    × (asks (16781313 ∷ (33554434 ∷ (16781313 ∷ (8192 ∷ [])))) ≡ Entry 2)
    × (asks (16781313 ∷ (2 ∷ (8192 ∷ []))) ≡ Entry 1)
    × (asks (0 ∷ []) ≡ Entry 0)
    × (asks (68719476736 ∷ []) ≡ Entry 0)
    × (asks (16781313 ∷ (8192 ∷ [])) ≡ Missing (key_with 33554434))
    × (asks [] ≡ Missing (key_with 16781313))
    × (asks (number_in 1152921504606846977 0 ∷ []) ≡ Entry 0)
    × (asks (number_in 1 68719476736 ∷ []) ≡ Entry 0)
unfolding joined first_word second_word three three_cells checked verdict lowest_below spoilt standing valid gives_back same_set is_yes sets-discrete same_dec listed dec_memᴰ seek tried tried_on reached list_open word_set named missing beyond catalogue_fault shape_fault stored_fault misstored touching_below touch size_fault tables_fault table_fault bad_scheme count_fault first_cell row_start rows_before touches_in fits_in sharing matching same bit_of ones row_of key_of rows_in tab extension grow walk row_test near agrees absent member rows_below rows_to alone joins members_below piece start stays dropped trial any all ℕ_discrete
sample-lists = (refl, refl, refl, refl, refl, refl, refl, refl, refl, refl)
