-- Document 01's sample, run by the definitions: open, all calls until the end, and the same in a store that is too short. Assumes nothing.
use Prim.Native.Nat.{ℕ}
use mathlib.Core.Path.{◌≡◌, refl}
use mathlib.Core.List.{List, [], ◌∷◌}
use lib.ListN.{replicate}
use lib.Count.{ones}
use Rattle.laws.specs.Tests.{any, all}
use Rattle.laws.specs.Lists.{tab}
use Rattle.words.specs.Words.{bit_of}
use Rattle.keys.specs.Keys.{row_of, key_of, rows_in}
use Rattle.keys.specs.TwoWords.{joined, first_word, second_word}
use Rattle.tables.specs.Sample.{three, three_cells}
use Rattle.tables.specs.Catalogues.{first_cell, row_start, touch, touching_below, rows_before}
use Rattle.tables.specs.Checks.{size_fault, bad_scheme, count_fault, table_fault, tables_fault, shape_fault, misstored, stored_fault, catalogue_fault}
use Rattle.disjunction.specs.Rule.{rows_to, rows_below, member, absent, near, agrees, row_test, walk, grow, extension, stays, dropped, alone, joins, members_below, piece, start, trial}
use Rattle.disjunction.specs.Cells.{same, sharing, matching, gives, code_below, padded}
use Rattle.rows.specs.World.{touches_in, fits_in}
use Rattle.rows.specs.Named.{missing, beyond, named, rows_there}
use Rattle.store.specs.Store as Store
use Rattle.store.specs.Store.{link_of, search_of, filed, added, answer_of, store_after}
use Rattle.machine.specs.Machine.{placed, offered, trial_on, Says, a_set, finished, refused, Called, hand_out, due_or, work, unfit, call_fault, call, Opened, open_fault, begun, opening, opening_holding, opening_for}
use Rattle.machine.specs.Runs.{Given, run_of, handed, sum}

-- Opened in a store of c records that starts as zeros.
unfoldable pub first : ℕ → Opened
first c = opening three three_cells (replicate c 0) (replicate c 0) (replicate c 0) (replicate c 0)

-- "tables 3 3 6 14"
pub open-says : ((first 4).refusal ≡ 0) × ((first 4).tests ≡ 14)
unfolding three three_cells first opening_for open_fault begun catalogue_fault shape_fault stored_fault misstored touching_below touch size_fault tables_fault table_fault bad_scheme count_fault first_cell row_start rows_before touches_in fits_in sharing matching same bit_of ones filed joined first_word second_word key_of extension grow walk row_test near agrees absent member rows_below rows_to alone any all
open-says = (refl, refl)

-- A call with all the trials that it can want, and a padded row of four cells, of which the last one stays.
abbrev pub asked : Given
asked = record { budget = 30; row = 7 ∷ 7 ∷ 7 ∷ 7 ∷ [] }

-- What calls hand out, and the sums of their counts.
pub record Listing : Type 0 where
  pub keys : List ℕ
  pub trials : ℕ
  pub tests : ℕ
  pub looks : ℕ

unfoldable pub listing : List Called → Listing
listing l = record { keys = handed l; trials = sum (λ s. s.trials) l; tests = sum (λ s. s.tests) l; looks = sum (λ s. s.looks) l }

-- What calls answer, and what their padded rows then hold.
unfoldable pub answers : List Called → List Says
answers [] = []
answers (s ∷ l) = s.says ∷ answers l

unfoldable pub rows_after : List Called → List (List ℕ)
rows_after [] = []
rows_after (s ∷ l) = s.row ∷ rows_after l

unfoldable pub calls : ℕ → List Called
calls c = run_of (call three three_cells) (asked ∷ asked ∷ asked ∷ asked ∷ []) (first c).after

-- The same, asked for the sets that hold row r of table t (#109), in a store of one record.
unfoldable pub first_with : ℕ → ℕ → Opened
first_with t r = opening_holding three three_cells (record { table = t; row = r }) (0 ∷ []) (0 ∷ []) (0 ∷ []) (0 ∷ [])

unfoldable pub calls_with : ℕ → ℕ → List Called
calls_with t r = run_of (call three three_cells) (asked ∷ asked ∷ []) (first_with t r).after

-- "set 1 1 1", "set 2 0 2", "set 0 2 0"; "end 3 18 160 28"; and the rows "1 10 7", "2 20 -", "- 4294967306 9", as codes.
-- In a store of two records one set is handed out, and the fourth trial on it finds a third one: it is not counted, and every later call meets it again.
pub sample-runs : (listing (calls 4) ≡ record { keys = 16781313 ∷ 33554434 ∷ 8192 ∷ []; trials = 18; tests = 160; looks = 28 })
    × (answers (calls 4) ≡ a_set ∷ a_set ∷ a_set ∷ finished ∷ [])
    × (rows_after (calls 4) ≡ (2 ∷ 11 ∷ 8 ∷ 7 ∷ []) ∷ (3 ∷ 21 ∷ 0 ∷ 7 ∷ []) ∷ (0 ∷ 4294967307 ∷ 10 ∷ 7 ∷ []) ∷ (7 ∷ 7 ∷ 7 ∷ 7 ∷ []) ∷ [])
    × (listing (calls 2) ≡ record { keys = 16781313 ∷ []; trials = 3; tests = 24; looks = 3 })
    × (answers (calls 2) ≡ a_set ∷ refused 12 ∷ refused 12 ∷ refused 12 ∷ [])
unfolding answers rows_after sum handed listing calls run_of call call_fault work unfit due_or hand_out trial_on offered placed answer_of store_after added Store.named search_of Store.walk link_of three three_cells first opening_for open_fault begun catalogue_fault shape_fault stored_fault misstored touching_below touch size_fault tables_fault table_fault bad_scheme count_fault first_cell row_start rows_before named missing beyond rows_in row_of key_of filed joined first_word second_word bit_of ones touches_in fits_in sharing matching same trial start piece joins members_below dropped stays tab extension grow walk row_test near agrees absent member rows_below rows_to alone any all padded code_below gives
sample-runs = (refl, refl, refl, refl, refl)

-- Row 2 of table 2 stands in one set, "set 2 0 2": six trials lie behind it, of which two find it again and four make no search. Rows 0 and 3 of a table
-- are not there, and neither is table 3.
pub row-runs : (listing (calls_with 2 2) ≡ record { keys = 33554434 ∷ []; trials = 6; tests = 54; looks = 2 })
    × (answers (calls_with 2 2) ≡ a_set ∷ finished ∷ [])
    × ((first_with 2 2).refusal ≡ 0) × ((first_with 2 0).refusal ≡ 19) × ((first_with 2 3).refusal ≡ 19) × ((first_with 3 1).refusal ≡ 19)
unfolding rows_there answers rows_after sum handed listing calls_with first_with run_of call call_fault work unfit due_or hand_out trial_on offered placed answer_of store_after added Store.named search_of Store.walk link_of three three_cells opening_for open_fault begun catalogue_fault shape_fault stored_fault misstored touching_below touch size_fault tables_fault table_fault bad_scheme count_fault first_cell row_start rows_before named missing beyond rows_in row_of key_of filed joined first_word second_word bit_of ones touches_in fits_in sharing matching same trial start piece joins members_below dropped stays tab extension grow walk row_test near agrees absent member rows_below rows_to alone any all padded code_below gives
row-runs = (refl, refl, refl, refl, refl, refl)
