-- The refusals of a table: they are the image writer's of a table alone, in version 1. Assumes nothing.
use Prim.Native.Nat.{ℕ, zero, suc, ◌+◌, ◌*◌}
use native.Mathlib.Nat.{zero-add}
use native.Mathlib.Omega.{arith}
use mathlib.Core.Path.{◌≡◌, refl}
use mathlib.Core.Bool.{Bool, true, false, cond, ◌||◌}
use mathlib.Core.List.{List, [], ◌∷◌}
use lib.ListN.{length, drop}
use lib.Seq.{drop-drop}
use lib.Count.{ones}
use lib.Dec.{ltb}
use Rattle.laws.specs.Lists.{part}
use Rattle.tables.specs.Sizes.{most_attributes, most_rows, most_cells, version_one}
use Rattle.tables.specs.Checks.{first_met, outside, size_fault, bad_scheme, count_fault, table_fault as table_fault_of}
use Rattle.tables.specs.Versions.{blank}
use Rattle.tables.proofs.VersionLaws.{blank-other}
use Rattle.writer.specs.Write.{too_high as too_high_of, rows_fault as rows_fault_of}
use Rattle.text.specs.Writing.{cut, too_high, rows_fault, all_fault, table_fault, write_fault}

-- ---- 10 and 7

pub high_is : (r : List ℕ) → too_high_of r ≡ too_high r
unfolding too_high too_high_of
high_is [] = refl
high_is (x ∷ r) = rw (high_is r)

-- In version 1 no row is 21.
pub none-blank : (r : List ℕ) → blank version_one r ≡ false
none-blank r = blank-other version_one r (λ e. absurd (omega arith))

module _ (w : ℕ) (cells : List ℕ) where
  later_rows : (k before at : ℕ) → rows_fault_of k w cells version_one false before at ≡ rows_fault (part before w cells) (cut k w (drop at cells))
  unfolding rows_fault rows_fault_of cut
  later_rows zero before at = refl
  later_rows (suc k) before at = rw (high_is (part at w cells), none-blank (part at w cells), later_rows k at (at + w), ← drop-drop w at cells)

  pub all-rows : (k : ℕ) → rows_fault_of k w cells version_one true 0 0 ≡ all_fault (cut k w cells)
  unfolding all_fault rows_fault_of cut
  all-rows zero = refl
  all-rows (suc k) = rw (high_is (part 0 w cells), none-blank (part 0 w cells), later_rows k 0 (0 + w), ← drop-drop w 0 cells)

-- ---- 4, 5, 6 and 8

-- m is looked at as beside one table, and the table as the first.
pub table-alone : (m x count lent : ℕ) → first_met (size_fault m 1) (table_fault_of m lent 0 x count) ≡ table_fault m x count lent
unfolding size_fault table_fault_of count_fault table_fault
table-alone m x count lent =
    rw (zero-add (count * ones x))
    (by (outside 1 most_attributes m) (cond (bad_scheme m x) 5 (cond (ltb most_rows count) 6 (cond (ltb most_cells (count * ones x) || ltb lent (count * ones x)) 8 0))))
  where
    by : (bad : Bool) (later : ℕ) → first_met (cond bad 4 0) later ≡ cond bad 4 later
    by true later = refl
    by false later = refl

-- The table's own refusal, then its rows': what a write meets, by the test that is the first to meet one.
module _ (m x count : ℕ) (cells : List ℕ) where
  write-is : write_fault m x count cells ≡ first_met (first_met (size_fault m 1) (table_fault_of m (length cells) 0 x count)) (all_fault (cut count (ones x) cells))
  unfolding write_fault
  write-is = rw (table-alone m x count (length cells))

  pub write-sizes : (k : ℕ) → k ≡ size_fault m 1 → (k ≡ 0 → ⊥) → k ≡ write_fault m x count cells
  write-sizes k e n = rw (write-is, ← e) (by k n)
    where
      by : (k : ℕ) → (k ≡ 0 → ⊥) → k ≡ first_met (first_met k (table_fault_of m (length cells) 0 x count)) (all_fault (cut count (ones x) cells))
      by zero n = absurd (n refl)
      by (suc k) n = refl

  module _ (sizes : size_fault m 1 ≡ 0) where
    pub write-table : (k : ℕ) → k ≡ table_fault_of m (length cells) 0 x count → (k ≡ 0 → ⊥) → k ≡ write_fault m x count cells
    write-table k e n = rw (write-is, sizes, ← e) (by k n)
      where
        by : (k : ℕ) → (k ≡ 0 → ⊥) → k ≡ first_met k (all_fault (cut count (ones x) cells))
        by zero n = absurd (n refl)
        by (suc k) n = refl

    pub write-rows : table_fault_of m (length cells) 0 x count ≡ 0 → all_fault (cut count (ones x) cells) ≡ write_fault m x count cells
    write-rows e = rw (write-is, sizes, e)
