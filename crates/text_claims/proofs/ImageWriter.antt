-- "The text writer refuses a table as the image writer refuses one table alone, 21 aside": its tests are the image writer's on a catalogue of one table.
-- Assumes nothing.
use Prim.Native.Nat.{ℕ, zero, suc, ◌+◌, ◌*◌, ◌≤◌}
use native.Mathlib.Nat.{zero-add}
use native.Mathlib.Omega.{arith}
use mathlib.Core.Path.{◌≡◌, refl, sym, ◌∙◌}
use mathlib.Core.Bool.{Bool, true, false, cond, ◌||◌}
use mathlib.Core.List.{List}
use lib.ListN.{length}
use lib.Count.{ones}
use lib.Dec.{ltb}
use Rattle.laws.specs.Lists.{part}
use Rattle.tables.specs.Sizes.{most_attributes, most_rows, most_rows_one, most_cells, version_one}
use Rattle.tables.specs.Catalogues.{first_cell, touching_of}
use Rattle.tables.specs.Rows.{below}
use Rattle.tables.specs.Checks.{first_met, outside, size_fault, bad_scheme, count_fault, table_fault as table_fault_of, tables_fault, shape_fault, stored_fault, catalogue_fault}
use Rattle.tables.specs.Versions.{version_of, blank}
use Rattle.tables.proofs.CheckLaws.{stored-right, stored-good}
use Rattle.tables.proofs.StoredLaws.{for-at, filled-first, filled-touching}
use Rattle.tables.proofs.VersionLaws.{long-none, version-one}
use Rattle.writer.specs.Write.{too_high as too_high_of, rows_fault as rows_fault_of, cells_fault, write_fault as image_fault}
use Rattle.text.specs.Writing.{table_fault, write_fault}
use Rattle.exporter.proofs.CheckLaws.{none-blank, all-rows}
use Rattle.text_claims.specs.TextClaims.{said_alone, alone, SameRefusals}

-- ---- 10 and 7

module _ (w : ℕ) (cells : List ℕ) where
  -- Rows whose refusal is not 21 meet the one that they meet in version 1.
  rows_aside : (v k : ℕ) (first : Bool) (before at : ℕ) → (rows_fault_of k w cells v first before at ≡ 21 → ⊥)
      → rows_fault_of k w cells v first before at ≡ rows_fault_of k w cells version_one first before at
  unfolding rows_fault_of
  rows_aside v zero first before at h = refl
  rows_aside v (suc k) first before at h =
      rw (none-blank (part at w cells))
      (by (too_high_of (part at w cells)) (blank v (part at w cells)) (first || below (part before w cells) (part at w cells))
      (rows_fault_of k w cells v false at (at + w)) (rows_fault_of k w cells version_one false at (at + w)) (rows_aside v k false at (at + w)) h)
    where
      by : (high null rises : Bool) (a b : ℕ) → ((a ≡ 21 → ⊥) → a ≡ b) → (cond high 10 (cond null 21 (cond rises a 7)) ≡ 21 → ⊥)
          → cond high 10 (cond null 21 (cond rises a 7)) ≡ cond high 10 (cond rises b 7)
      by true null rises a b ih g = refl
      by false true rises a b ih g = absurd (g refl)
      by false false true a b ih g = ih g
      by false false false a b ih g = refl

-- ---- the tests in their order

first-only : (r : ℕ) → first_met r 0 ≡ r
first-only zero = refl
first-only (suc r) = refl

first-aside : (f a b : ℕ) → ((a ≡ 21 → ⊥) → a ≡ b) → (first_met f a ≡ 21 → ⊥) → first_met f a ≡ first_met f b
first-aside zero a b g h = g h
first-aside (suc f) a b g h = refl

in-turn : (a b c d : Bool) → first_met (first_met (cond a 4 0) (first_met (cond b 5 (cond c 6 (cond d 8 0))) 0)) 0 ≡ cond a 4 (cond b 5 (cond c 6 (cond d 8 0)))
in-turn true b c d = refl
in-turn false true c d = refl
in-turn false false true d = refl
in-turn false false false true = refl
in-turn false false false false = refl

module _ (m x count : ℕ) (cells : List ℕ) where
  -- What is stored of the table is what is worked out.
  stored-alone : stored_fault (alone m x count) ≡ 0
  stored-alone =
      stored-good (alone m x count)
      (λ t l. stored-right (alone m x count) t
      (for-at 1 (first_cell (said_alone m x count)) t l (omega arith) ∙ sym (filled-first (said_alone m x count) t))
      (for-at 1 (touching_of (said_alone m x count)) t l (omega arith) ∙ sym (filled-touching (said_alone m x count) t 1)))

  catalogue-alone : catalogue_fault (alone m x count) (length cells) ≡ table_fault m x count (length cells)
  unfolding catalogue_fault shape_fault size_fault tables_fault table_fault_of count_fault first_cell table_fault
  catalogue-alone =
      rw (stored-alone, zero-add (count * ones x))
      (in-turn (outside 1 most_attributes m) (bad_scheme m x) (ltb most_rows count)
      (ltb most_cells (count * ones x) || ltb (length cells) (count * ones x)))

  -- The rows as the image writer looks at them, in the version v.
  abbrev rows_in : ℕ → ℕ
  rows_in v = rows_fault_of count (ones x) cells v true 0 0

  image-alone : image_fault (alone m x count) cells ≡ first_met (table_fault m x count (length cells)) (rows_in (version_of (alone m x count)))
  unfolding image_fault cells_fault first_cell
  image-alone = rw (catalogue-alone, first-only (rows_in (version_of (alone m x count))))

  text-alone : write_fault m x count cells ≡ first_met (table_fault m x count (length cells)) (rows_in version_one)
  unfolding write_fault
  text-alone = rw (all-rows (ones x) cells count)

  short-one : count ≤ most_rows_one → version_of (alone m x count) ≡ version_one
  short-one h =
      version-one (alone m x count)
      (long-none (alone m x count) (λ t l. let z : t ≡ 0 = omega (arith, l) in rw z h))

  pub same-refusals : SameRefusals m x count cells
  same-refusals =
      record {
        aside = λ h.
            text-alone ∙ sym (image-alone
            ∙ first-aside (table_fault m x count (length cells)) (rows_in (version_of (alone m x count))) (rows_in version_one)
            (rows_aside (ones x) cells (version_of (alone m x count)) count true 0 0) (λ e. h (image-alone ∙ e)));
        short = λ h. text-alone ∙ sym (image-alone ∙ rw (short-one h) refl);
        tests = text-alone ∙ rw catalogue-alone refl;
      }
