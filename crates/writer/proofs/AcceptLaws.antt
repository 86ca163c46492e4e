-- Tables that the writer refuses for no reason but room are lawful and their rows are in order, and back. Assumes nothing.
use Prim.Native.Nat.{ℕ, zero, suc, ◌+◌, ◌≤◌, ◌<◌}
use native.Mathlib.Decide.{dec_lt}
use native.Mathlib.Omega.{arith}
use mathlib.Core.Path.{◌≡◌, refl, ◌∙◌}
use mathlib.Core.List.{List}
use lib.ListN.{length}
use Rattle.tables.specs.declared.Catalogue.{Catalogue}
use Rattle.tables.specs.Checks.{catalogue_fault}
use Rattle.tables.proofs.CheckLaws.{first_some, first-none, first-clear, fault-lawful, lawful-fault}
use Rattle.writer.specs.Write.{rows_refusal, cells_fault, write_fault, Accepted}

module _ (cat : Catalogue) (cells : List ℕ) where
  pub cells-none : (k t : ℕ) → k ≤ 0 → cells_fault k cat cells t ≡ 0
  unfolding cells_fault
  cells-none zero t z = refl
  cells-none (suc k) t z = absurd (omega arith)

  pub cells-bad : (k t : ℕ) → 0 < k → (rows_refusal cat cells t ≡ 0 → ⊥) → cells_fault k cat cells t ≡ rows_refusal cat cells t
  unfolding cells_fault
  cells-bad zero t z h = absurd (omega arith)
  cells-bad (suc k) t z h = first_some (rows_refusal cat cells t) (cells_fault k cat cells (t + 1)) h

  pub cells-more : (k l t : ℕ) → k ≡ suc l → rows_refusal cat cells t ≡ 0 → cells_fault k cat cells t ≡ cells_fault l cat cells (t + 1)
  unfolding cells_fault
  cells-more k l t e h = rw e (first-none (rows_refusal cat cells t) (cells_fault l cat cells (t + 1)) h)

  pub cells-clear : (k t : ℕ) → cells_fault k cat cells t ≡ 0 → (u : ℕ) → t ≤ u → u < t + k → rows_refusal cat cells u ≡ 0
  unfolding cells_fault
  cells-clear zero t e u l h = absurd (omega arith)
  cells-clear (suc k) t e u l h =
      let f = first-clear (rows_refusal cat cells t) (cells_fault k cat cells (t + 1)) e in
      elim (dec_lt t u) [
        | yes j ↦ cells-clear k (t + 1) f.1 u (omega arith) (omega arith)
        | no j ↦ let q : t ≡ u = omega arith in rw q at f.0
      ]

  pub clear-cells : (k t : ℕ) → ((u : ℕ) → t ≤ u → u < t + k → rows_refusal cat cells u ≡ 0) → cells_fault k cat cells t ≡ 0
  clear-cells zero t h = cells-none zero t (omega arith)
  clear-cells (suc k) t h =
      cells-more (suc k) k t refl (h t (omega arith) (omega arith)) ∙ clear-cells k (t + 1) (λ u l b. h u (omega arith) (omega arith))

  -- Tables that meet no refusal but room are accepted,
  pub fault-accepted : write_fault cat cells ≡ 0 → Accepted cat cells
  unfolding write_fault
  fault-accepted e =
      let f = first-clear (catalogue_fault cat (length cells)) (cells_fault cat.n cat cells 0) e in
      record { lawful = fault-lawful cat (length cells) f.0; rows = λ t h. cells-clear cat.n 0 f.1 t (omega arith) (omega arith) }

  -- and accepted tables meet none.
  pub accepted-fault : Accepted cat cells → write_fault cat cells ≡ 0
  unfolding write_fault
  accepted-fault A =
      first-none (catalogue_fault cat (length cells)) (cells_fault cat.n cat cells 0) (lawful-fault cat (length cells) A.lawful)
      ∙ clear-cells cat.n 0 (λ u l h. A.rows u (omega arith))
