-- A column that does not fall: what makes it one, and how a halving in it narrows down. Assumes nothing.
use Prim.Native.Nat.{ℕ, zero, suc, ◌+◌, ◌-◌, ◌*◌, ◌≤◌, ◌<◌}
use mathlib.Core.Path.{◌≡◌}
use mathlib.Core.List.{List}
use native.Mathlib.Omega.{arith}
use native.Mathlib.Decide.{dec_lt}
use native.Mathlib.Numerals.{sub-one}
use lib.ListN.{get_or}
use Rattle.walks.specs.Merged.{Rising}

-- The first of k rows, from row i on, with a code not below v lies among `left` rows from row `from` on, or right behind them.
pub record Halving (cells : List ℕ) (first w i k v from left : ℕ) : Type 0 where
  pub start : i ≤ from
  pub within : from + left ≤ k
  pub before : (j : ℕ) → j < from → i ≤ j → get_or cells (first + j * w) 0 < v
  pub behind : (j : ℕ) → from + left ≤ j → j < k → v ≤ get_or cells (first + j * w) 0

module _ (cells : List ℕ) (first w : ℕ) where
  -- Row j's code.
  abbrev code : ℕ → ℕ
  code j = get_or cells (first + j * w) 0

  each : (k : ℕ) → ((r : ℕ) → 0 < r → r < k → code (r - 1) ≤ code r) → (i j : ℕ) → i ≤ j → j < k → code i ≤ code j
  each k h i zero l b = let e : i ≡ 0 = omega arith in rw e (omega arith)
  each k h i (suc j) l b = go (dec_lt i (suc j)) (each k h i j) (rw sub-one at (h (suc j) (omega arith) b))
    where
      go : Dec (i < suc j) → (i ≤ j → j < k → code i ≤ code j) → code j ≤ code (suc j) → code i ≤ code (suc j)
      go (yes d) f s = omega (arith, f (omega arith) (omega arith), s)
      go (no g) f s = let e : i ≡ suc j = omega arith in rw e (omega arith)

  -- Where no row has a smaller code than the one before it, none has a smaller one than any before it.
  pub rising-steps : (k : ℕ) → ((r : ℕ) → 0 < r → r < k → code (r - 1) ≤ code r) → Rising cells first w k
  rising-steps k h = record { each = each k h }
