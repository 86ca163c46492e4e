-- Tests over the numbers below a bound, and a decision as a test. What a true answer says stands in proofs/TestLaws. Assumes nothing.
use Rattle.std.specs.Prelude.{ℕ, zero, suc, ◌<◌, Bool, true, false, cond, ◌&&◌, ◌||◌}

-- Some number below k passes.
unfoldable pub any : ℕ → (ℕ → Bool) → Bool
any zero p = false
any (suc k) p = p k || any k p

-- Every number below k passes.
unfoldable pub all : ℕ → (ℕ → Bool) → Bool
all zero p = true
all (suc k) p = p k && all k p

-- A decision as a test.
unfoldable pub is_yes : {A : Type 0} → Dec A → Bool
is_yes (yes a) = true
is_yes (no h) = false

-- ---- the lowest number that passes

-- It, or that there is none.
pub data Lowest : Type 0 where
  lowest : ℕ → Lowest
  without : Lowest

-- The first of two, or else the second.
abbrev pub or_else : Lowest → Lowest → Lowest
or_else (lowest i) b = lowest i
or_else without b = b

-- Of the numbers below k.
unfoldable pub lowest_below : ℕ → (ℕ → Bool) → Lowest
lowest_below zero p = without
lowest_below (suc k) p = or_else (lowest_below k p) (cond (p k) (lowest k) without)

-- What naming i says, of what a yes of the test says: i has P, and none below it has.
pub record First (k : ℕ) (P : ℕ → Type 0) (i : ℕ) : Type 0 where
  pub low : i < k
  pub passes : P i
  pub before : (u : ℕ) → u < i → P u → ⊥
