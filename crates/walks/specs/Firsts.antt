-- The first of some numbers that passes a test. Assumes nothing.
use Rattle.std.specs.Prelude.{ℕ, ◌≤◌, ◌<◌, ◌≡◌, Bool, true, false}

-- i is the first of the numbers below k that passes; k where none does.
pub record FirstIn (k : ℕ) (ok : ℕ → Bool) (i : ℕ) : Type 0 where
  pub within : i ≤ k
  pub before : (j : ℕ) → j < i → ok j ≡ false
  pub found : i < k → ok i ≡ true

-- None of the numbers below k passes.
abbrev pub NoneIn : ℕ → (ℕ → Bool) → Type 0
NoneIn k ok = (i : ℕ) → i < k → ok i ≡ false
