-- The first that passes, and the cells of rows that lie one after the other. Assumes nothing.
use Prim.Native.Nat.{ℕ, ◌+◌, ◌*◌, ◌≤◌, ◌<◌}
use mathlib.Core.Path.{◌≡◌, ◌∙◌}
use mathlib.Core.Bool.{Bool, false}
use native.Mathlib.Omega.{arith}
use native.Mathlib.Nat.{suc-mul, mul-le-mul_right}
use native.Mathlib.Numerals.{add-one}
use lib.Count.{ones}
use Rattle.walks.specs.Merged.{row_in}
use Rattle.walks.specs.Firsts.{FirstIn, NoneIn}

-- ---- the first that passes

pub first-all : (k : ℕ) (ok : ℕ → Bool) → NoneIn k ok → FirstIn k ok k
first-all k ok h = record { within = omega arith; before = h; found = λ l. absurd (omega arith) }

pub first-none : (k : ℕ) (ok : ℕ → Bool) → ((i : ℕ) → ok i ≡ false) → FirstIn k ok k
first-none k ok h = first-all k ok (λ i l. h i)

pub first-same : (k : ℕ) (ok ok' : ℕ → Bool) (r : ℕ) → ((i : ℕ) → ok i ≡ ok' i) → FirstIn k ok' r → FirstIn k ok r
first-same k ok ok' r e f = record { within = f.within; before = λ i l. e i ∙ f.before i l; found = λ l. e r ∙ f.found l }

-- Rows of w cells that lie one after the other: where the next one begins, and that the cells of each are there where those of all k are.
pub start-next : (base w i : ℕ) → base + (i + 1) * w ≡ (base + i * w) + w
start-next base w i = rw (add-one i) (omega (arith, suc-mul i w))

pub start-inside : (base w i k lent : ℕ) → i < k → base + k * w ≤ lent → (base + i * w) + w ≤ lent
start-inside base w i k lent l h = omega (arith, suc-mul i w, mul-le-mul_right w l)

-- A row's cells are there where those of all k rows are.
pub row-inside : (scheme base i k lent : ℕ) → i < k → row_in base scheme k ≤ lent → row_in base scheme i + ones scheme ≤ lent
row-inside scheme base i k lent l h = start-inside base (ones scheme) i k lent l h
