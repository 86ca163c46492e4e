-- A row's cells read one after the other: as the set bits of its scheme are gone through from the lowest, the place of the next one's cell goes along,
-- one further for each bit. Assumes nothing.
use Prim.Native.Nat.{ℕ, ◌+◌, ◌-◌, ◌%◌, ◌^◌}
use mathlib.Core.Path.{◌≡◌, refl}
use native.Mathlib.Omega.{arith}
use lib.Count.{ones}
use Rattle.words.specs.Words.{LowestBit}
use Rattle.words.proofs.WordLaws.{ones-less, LeftOf, left-ones, left-next}

-- The bits `rest` of the scheme are left, and their cells begin at `place`.
pub record Cursor (scheme start rest place : ℕ) : Type 0 where
  pub left : LeftOf scheme rest
  pub counted : place + ones rest ≡ start + ones scheme

pub cursor-start : (scheme start : ℕ) → Cursor scheme start scheme start
cursor-start scheme start = record { left = λ v b y. refl; counted = refl }

module _ (scheme start rest place w a : ℕ) (k : Cursor scheme start rest place) (l : LowestBit w rest a) where
  pub cursor-here : place ≡ start + ones (scheme % 2 ^ a)
  cursor-here = omega (arith, k.counted, left-ones scheme rest w a k.left l)

  pub cursor-next : Cursor scheme start (rest - 2 ^ a) (place + 1)
  cursor-next = record { left = left-next scheme rest w a k.left l; counted = omega (arith, k.counted, ones-less rest a l.itself) }
