-- The bits of a word, counted from the lowest, which is bit 0. What follows from them stands in proofs/WordLaws. Assumes nothing.
use Rattle.std.specs.Prelude.{ℕ, ◌-◌, ◌/◌, ◌%◌, ◌^◌, ◌<◌, ◌≡◌, Bool, true, false, Option, Some, None, eqb}

-- Bit d of a word is 1.
unfoldable pub bit_of : ℕ → ℕ → Bool
bit_of word d = eqb (word / 2 ^ d % 2) 1

-- Bit a is the lowest that is set in a word of `width` bits.
pub record LowestBit (width word a : ℕ) : Type 0 where
  pub narrow : a < width
  pub itself : bit_of word a ≡ true
  pub below : (d : ℕ) → d < a → bit_of word d ≡ false

-- The set bits of a word, one after the other: the lowest comes, and the word is left without it; none comes from 0.
abbrev pub NextBit : ℕ → Option ℕ → ℕ → Type 0
NextBit word None rest = (word ≡ 0) × (rest ≡ 0)
NextBit word (Some a) rest = LowestBit 64 word a × (rest ≡ word - 2 ^ a)
