-- Worked keys: one row in each word's first and last table, and a spare bit of each word. By computing the definitions. Assumes nothing.
use Prim.Native.Nat.{ℕ, ◌+◌, ◌*◌, ◌^◌}
use mathlib.Core.Bool.{true, false}
use mathlib.Core.List.{[], ◌∷◌}
use mathlib.Core.Path.{◌≡◌, refl}
use Rattle.words.specs.Words.{bit_of}
use Rattle.keys.specs.Keys.{bits_per_row, row_of, key_of}
use Rattle.keys.specs.TwoWords.{joined, first_word, second_word, number_in, low_of, high_of}

-- Row 1 of table 0, 4,095 of table 4, 256 of table 5 and 7 of table 7.
abbrev key : ℕ
key = key_of bits_per_row (1 ∷ 0 ∷ 0 ∷ 0 ∷ 4095 ∷ 256 ∷ 0 ∷ 7 ∷ [])

-- Tables 0 to 4 lie in the first word, 5 to 7 in the second.
pub its-words : (low_of key ≡ 1 + 4095 * 2 ^ 48) × (high_of key ≡ 256 + 7 * 2 ^ 24)
unfolding key_of first_word second_word
its-words = (refl, refl)

pub its-rows : (row_of bits_per_row key 4 ≡ 4095) × (row_of bits_per_row key 5 ≡ 256) × (row_of bits_per_row key 6 ≡ 0) × (row_of bits_per_row key 7 ≡ 7)
unfolding key_of row_of
its-rows = (refl, refl, refl, refl)

-- "At depth d the search takes bit d mod 12 of table d / 12's row": 256 is bit 8 alone, and table 5 begins at depth 60.
pub its-bits : (bit_of key 67 ≡ false) × (bit_of key 68 ≡ true) × (bit_of key 69 ≡ false)
unfolding key_of bit_of
its-bits = (refl, refl, refl)

-- The lowest spare bit of the first word, and that of the second, stand above the 96 bits of eight tables.
pub spare-bits : (number_in (2 ^ 60) 0 ≡ 2 ^ 124) × (number_in 0 (2 ^ 36) ≡ 2 ^ 96)
unfolding joined
spare-bits = (refl, refl)
