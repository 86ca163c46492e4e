-- A key as it lies in two words (#110). In the theory it stays one number, and a number is one pair of words, whatever bits of them are set.
-- What follows from these stands in proofs/TwoWordLaws. Assumes nothing.
use Rattle.std.specs.Prelude.{ℕ, ◌+◌, ◌-◌, ◌*◌, ◌/◌, ◌%◌, ◌^◌, ◌<◌, ◌≡◌, ◌⊎◌}
use Rattle.keys.specs.Keys.{bits_per_row, most_tables}
use Rattle.keys.specs.declared.Key.{Key}

-- "A set's key becomes two 64-bit words: .."
abbrev pub bits_per_word : ℕ
bits_per_word = 64

-- ".. tables 0 to 4 in the first from its lowest bit on, 5 to 7 in the second."
abbrev pub tables_in_low : ℕ
tables_in_low = 5

-- How many bits of the first word belong to a table, ..
abbrev pub bits_in_low : ℕ
bits_in_low = bits_per_row * tables_in_low

-- .. and how many of the second. The others are spare.
abbrev pub bits_in_high : ℕ
bits_in_high = bits_per_row * (most_tables - tables_in_low)

-- Two words of `wide` bits as one number, where b bits of the first belong to tables: these are lowest, the second word stands above them, and above
-- all stands the rest of the first word. So a spare bit of either word stands above every row.
unfoldable pub joined : ℕ → ℕ → ℕ → ℕ → ℕ
joined b wide low high = (low / 2 ^ b * 2 ^ wide + high) * 2 ^ b + low % 2 ^ b

-- The first word of a number, ..
unfoldable pub first_word : ℕ → ℕ → ℕ → ℕ
first_word b wide k = k / 2 ^ b / 2 ^ wide * 2 ^ b + k % 2 ^ b

-- .. and the second.
unfoldable pub second_word : ℕ → ℕ → ℕ → ℕ
second_word b wide k = k / 2 ^ b % 2 ^ wide

-- The key of two words, as a number, ..
abbrev pub number_in : ℕ → ℕ → ℕ
number_in low high = joined bits_in_low bits_per_word low high

-- .. and that number's words.
abbrev pub low_of : ℕ → ℕ
low_of k = first_word bits_in_low bits_per_word k

abbrev pub high_of : ℕ → ℕ
high_of k = second_word bits_in_low bits_per_word k

-- The same of the machine's key.
abbrev pub number_of : Key → ℕ
number_of key = number_in key.low key.high

abbrev pub key_with : ℕ → Key
key_with k = record { low = low_of k; high = high_of k }

-- "Where keys are put in order, the second word counts first."
abbrev pub Before : Key → Key → Type 0
Before a b = (a.high < b.high) ⊎ ((a.high ≡ b.high) × (a.low < b.low))
