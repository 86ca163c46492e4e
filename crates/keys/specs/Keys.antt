-- A row set as a number, over the bits w that a row number has in it. A set is the list of its row numbers, that of table i at place i, 0 for none.
-- What follows from them stands in proofs/KeyLaws (a key's rows and bits) and proofs/SetLaws (a set and its key). How the number lies in two words is
-- in specs/TwoWords. Assumes nothing.
use Rattle.std.specs.Prelude.{ℕ, ◌+◌, ◌*◌, ◌/◌, ◌%◌, ◌^◌, ◌<◌, List, [], ◌∷◌, get_or}
use Rattle.laws.specs.Lists.{tab}

-- "Row numbers grow to twelve bits" (#110). Those of table i lie above those of the tables before it, and are 0 where the set has no row of it.
abbrev pub bits_per_row : ℕ
bits_per_row = 12

-- "Tables n: 1 to 8, numbered from 0."
abbrev pub most_tables : ℕ
most_tables = 8

-- The row number of table t in a key.
unfoldable pub row_of : ℕ → ℕ → ℕ → ℕ
row_of w key t = key / 2 ^ (w * t) % 2 ^ w

-- The key with row r for table t: what stands above that row, r, what stands below it.
unfoldable pub with_row : ℕ → ℕ → ℕ → ℕ → ℕ
with_row w key t r = (key / 2 ^ (w * t) / 2 ^ w * 2 ^ w + r) * 2 ^ (w * t) + key % 2 ^ (w * t)

-- The key of a set.
unfoldable pub key_of : ℕ → List ℕ → ℕ
key_of w [] = 0
key_of w (r ∷ T) = key_of w T * 2 ^ w + r

-- The set of a key, among n tables.
unfoldable pub rows_in : ℕ → ℕ → ℕ → List ℕ
rows_in w n key = tab n (row_of w key)

-- Every row number of a set has room in w bits.
abbrev pub Small : ℕ → List ℕ → Type 0
Small w T = (t : ℕ) → get_or T t 0 < 2 ^ w
