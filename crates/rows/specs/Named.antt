-- Which keys name rows that are there (document 01, refusal 14), as a test and as what its yes says; `named-iff` of proofs/NamedLaws ties the two.
-- Nothing is asked of the rows together: those of a damaged record need not fit each other. Assumes nothing.
use Rattle.std.specs.Prelude.{ℕ, ◌*◌, ◌^◌, ◌≤◌, ◌<◌, Bool, not, cond, ◌||◌, ltb, leb, eqb}
use Rattle.laws.specs.Tests.{any}
use Rattle.keys.specs.Keys.{bits_per_row, row_of}
use Rattle.tables.specs.declared.Catalogue.{Catalogue}
use Rattle.tables.specs.Catalogues.{count_of}

-- "Names a missing row": some table's row number passes its count.
unfoldable pub missing : Catalogue → ℕ → Bool
missing cat key = any cat.n (λ t. ltb (count_of cat t) (row_of bits_per_row key t))

-- "Or a table from n on": something stands above the rows of the first n tables. So does a spare bit of either word of a key, which "names a missing
-- row" (#110).
unfoldable pub beyond : Catalogue → ℕ → Bool
beyond cat key = leb (2 ^ (bits_per_row * cat.n)) key

-- "14 is met when a used record's key is 0 or names a missing row or a table from n on."
unfoldable pub named : Catalogue → ℕ → Bool
named cat key = not (eqb key 0 || missing cat key || beyond cat key)

-- What it is for a key not to be refused so.
pub record Named (cat : Catalogue) (key : ℕ) : Type 0 where
  pub some : 0 < key
  pub low : key < 2 ^ (bits_per_row * cat.n)
  pub rows : (t : ℕ) → t < cat.n → row_of bits_per_row key t ≤ count_of cat t

-- Row r of table t is there.
pub record There (cat : Catalogue) (t r : ℕ) : Type 0 where
  pub table : t < cat.n
  pub low : 0 < r
  pub high : r ≤ count_of cat t

-- How many rows table t has: none from n on.
unfoldable pub rows_there : Catalogue → ℕ → ℕ
rows_there cat t = cond (ltb t cat.n) (count_of cat t) 0
