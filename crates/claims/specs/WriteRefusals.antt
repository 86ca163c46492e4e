-- Demand 1 of the writer: each refusal "given exactly when its condition holds and no earlier one does". "Write checks in image order: 4 (m, then n); per
-- table 5, 6, 8; per row 10, then 7; last 11"; 16 "after these over all tables and before the first cell" (#106); 21 "before 7" (#111).
-- Proved in proofs/WriteExactly. Assumes nothing.
use Rattle.std.specs.Prelude.{ℕ, ◌-◌, ◌^◌, ◌≤◌, ◌<◌, ◌≡◌, ◌⊎◌, ◌↔◌, false, length}
use mathlib.Core.List.{List, Memᴰ}
use Rattle.std.specs.Int.Count.{ones}
use Rattle.laws.specs.Lists.{part}
use Rattle.tables.specs.declared.Catalogue.{Catalogue}
use Rattle.tables.specs.Sizes.{most_rows_one}
use Rattle.tables.specs.Catalogues.{scheme_of, count_of, row_start}
use Rattle.tables.specs.Rows.{below}
use Rattle.writer.specs.Written.{Length, Refused}
use Rattle.writer.specs.Write.{image_of, written}
use Rattle.tables.specs.Checks.{Lawful}
use Rattle.claims.specs.CatalogueRefusals.{SizesOut, BadScheme, ManyRows, ManyCells, ComesTo, Misstored, ComesToStored, OfCatalogue}

-- "Images with a table above 255 rows carry version 2" (#110): some table is.
abbrev pub NeedsTwo : Catalogue → Type 0
NeedsTwo cat = (t : ℕ) × (t < cat.n) × (most_rows_one < count_of cat t)

module _ (cat : Catalogue) (cells : List ℕ) where
  -- The cells of row r of table t; rows are numbered from 1.
  abbrev pub row_cells : ℕ → ℕ → List ℕ
  row_cells t r = part (row_start cat t r) (ones (scheme_of cat t)) cells

  -- "10: a cell code of 2^63 or more"
  abbrev pub HighCode : ℕ → ℕ → Type 0
  HighCode t r = (x : ℕ) × Memᴰ x (row_cells t r) × (2 ^ 63 ≤ x)

  -- "21, an all-null row where version 2 .. would be written" (#111): some table passes 255 rows, and every code of the row is 0, for null
  abbrev pub AllNull : ℕ → ℕ → Type 0
  AllNull t r = NeedsTwo cat × ((x : ℕ) → Memᴰ x (row_cells t r) → x ≡ 0)

  -- "7: a row doesn't rise above the one before"
  abbrev pub NotRising : ℕ → ℕ → Type 0
  NotRising t r = (1 < r) × (below (row_cells t (r - 1)) (row_cells t r) ≡ false)

  -- Row r of table t meets none of them.
  abbrev pub GoodRow : ℕ → ℕ → Type 0
  GoodRow t r = (HighCode t r → ⊥) × (AllNull t r → ⊥) × (NotRising t r → ⊥)

  -- No row of table t meets any.
  abbrev pub GoodRows : ℕ → Type 0
  GoodRows t = (r : ℕ) → 1 ≤ r → r ≤ count_of cat t → GoodRow t r

  -- The writer comes to row r of table t: the catalogue has no fault, and neither has a row before.
  pub record WritesTo (t r : ℕ) : Type 0 where
    pub lawful : Lawful cat (length cells)
    pub table : t < cat.n
    pub tables : (u : ℕ) → u < t → GoodRows u
    pub some : 1 ≤ r
    pub there : r ≤ count_of cat t
    pub before : (q : ℕ) → 1 ≤ q → q < r → GoodRow t q

  -- It comes to the end of the last table.
  pub record WritesAll : Type 0 where
    pub lawful : Lawful cat (length cells)
    pub tables : (t : ℕ) → t < cat.n → GoodRows t

  -- Of a write into `room` bytes. 5, 6 and 8 of every table, and 16, come before the first cell.
  pub record WriteExact (room : ℕ) : Type 0 where
    pub refusal-4 : (written cat cells room ≡ Refused 4) ↔ SizesOut cat
    pub refusal-5 : (written cat cells room ≡ Refused 5) ↔ ((t : ℕ) × ComesTo cat (length cells) t × BadScheme cat t)
    pub refusal-6 : (written cat cells room ≡ Refused 6) ↔ ((t : ℕ) × ComesTo cat (length cells) t × (BadScheme cat t → ⊥) × ManyRows cat t)
    pub refusal-8 : (written cat cells room ≡ Refused 8)
        ↔ ((t : ℕ) × ComesTo cat (length cells) t × (BadScheme cat t → ⊥) × (ManyRows cat t → ⊥) × ManyCells cat (length cells) t)
    pub refusal-16 : (written cat cells room ≡ Refused 16) ↔ (ComesToStored cat (length cells) × ((t : ℕ) × (t < cat.n) × Misstored cat t))
    pub refusal-10 : (written cat cells room ≡ Refused 10) ↔ ((t : ℕ) × (r : ℕ) × WritesTo t r × HighCode t r)
    pub refusal-21 : (written cat cells room ≡ Refused 21) ↔ ((t : ℕ) × (r : ℕ) × WritesTo t r × (HighCode t r → ⊥) × AllNull t r)
    pub refusal-7 : (written cat cells room ≡ Refused 7)
        ↔ ((t : ℕ) × (r : ℕ) × WritesTo t r × (HighCode t r → ⊥) × (AllNull t r → ⊥) × NotRising t r)
    pub refusal-11 : (written cat cells room ≡ Refused 11) ↔ (WritesAll × (room < length (image_of cat cells)))
    pub accepts : (n : ℕ) → (written cat cells room ≡ Length n) ↔ (WritesAll × (length (image_of cat cells) ≤ room) × (n ≡ length (image_of cat cells)))
    -- and no other.
    pub no_other : (k : ℕ) → written cat cells room ≡ Refused k → OfCatalogue k ⊎ (k ≡ 10) ⊎ (k ≡ 21) ⊎ (k ≡ 7) ⊎ (k ≡ 11)
