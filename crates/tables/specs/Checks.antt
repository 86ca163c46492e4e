-- The refusals that a catalogue can meet (4, 5, 6, 8; 16), each by its line of document 01's table or of #106, in their order; 0 stands for none.
-- And what a catalogue that meets none is known to be. The law that ties the two stands in proofs/CheckLaws. Assumes nothing.
use Rattle.std.specs.Prelude.{ℕ, zero, suc, ◌+◌, ◌*◌, ◌^◌, ◌≤◌, ◌<◌, ◌≡◌, Bool, not, cond, ◌||◌, List, ltb, leb, eqb, Result, Ok, Err}
use Rattle.std.specs.Int.Count.{ones}
use Rattle.tables.specs.declared.Catalogue.{Catalogue}
use Rattle.refusals.specs.declared.Refusal.{Refusal}
use Rattle.refusals.specs.Refusals.{number}
use Rattle.tables.specs.Sizes.{most_attributes, most_tables, most_rows, most_cells}
use Rattle.laws.specs.Tests.{any}
use Rattle.tables.specs.Catalogues.{scheme_of, count_of, first_cell, touching_of, filled, given, no_tables, place_in, mask_in}

-- The first of two refusals, in the order in which they are looked for.
abbrev pub first_met : ℕ → ℕ → ℕ
first_met zero later = later
first_met (suc k) later = suc k

-- A number out of range: below the low end or above the high one.
abbrev pub outside : ℕ → ℕ → ℕ → Bool
outside low high x = ltb x low || ltb high x

-- "4: m or n out of range"; m is looked at first.
unfoldable pub size_fault : ℕ → ℕ → ℕ
size_fault m n =
    cond (outside 1 most_attributes m) 4
    (cond (outside 1 most_tables n) 4
    0)

-- "5: a scheme is 0 or not below 2^m"
unfoldable pub bad_scheme : ℕ → ℕ → Bool
bad_scheme m scheme = eqb scheme 0 || leb (2 ^ m) scheme

-- "6: more than 255 rows", or more than `most` (#110); "8: cells so far, this table included, pass 8,192 or the lent cell slice". `used` cells lie
-- before the table.
unfoldable pub count_fault : ℕ → ℕ → ℕ → ℕ → ℕ → ℕ
count_fault most lent used scheme rows =
    cond (ltb most rows) 6
    (cond (ltb most_cells (used + rows * ones scheme) || ltb lent (used + rows * ones scheme)) 8
    0)

-- A table of a catalogue: 5, then 6, then 8.
unfoldable pub table_fault : ℕ → ℕ → ℕ → ℕ → ℕ → ℕ
table_fault m lent used scheme rows = cond (bad_scheme m scheme) 5 (count_fault most_rows lent used scheme rows)

-- k tables from table t on, table by table.
unfoldable pub tables_fault : ℕ → Catalogue → ℕ → ℕ → ℕ
tables_fault zero cat lent t = 0
tables_fault (suc k) cat lent t =
    first_met (table_fault cat.m lent (first_cell cat t) (scheme_of cat t) (count_of cat t))
    (tables_fault k cat lent (t + 1))

-- "Open checks the catalogue (4; then table by table 5, 6, 8)". `lent` is how many cells are lent.
unfoldable pub shape_fault : Catalogue → ℕ → ℕ
shape_fault cat lent = first_met (size_fault cat.m cat.n) (tables_fault cat.n cat lent 0)

-- "16, a stored place or mask isn't the one worked out": that of table t.
unfoldable pub misstored : Catalogue → ℕ → Bool
misstored cat t = not (eqb (place_in cat t) (first_cell cat t)) || not (eqb (mask_in cat t) (touching_of cat t))

-- Entries from n on are "ignored there when read".
unfoldable pub stored_fault : Catalogue → ℕ
stored_fault cat = cond (any cat.n (misstored cat)) 16 0

-- 16 comes "after 4, 5, 6 and 8 wherever a catalogue is lent".
unfoldable pub catalogue_fault : Catalogue → ℕ → ℕ
catalogue_fault cat lent = first_met (shape_fault cat lent) (stored_fault cat)

-- What a catalogue without fault is known to be; all its cells lie among those that are lent.
pub record Lawful (cat : Catalogue) (lent : ℕ) : Type 0 where
  pub some-attribute : 1 ≤ cat.m
  pub attributes : cat.m ≤ most_attributes
  pub some-table : 1 ≤ cat.n
  pub tables : cat.n ≤ most_tables
  pub some-scheme : (t : ℕ) → t < cat.n → 0 < scheme_of cat t
  pub scheme : (t : ℕ) → t < cat.n → scheme_of cat t < 2 ^ cat.m
  pub rows : (t : ℕ) → t < cat.n → count_of cat t ≤ most_rows
  pub cells : first_cell cat cat.n ≤ most_cells
  pub room : first_cell cat cat.n ≤ lent
  pub places : (t : ℕ) → t < cat.n → place_in cat t ≡ first_cell cat t
  pub touching : (t : ℕ) → t < cat.n → mask_in cat t ≡ touching_of cat t

-- ---- tables made by hand

-- What a caller who made tables by hand is told: the number of their refusal, 0 for none, and the catalogue, of zeros where they are refused.
pub record Made : Type 0 where
  pub refusal : ℕ
  pub catalogue : Catalogue

-- That of the code's answer.
abbrev pub made_of : Result Catalogue Refusal → Made
made_of (Ok cat) = record { refusal = 0; catalogue = cat }
made_of (Err refusal) = record { refusal = number refusal; catalogue = no_tables }

-- "Load and all else that makes a catalogue fill them": the catalogue of such tables with both filled, or a catalogue of zeros where they are refused.
abbrev pub made_if : ℕ → Catalogue → Made
made_if zero cat = record { refusal = 0; catalogue = filled cat }
made_if (suc k) cat = record { refusal = suc k; catalogue = no_tables }

-- What is promised to a caller who says m, n, schemes and row counts: the first of 4, 5, 6 and 8, with room for as many cells as there can be, decides.
abbrev pub Makes : ℕ → ℕ → List ℕ → List ℕ → Made → Type 0
Makes m n schemes rows r = r ≡ made_if (shape_fault (given m n schemes rows) most_cells) (given m n schemes rows)
