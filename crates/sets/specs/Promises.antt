-- What the functions of this crate promise: each answer by the rule of document 01 ('The stream's own rule'), as crate disjunction renders it, on the
-- tables of crate rows. Nothing is asked of the rows of a set together, so that damaged records are determined too. Assumes nothing.
use Rattle.std.specs.Prelude.{ℕ, suc, ◌*◌, ◌^◌, ◌<◌, ◌≡◌, Bool, true, not, cond, ◌&&◌, List, length, get_or, eqb}
use Rattle.std.specs.Int.Count.{ones}
use Rattle.laws.specs.Lists.{tab}
use Rattle.words.specs.Words.{bit_of}
use Rattle.keys.specs.Keys.{bits_per_row, key_of}
use Rattle.tables.specs.declared.Catalogue.{Catalogue}
use Rattle.tables.specs.Catalogues.{scheme_of, count_of, first_cell, mask_in, rows_before, total}
use Rattle.disjunction.specs.Sets.{Tables, at}
use Rattle.disjunction.specs.Rule.{Place, Grown, member, row_test}
use Rattle.rows.specs.World.{world_of, set_of}
use Rattle.rows.specs.Named.{Named}
use Rattle.sets.specs.declared.Measures.{Measures}
use Rattle.walks.specs.Merged.{Rising}

-- Every table of the mask has a first column that does not fall. Of the others nothing is said.
abbrev pub RisingIn : Catalogue → List ℕ → ℕ → Type 0
RisingIn cat cells mask = (t : ℕ) → t < cat.n → bit_of mask t ≡ true → Rising cells (first_cell cat t) (ones (scheme_of cat t)) (count_of cat t)

-- What a trial goes by: of each table how many rows lie before it and how wide its rows are; how many rows there are; and tables whose first column does
-- not fall.
pub record LaidOut (cat : Catalogue) (cells : List ℕ) (l : Measures) : Type 0 where
  pub before : (t : ℕ) → t < cat.n → get_or l.before t 0 ≡ rows_before cat t
  pub wide : (t : ℕ) → t < cat.n → get_or l.widths t 0 ≡ ones (scheme_of cat t)
  pub all : l.total ≡ total cat
  pub rising : RisingIn cat cells l.rising

-- The row test of row i + 1 of table t, on the set of a key.
abbrev pub tested : Catalogue → List ℕ → ℕ → ℕ → ℕ → Bool
tested cat cells key t i = row_test (world_of cat cells) (set_of cat key) (record { table = t; row = suc i })

-- ---- a set and its tables

-- `mask` has the tables with a row in T: bit u stands for table u.
abbrev pub TablesOf : List ℕ → ℕ → Type 0
TablesOf T mask = (u : ℕ) → bit_of mask u ≡ member T u

-- The set as its key, which has no row from n on, and its tables.
pub record SetFor (cat : Catalogue) (T : List ℕ) (key mask : ℕ) : Type 0 where
  pub low : key < 2 ^ (bits_per_row * cat.n)
  pub rows : set_of cat key ≡ T
  pub tables : TablesOf T mask

-- T without its rows of the mask's tables.
unfoldable pub lacking : List ℕ → ℕ → List ℕ
lacking T mask = tab (length T) (λ u. cond (bit_of mask u) 0 (at T u))

-- `mask` has a bit exactly where the word of a member's table has it. A member is a row number f u above 0 of table u.
pub record Gathered (word f : ℕ → ℕ) (mask : ℕ) : Type 0 where
  pub has : (a : ℕ) → bit_of mask a ≡ true → (u : ℕ) × (0 < f u) × (bit_of (word u) a ≡ true)
  pub of-has : (a u : ℕ) → 0 < f u → bit_of (word u) a ≡ true → bit_of mask a ≡ true

-- The tables that touch one of the members'.
abbrev pub Reach : Catalogue → (ℕ → ℕ) → ℕ → Type 0
Reach cat f mask = Gathered (λ u. mask_in cat u) f mask

-- ---- what comes of it

-- What an extension or a trial comes to: the set as its key, and the row tests made.
pub record Comes (cat : Catalogue) (g : Grown) (to count : ℕ) : Type 0 where
  pub key : to ≡ key_of bits_per_row g.rows
  pub rows : set_of cat to ≡ g.rows
  pub tests : count ≡ g.tests
  pub named : Named cat to

-- "Every row of another table not consistent with s": table u's row of T has to go.
unfoldable pub parts : Tables → List ℕ → Place → ℕ → Bool
parts W T s u = not (eqb u s.table) && member T u && not (W.fits u (at T u) s.table s.row)
