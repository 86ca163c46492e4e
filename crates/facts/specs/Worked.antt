-- Worked examples beside the facts of request #114: document 01's sample in another order; a pair of one-row tables with a null, where one padded row
-- covers the other set's; and a table that holds one row twice, where the same happens without a null. Computed in proofs/Worked. Assumes nothing.
use Rattle.std.specs.Prelude.{ℕ, ◌≡◌, ◌↔◌, true, false, length, get_or}
use mathlib.Core.List.{List, [], ◌∷◌, Memᴰ}
use Rattle.tables.specs.declared.Catalogue.{Catalogue}
use Rattle.tables.specs.Checks.{Lawful}
use Rattle.tables.specs.Sample.{three, three_cells}
use Rattle.disjunction.specs.Sets.{Maximal}
use Rattle.disjunction.specs.Cells.{padded}
use Rattle.rows.specs.World.{cells_in, world_of}
use Rattle.padding.specs.Covering.{covering}
use Rattle.loader.specs.Reading.{refusal_at}
use Rattle.loader.specs.Load.{first_table, refused, scan_of, tables_codes}
use Rattle.writer.specs.Write.{image_of, write_fault}
use Rattle.image.specs.RoundTrip.{found}
use Rattle.facts.specs.Filing.{Renumbering, renumbered, reordered, reordered_cells}
use Rattle.facts.specs.Front.{NoNulls}

-- ---- the sample in another order

-- Its last table comes first: new tables 0, 1, 2 are the old tables 2, 0, 1.
abbrev pub turned_from : ℕ → ℕ
turned_from u = get_or (2 ∷ 0 ∷ 1 ∷ []) u 0

abbrev pub turned_to : ℕ → ℕ
turned_to t = get_or (1 ∷ 2 ∷ 0 ∷ []) t 0

-- The sample's sets under the new numbers.
abbrev pub turned_sets : List (List ℕ)
turned_sets = (1 ∷ 1 ∷ 1 ∷ []) ∷ (2 ∷ 2 ∷ 0 ∷ []) ∷ (0 ∷ 0 ∷ 2 ∷ []) ∷ []

-- The catalogue and the cells in this order, and the three sets under the new numbers.
pub record SampleTurned : Type 0 where
  pub numbers : Renumbering 3 turned_to turned_from
  pub catalogue : reordered turned_from three ≡ record {
    m = 3;
    n = 3;
    schemes = 5 ∷ 3 ∷ 6 ∷ 0 ∷ 0 ∷ 0 ∷ 0 ∷ 0 ∷ [];
    rows = 2 ∷ 2 ∷ 2 ∷ 0 ∷ 0 ∷ 0 ∷ 0 ∷ 0 ∷ [];
    places = 0 ∷ 4 ∷ 8 ∷ 0 ∷ 0 ∷ 0 ∷ 0 ∷ 0 ∷ [];
    touching = 6 ∷ 5 ∷ 3 ∷ 0 ∷ 0 ∷ 0 ∷ 0 ∷ 0 ∷ [];
  }
  pub cells : reordered_cells turned_from three three_cells ≡ 2 ∷ 8 ∷ 3 ∷ 0 ∷ 2 ∷ 11 ∷ 3 ∷ 21 ∷ 11 ∷ 8 ∷ 4294967307 ∷ 10 ∷ []
  pub first : renumbered 3 turned_from (1 ∷ 1 ∷ 1 ∷ []) ≡ 1 ∷ 1 ∷ 1 ∷ []
  pub second : renumbered 3 turned_from (2 ∷ 0 ∷ 2 ∷ []) ≡ 2 ∷ 2 ∷ 0 ∷ []
  pub third : renumbered 3 turned_from (0 ∷ 2 ∷ 0 ∷ []) ≡ 0 ∷ 0 ∷ 2 ∷ []
  pub sets : (T : List ℕ) → Maximal (world_of (reordered turned_from three) (reordered_cells turned_from three three_cells)) T
      ↔ Memᴰ T turned_sets

-- ---- a pair with a null

-- "A worked pair of one-row tables": both over attributes 0 and 1, with the rows (1, 2) and (1, null).
unfoldable pub pair : Catalogue
pair =
    record {
      m = 2;
      n = 2;
      schemes = 3 ∷ 3 ∷ 0 ∷ 0 ∷ 0 ∷ 0 ∷ 0 ∷ 0 ∷ [];
      rows = 1 ∷ 1 ∷ 0 ∷ 0 ∷ 0 ∷ 0 ∷ 0 ∷ 0 ∷ [];
      places = 0 ∷ 2 ∷ 0 ∷ 0 ∷ 0 ∷ 0 ∷ 0 ∷ 0 ∷ [];
      touching = 2 ∷ 1 ∷ 0 ∷ 0 ∷ 0 ∷ 0 ∷ 0 ∷ 0 ∷ [];
    }

-- Their rows, as codes.
unfoldable pub pair_cells : List ℕ
pair_cells = 2 ∷ 3 ∷ 2 ∷ 0 ∷ []

-- Their image.
unfoldable pub pair_bytes : List ℕ
pair_bytes = 0x01 ∷ 0x02 ∷ 0x02 ∷ 0x03 ∷ 0x01 ∷ 0x02 ∷ 0x03 ∷ 0x03 ∷ 0x01 ∷ 0x02 ∷ 0x00 ∷ []

-- Their sets: each row is one of its own.
abbrev pub pair_sets : List (List ℕ)
pair_sets = (1 ∷ 0 ∷ []) ∷ (0 ∷ 1 ∷ []) ∷ []

-- "The last fails with nulls": each row is a set of its own, since null matches nothing, and (1, 2) covers (1, null).
pub record NullCovered : Type 0 where
  pub loads : (scan_of pair_bytes 4 ≡ found pair) × (tables_codes 2 pair_bytes first_table ≡ pair_cells)
  pub sets : (T : List ℕ) → Maximal (world_of pair pair_cells) T ↔ Memᴰ T pair_sets
  pub rows : (padded (cells_in pair pair_cells) (1 ∷ 0 ∷ []) ≡ 2 ∷ 3 ∷ []) × (padded (cells_in pair pair_cells) (0 ∷ 1 ∷ []) ≡ 2 ∷ 0 ∷ [])
  pub covers : covering (2 ∷ 3 ∷ []) (2 ∷ 0 ∷ []) ≡ true
  pub other_way : covering (2 ∷ 0 ∷ []) (2 ∷ 3 ∷ []) ≡ false

-- ---- one row twice

-- One table over attribute 0 that holds the row (1) twice.
unfoldable pub twice : Catalogue
twice =
    record {
      m = 1;
      n = 1;
      schemes = 1 ∷ 0 ∷ 0 ∷ 0 ∷ 0 ∷ 0 ∷ 0 ∷ 0 ∷ [];
      rows = 2 ∷ 0 ∷ 0 ∷ 0 ∷ 0 ∷ 0 ∷ 0 ∷ 0 ∷ [];
      places = 0 ∷ 0 ∷ 0 ∷ 0 ∷ 0 ∷ 0 ∷ 0 ∷ 0 ∷ [];
      touching = 0 ∷ 0 ∷ 0 ∷ 0 ∷ 0 ∷ 0 ∷ 0 ∷ 0 ∷ [];
    }

-- Its rows, as codes.
unfoldable pub twice_cells : List ℕ
twice_cells = 2 ∷ 2 ∷ []

-- What its image would be.
unfoldable pub twice_bytes : List ℕ
twice_bytes = 0x01 ∷ 0x01 ∷ 0x01 ∷ 0x01 ∷ 0x02 ∷ 0x02 ∷ 0x02 ∷ []

-- Its sets: each row is one.
abbrev pub twice_sets : List (List ℕ)
twice_sets = (1 ∷ []) ∷ (2 ∷ []) ∷ []

-- Why the third fact asks for tables that the loader accepts: each of the two rows is a set, their padded row is one, and no table holds a null.
pub record TwiceCovered : Type 0 where
  -- Nothing that open looks at is wrong with it,
  pub lawful : Lawful twice (length twice_cells)
  -- but the writer refuses its rows by 7, and so does the loader, at the second row.
  pub unwritten : write_fault twice twice_cells ≡ 7
  pub image : image_of twice twice_cells ≡ twice_bytes
  pub unloaded : scan_of twice_bytes 2 ≡ refused (refusal_at 7 6 0)
  pub no-nulls : NoNulls (cells_in twice twice_cells)
  pub sets : (T : List ℕ) → Maximal (world_of twice twice_cells) T ↔ Memᴰ T twice_sets
  pub rows : (padded (cells_in twice twice_cells) (1 ∷ []) ≡ 2 ∷ []) × (padded (cells_in twice twice_cells) (2 ∷ []) ≡ 2 ∷ [])
  pub covers : covering (2 ∷ []) (2 ∷ []) ≡ true
