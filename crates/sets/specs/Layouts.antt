-- Words of a layout and of a set under way in it. Assumes nothing.
use Rattle.std.specs.Prelude.{ℕ, ◌≡◌, List}
use Rattle.keys.specs.TwoWords.{number_of}
use Rattle.tables.specs.declared.Tables.{Tables as Laid}
use Rattle.tables.specs.Catalogues.{scheme_of, count_of, first_cell}
use Rattle.disjunction.specs.Sets.{Tables}
use Rattle.rows.specs.World.{world_of, set_of}
use Rattle.walks.specs.declared.Rows.{Rows}
use Rattle.sets.specs.declared.Layout.{Layout}
use Rattle.sets.specs.declared.RowSet.{RowSet}

-- The tables of the rule that are laid out.
abbrev pub world : Layout → Tables
world l = world_of l.tables.catalogue l.tables.cells.now

-- The rows of a set under way.
abbrev pub rows_of : RowSet → List ℕ
rows_of s = set_of s.layout.now.tables.catalogue (number_of s.key)

-- The rows of table t, as the walks read them.
pub record IsTable (l : Laid) (t : ℕ) (r : Rows) : Type 0 where
  pub cells : r.cells.now ≡ l.cells.now
  pub scheme : r.scheme ≡ scheme_of l.catalogue t
  pub base : r.base ≡ first_cell l.catalogue t
  pub count : r.count ≡ count_of l.catalogue t
