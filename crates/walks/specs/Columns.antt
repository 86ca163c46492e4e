-- What the search in a column promises, of the column as a value. Assumes nothing.
use Rattle.std.specs.Prelude.{ℕ, ◌<◌, ◌≡◌, List, Option, unwrap_or, IfSome}
use Rattle.walks.specs.declared.Column.{Column}
use Rattle.walks.specs.declared.Way.{Way}
use Rattle.walks.specs.declared.Way.TheVariants.{RowByRow, Halving}
use Rattle.walks.specs.Merged.{NextEqual}

-- The next row of the column, from row i on, that has the code v; `None` where none has it.
pub record NextIn (c : Column) (i v : ℕ) (r : Option ℕ) : Type 0 where
  pub next : NextEqual c.cells.now c.first c.width i c.count v (unwrap_or r c.count)
  pub there : IfSome r (λ j. j < c.count)

-- The column that is walked.
abbrev pub column_of : Way → Column
column_of (RowByRow c) = c
column_of (Halving c) = c.column

-- The column with these cells: row 0's cell lies at `first`, and k rows are w cells wide.
pub record IsColumn (c : Column) (cells : List ℕ) (first w k : ℕ) : Type 0 where
  pub same_cells : c.cells.now ≡ cells
  pub begins : c.first ≡ first
  pub wide : c.width ≡ w
  pub rows : c.count ≡ k
