-- `tables::make_catalogue` meets its contract: what the tables meet decides. Assumes nothing.
use Rattle.std.proofs.Common.{sym}
use Rattle.tables.specs.Sizes.{most_cells}
use Rattle.tables.proofs.CheckLaws.{Shaped, shape-clear}
use Rattle.tables.proofs.make_catalogue.Goals.{In_ok-check_shape}
use Rattle.tables.proofs.make_catalogue.Goals as goal

-- They meet nothing.
shaped : (c : In_ok-check_shape) → Shaped c.given-cat.result most_cells
shaped c = shape-clear _ _ (sym c.in_ok-check_shape.ensures)

pub filled-requires : goal.filled-requires
filled-requires c = ((shaped c).sizes.n-high, (shaped c).cells)
