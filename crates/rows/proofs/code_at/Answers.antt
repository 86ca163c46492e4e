-- `rows::code_at` meets its contract: the cell of an attribute of the row lies among the cells (`code_inside`). Assumes nothing.
use native.Mathlib.Omega.{arith}
use Prim.Native.Nat.{ℕ, ◌+◌, ◌<◌}
use mathlib.Core.Path.{ap}
use lib.ListN.{length, get_or}
use Rattle.rows.proofs.WorldLaws.{code_inside}
use Rattle.rows.proofs.code_at.Goals.{After-rank}
use Rattle.rows.proofs.code_at.Goals as goal

-- the cell is there
inside : (c : After-rank) → c.args.start + c.rank.result < length c.args.cells.now
inside c = rw c.rank.ensures (code_inside _ _ _ _ c.requires.0 c.requires.2)

pub overflow_add-result : goal.overflow_add-result
overflow_add-result c = omega (arith, inside c)

pub offset_bounds-cells-start : goal.offset_bounds-cells-start
offset_bounds-cells-start c = omega (arith, inside c)

pub bounds-cells-start : goal.bounds-cells-start
bounds-cells-start c = inside (goal.at.bounds-cells-start c).After-rank

pub returns : goal.returns
returns c = ap (λ (x : ℕ). get_or c.args.cells.now (c.args.start + x) 0) c.rank.ensures
