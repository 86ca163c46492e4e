-- `tables::check_shape` meets its contract. Invariant: no table below t has a fault, so the whole answer is the answer from table t on. Assumes nothing.
use Rattle.std.proofs.Common.{◌-◌, ◌≤◌, ◌≡◌}
use Rattle.tables.specs.Sizes.{most_attributes, most_tables, most_cells}
use Rattle.tables.specs.Catalogues.{first_cell}
use Rattle.tables.specs.Checks.{tables_fault, shape_fault}
use Rattle.tables.proofs.check_shape.Given as goal

abbrev pub invariant-loop-t : goal.invariant-loop-t
invariant-loop-t l =
    (l.cat.m ≤ most_attributes)
    × (l.cat.n ≤ most_tables)
    × (l.used ≤ most_cells)
    × (l.used ≡ first_cell l.cat l.t)
    × (shape_fault l.cat l.lent ≡ tables_fault (l.cat.n - l.t) l.cat l.lent l.t)
