-- `tables::row_at` meets its contract. Invariant: the whole answer is the answer from the table on, with what is left of the place. Assumes nothing.
use Rattle.std.proofs.Common.{◌≡◌, ◌-◌, ◌≤◌}
use Rattle.tables.specs.Catalogues.{row_from, row_at}
use Rattle.tables.proofs.row_at.Given as goal

abbrev pub invariant-loop-table : goal.invariant-loop-table
invariant-loop-table l = (l.left ≤ l.place) × (row_at l.cat l.place ≡ row_from (l.cat.n - l.table) l.cat l.table l.left)
