-- `sets::RowSet::piece` meets its contract. Invariant: the set without the tables that are left is a connected part of it that holds the row (`Joining`);
-- each turn takes a table from those that are left. Assumes nothing.
use Rattle.disjunction.specs.Rule.{row_in}
use Rattle.sets.specs.Layouts.{rows_of}
use Rattle.sets.proofs.Joining.{Joining}
use Rattle.sets.proofs.RowSet.piece.Given as goal

abbrev pub invariant-loop-left : goal.invariant-loop-left
invariant-loop-left l = Joining l.self.layout.now.tables.catalogue (rows_of l.self) (row_in (rows_of l.self) l.fn.x.table) l.left l.reach

abbrev pub decreases-loop-left : goal.decreases-loop-left
decreases-loop-left l = l.left
