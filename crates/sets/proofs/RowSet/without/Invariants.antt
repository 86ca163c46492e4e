-- `sets::RowSet::without` meets its contract. Invariant: the key has no row of the tables passed, and the others as they were (`Leaving`). Assumes nothing.
use Rattle.keys.specs.TwoWords.{number_of}
use Rattle.walks.specs.Merged.{Under}
use Rattle.sets.specs.Layouts.{rows_of}
use Rattle.sets.proofs.Leavings.{Leaving}
use Rattle.sets.proofs.RowSet.without.Given as goal

abbrev pub invariant-loop-u : goal.invariant-loop-u
invariant-loop-u l = Under l.u-iterator.rest l.gone × Leaving l.self.layout.now.tables.catalogue (rows_of l.self) l.gone (number_of l.key) l.u-iterator.rest
