-- `sets::RowSet::share` meets its contract. Invariant: the merged row and the tables in reach are those of the set without the tables that are left
-- (`lacking`). Assumes nothing.
use Rattle.disjunction.specs.Sets.{at}
use Rattle.walks.specs.Merged.{Under, Merged}
use Rattle.sets.specs.Promises.{lacking, Reach}
use Rattle.sets.specs.Layouts.{rows_of}
use Rattle.sets.proofs.RowSet.share.Given as goal

abbrev pub invariant-loop-u : goal.invariant-loop-u
invariant-loop-u l =
    let t = l.self.layout.now.tables in
    record {
      part : Under l.u-iterator.rest l.self.tables;
      merged : Merged t.catalogue t.cells.now (at (lacking (rows_of l.self) l.u-iterator.rest)) l.touch.merged.codes l.touch.merged.attrs;
      reach : Reach t.catalogue (at (lacking (rows_of l.self) l.u-iterator.rest)) l.touch.reach;
    }
