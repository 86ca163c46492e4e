-- `sets::Touch::add` meets its contract: the row of a table as the walks read it is the one that is there. Assumes nothing.
use Rattle.sets.proofs.RowTestLaws.{start_of}
use Rattle.sets.proofs.Touch.add.Goals as goal

pub returns-clause-merged : goal.returns-clause-merged
returns-clause-merged c =
    let r = c.rows.ensures in
    rw (r.cells, r.scheme, start_of c.args.layout.now.tables.catalogue c.args.row.table c.args.row.row _ r.base) at c.add.ensures
