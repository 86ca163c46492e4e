-- `lister::text::open_with` meets its contract: the record names the row that is asked for (`opened-held`). Assumes nothing.
use Rattle.lister.proofs.ScopeLaws.{opened-held}
use Rattle.lister.proofs.text.open_with.Goals as goal

pub returns-clause-opened : goal.returns-clause-opened
returns-clause-opened c =
    let t = c.args.tables in
    let s = c.args.store.now in
    opened-held t.catalogue t.cells.now s.low.now s.high.now s.left.now s.right.now c.args.asked c.in_ok-opened.opened c.in_ok-opened.ensures
