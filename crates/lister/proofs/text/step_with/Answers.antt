-- `lister::text::step_with` meets its contract: the record names the row that is asked for before the call and after it (`called-held`). Assumes nothing.
use Rattle.lister.proofs.ScopeLaws.{called-held}
use Rattle.lister.proofs.text.step_with.Goals as goal

pub returns-clause-called : goal.returns-clause-called
returns-clause-called c =
    let a = c.args in
    let t = a.p.tables in
    let s = a.store.now in
    let e = c.step_holding-stepped.ensures in
    called-held t.catalogue t.cells.now s.low.now s.high.now s.left.now s.right.now a.p.stream a.asked _ a.padded.now c.step_holding-stepped.result (rw c.total_rows.ensures at e)
