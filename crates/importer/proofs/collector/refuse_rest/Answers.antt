-- `importer::collector::refuse_rest` meets its contract. Invariant: lines are read so far, past the most rows. Assumes nothing.
use Rattle.importer.proofs.CollectLaws.{rest-on, rest_end, rest-bad}
use Rattle.importer.proofs.collector.refuse_rest.Goals as goal

pub loop-next-preserved : goal.loop-next-preserved
loop-next-preserved c =
    let l = c.loop-next in
    let s = c.args.lines.now in
    rest-on s.width s.text.now c.args.from c.args.first l.at l.line l.invariant _ (rw c.in-Ok-Some.field-0-is at c.in-Ok-Some.ensures)

pub returns-in-Ok-None : goal.returns-in-Ok-None
returns-in-Ok-None c =
    let l = c.loop-next in
    let s = c.args.lines.now in
    rw c.whole.ensures (rest_end s.width s.text.now c.args.from c.args.first l.at l.line l.invariant (rw c.in-Ok-None.field-0-is at c.in-Ok-None.ensures))

pub returns-in-Err : goal.returns-in-Err
returns-in-Err c =
    let l = c.loop-next in
    let s = c.args.lines.now in
    rw c.on.ensures (rest-bad s.width s.text.now c.args.from c.args.first l.at l.line l.invariant _ _ c.in-Err.ensures)
