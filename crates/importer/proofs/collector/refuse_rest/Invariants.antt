-- `importer::collector::refuse_rest` meets its contract. Invariant: lines are read so far, past the most rows. Assumes nothing.
use Rattle.std.proofs.Common.{◌-◌, length}
use Rattle.importer.proofs.CollectLaws.{RestSoFar}
use Rattle.importer.proofs.collector.refuse_rest.Given as goal

abbrev pub invariant-loop-next : goal.invariant-loop-next
invariant-loop-next l = RestSoFar l.lines.width l.lines.text.now l.from l.first l.at l.line

abbrev pub decreases-loop-next : goal.decreases-loop-next
decreases-loop-next l = length l.lines.text.now - l.at
