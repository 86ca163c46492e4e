-- `importer::collector::collect` meets its contract. Invariant: lines are read so far, and the places of their rows are kept. Assumes nothing.
use Rattle.std.proofs.Common.{◌≡◌, ◌-◌, length}
use Rattle.importer.proofs.CollectLaws.{CollectSoFar}
use Rattle.importer.proofs.collector.collect.Given as goal

abbrev pub invariant-loop-next : goal.invariant-loop-next
invariant-loop-next l =
    (l.kept.lines ≡ l.lines)
    × (l.lines ≡ l.fn.kept.lines)
    × CollectSoFar l.lines.width l.lines.text.now l.from l.kept.places l.at l.line l.kept.count

abbrev pub decreases-loop-next : goal.decreases-loop-next
decreases-loop-next l = length l.lines.text.now - l.at
