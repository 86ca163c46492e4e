-- `importer::liner::Lines::read` meets its contract. Invariant: the line is known so far. Assumes nothing.
use Rattle.importer.proofs.LineSteps.{LineHeld}
use Rattle.importer.proofs.liner.Lines.read.Given as goal

abbrev pub invariant-loop-k : goal.invariant-loop-k
invariant-loop-k l = LineHeld l.self.width l.self.text.now l.at l.place l.k l.cells
