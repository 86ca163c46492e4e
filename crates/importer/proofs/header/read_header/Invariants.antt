-- `importer::header::read_header` meets its contract. Invariant: the header is known so far. Assumes nothing.
use Rattle.std.proofs.Common.{◌-◌, length}
use Rattle.importer.proofs.HeadSteps.{HeadHeld}
use Rattle.importer.proofs.header.read_header.Given as goal

abbrev pub invariant-loop-code : goal.invariant-loop-code
invariant-loop-code l = HeadHeld l.m l.text l.at l.width l.before l.scheme

abbrev pub decreases-loop-code : goal.decreases-loop-code
decreases-loop-code l = length l.text - l.at
