-- `Cursor::values` meets its contract: a run of values (`Run`) over the front of the padded row. The measure is how many are left. Assumes nothing.
use lib.ListN.{take}
use Rattle.lines.specs.Lines.{value}
use Rattle.lines.proofs.LineLaws.{value-few, Run}
use Rattle.lines.proofs.Cursor.values.Given as goal

abbrev pub invariant-loop-code : goal.invariant-loop-code
invariant-loop-code l = Run value value-few (take l.m l.padded) l.m l.initial.self l.code-index l.self
