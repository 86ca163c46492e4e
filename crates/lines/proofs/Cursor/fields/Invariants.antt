-- `Cursor::fields` meets its contract: a run of fields (`Run`). The measure is how many are left. Assumes nothing.
use lib.ListN.{length}
use Rattle.lines.specs.Lines.{field}
use Rattle.lines.proofs.LineLaws.{field-few, Run}
use Rattle.lines.proofs.Cursor.fields.Given as goal

abbrev pub invariant-loop-x : goal.invariant-loop-x
invariant-loop-x l = Run field field-few l.numbers (length l.numbers) l.initial.self l.x-index l.self
