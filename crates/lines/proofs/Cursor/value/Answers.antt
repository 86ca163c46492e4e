-- `Cursor::value` meets its contract: null has its dash, and any other code the field of its value. Assumes nothing.
use Rattle.lines.proofs.LineLaws.{value-null, value-some}
use Rattle.lines.proofs.Cursor.value.Goals as goal

pub returns-then-code-eq0-clause-puts : goal.returns-then-code-eq0-clause-puts
returns-then-code-eq0-clause-puts c = rw (value-null c.args.code c.if-code-eq0.true) c.word.ensures.puts

pub returns-else-code-eq0-clause-puts : goal.returns-else-code-eq0-clause-puts
returns-else-code-eq0-clause-puts c = rw (value-some c.args.code c.if-code-eq0.false) c.field.ensures.puts
