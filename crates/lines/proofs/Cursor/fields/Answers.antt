-- `Cursor::fields` meets its contract: a run of fields (`Run`). The measure is how many are left. Assumes nothing.
use native.Mathlib.Omega.{arith}
use mathlib.Core.Path.{refl}
use Rattle.lines.specs.Lines.{field}
use Rattle.lines.proofs.LineLaws.{field-few, run_holds, run-next, run_ends}
use Rattle.lines.proofs.Cursor.fields.Goals as goal

pub loop-x-init : goal.loop-x-init
loop-x-init c = run_holds field field-few _ _ _ refl (omega arith)

pub loop-x-preserved : goal.loop-x-preserved
loop-x-preserved c = run-next field field-few c.loop-x-test.true refl c.loop-x.invariant c.field.ensures.puts c.field.ensures.same

pub returns-clause-same : goal.returns-clause-same
returns-clause-same c = c.loop-x.invariant.same

pub returns-clause-puts : goal.returns-clause-puts
returns-clause-puts c = run_ends field field-few (omega arith) c.loop-x.invariant
