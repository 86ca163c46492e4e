-- `Cursor::values` meets its contract: a run of values (`Run`) over the front of the padded row. The measure is how many are left. Assumes nothing.
use native.Mathlib.Omega.{arith}
use mathlib.Core.Path.{refl}
use lib.Seq.{length-take-le}
use Rattle.lines.specs.Lines.{value}
use Rattle.lines.proofs.LineLaws.{value-few, run_holds, run-next, run_ends}
use Rattle.lines.proofs.Cursor.values.Goals as goal

pub loop-code-init : goal.loop-code-init
loop-code-init c = run_holds value value-few _ _ _ (length-take-le _ _ (omega arith)) (omega arith)

pub loop-code-preserved : goal.loop-code-preserved
loop-code-preserved c =
    let s = c.args in
    let l = c.loop-code in
    let n = length-take-le s.m s.padded.now c.requires.0 in
    run-next value value-few (omega (arith, c.loop-code-test.true)) refl l.invariant c.value.ensures.puts c.value.ensures.same

pub returns-clause-same : goal.returns-clause-same
returns-clause-same c = c.loop-code.invariant.same

pub returns-clause-puts : goal.returns-clause-puts
returns-clause-puts c = run_ends value value-few (omega arith) c.loop-code.invariant
