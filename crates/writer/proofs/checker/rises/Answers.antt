-- `writer::checker::rises` meets its contract. Invariant: what is left of the two rows decides. Assumes nothing.
use native.Mathlib.Omega.{arith}
use mathlib.Core.Path.{refl, sym, ◌∙◌}
use Rattle.writer.proofs.WriteLaws.{order-differs, order-goes_on, order-ends}
use Rattle.writer.proofs.checker.rises.Goals as goal

pub loop-i-init : goal.loop-i-init
loop-i-init c = record { end = search; inside = omega arith; left = refl }

pub returns-then-x-y : goal.returns-then-x-y
returns-then-x-y c =
    let l = c.loop-i in
    sym (l.invariant.left ∙ order-differs c.args.before.now c.args.row.now l.i (omega (arith, l.invariant, c.loop-i-test.true)) (omega (arith, l.invariant, c.loop-i-test.true)) c.if-x-y.true)

pub loop-i-preserved : goal.loop-i-preserved
loop-i-preserved c =
    let l = c.loop-i in
    record {
      end = l.invariant.end;
      inside = omega arith;
      left = l.invariant.left ∙ order-goes_on c.args.before.now c.args.row.now l.i (omega (arith, l.invariant, c.loop-i-test.true)) (omega (arith, l.invariant, c.loop-i-test.true)) c.if-x-y.false;
    }

pub returns : goal.returns
returns c =
    let l = c.loop-i in
    sym (l.invariant.left ∙ order-ends c.args.before.now c.args.row.now l.i (omega (arith, l.invariant, c.loop-i-test.false)))
