-- `lister::text::turn` meets its contract: a call's line is put, and what follows it is still to come (`turn-ends`, `turn-goes`). Assumes nothing.
use native.Mathlib.Omega.{arith}
use Prim.Native.Nat.{◌-◌}
use mathlib.Core.Path.{◌∙◌}
use Rattle.stream.specs.Answers.{answer_in}
use Rattle.stream.specs.Promises.{says_of}
use Rattle.lister.proofs.ListingLaws.{said-small, left-few, turn-ends, turn-goes}
use Rattle.lister.proofs.text.turn.Goals as goal

pub overflow_add-counted : goal.overflow_add-counted
overflow_add-counted c = omega (arith, (said-small _ _ _ _ _ _ c.step-stepped.ensures.called).trials, c.requires.0.trials, c.requires.0.calls)

pub overflow_add-counted-2 : goal.overflow_add-counted-2
overflow_add-counted-2 c = omega (arith, (said-small _ _ _ _ _ _ c.step-stepped.ensures.called).tests, c.requires.0.tests, c.requires.0.calls)

pub overflow_add-counted-3 : goal.overflow_add-counted-3
overflow_add-counted-3 c = omega (arith, (said-small _ _ _ _ _ _ c.step-stepped.ensures.called).looks, c.requires.0.looks, c.requires.0.calls)

pub overflow_sub-p : goal.overflow_sub-p
overflow_sub-p c = c.requires.0.some

pub put_answer-requires : goal.put_answer-requires
put_answer-requires c = (c.step-stepped.auto.padded ∙ c.requires.0.wide, c.requires.1)

pub returns-then-counted-eq0-clause-fewer : goal.returns-then-counted-eq0-clause-fewer
returns-then-counted-eq0-clause-fewer c = c.requires.0.some

pub returns-then-counted-eq0-clause-gives : goal.returns-then-counted-eq0-clause-gives
returns-then-counted-eq0-clause-gives c =
    let a = c.args in
    let t = c.step-stepped in
    turn-ends a.p a.store.now a.padded.now a.to.now.out.now _ _ _ t.result _ _ _
    c.requires.0 c.requires.1 t.auto.padded t.ensures.called c.calls_left.ensures c.put_answer.ensures.puts c.if-counted-eq0.true

pub returns-else-counted-eq0-clause-fewer : goal.returns-else-counted-eq0-clause-fewer
returns-else-counted-eq0-clause-fewer c = omega (arith, left-few (says_of (answer_in c.step-stepped.result.answer)) (c.args.p.calls - 1), c.calls_left.ensures, c.requires.0.some)

pub returns-else-counted-eq0-clause-gives : goal.returns-else-counted-eq0-clause-gives
returns-else-counted-eq0-clause-gives c =
    let a = c.args in
    let t = c.step-stepped in
    turn-goes a.p a.store.now a.padded.now a.to.now.out.now _ _ _ t.result _ _ _
    c.requires.0 c.requires.1 t.auto.padded t.ensures.called c.calls_left.ensures c.put_answer.ensures.puts c.if-counted-eq0.false
