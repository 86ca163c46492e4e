-- `stream::step_for` meets its contract: a refusal before work, or the work. Assumes nothing.
use Rattle.std.proofs.Common.{◌≡◌, sym, ◌∙◌}
use Rattle.std.proofs.lemmas.Grind.{common_steps}
use native.Mathlib.Omega.{arith}
use Rattle.refusals.proofs.RefusalLaws.{number-some}
use Rattle.machine.specs.Machine.{call}
use Rattle.machine.proofs.RefusalLaws.{call-clear, call-refused, call-works}
use Rattle.stream.specs.Promises.{asked_of, state_with}
use Rattle.stream.specs.Parts.{called_in}
use Rattle.stream.proofs.StreamLaws.{number-none}
use Rattle.stream.proofs.step_for.Goals as goal

pub invariant_of-new : goal.invariant_of-new
invariant_of-new c = record { lawful = c.in-Ok.ensures.tables }

pub work-requires : goal.work-requires
work-requires c =
    let p = call-clear _ _ _ _ (sym c.in-Ok.ensures.refusal) in
    rw c.new-layout.ensures (p.1, p.2)

pub returns-in-Ok : goal.returns-in-Ok
returns-in-Ok c =
    let a = c.args in
    let f : called_in (asked_of a.scope) c.work.result c.work.new.store c.work.new.padded
    ≡ call a.cat a.cells.now a.budget (state_with (asked_of a.scope) a.stream a.low.now a.high.now a.left.now a.right.now) a.padded.now =
    (rw c.new-layout.ensures at c.work.ensures.work) ∙ sym (call-works _ _ _ _ _ (sym c.in-Ok.ensures.refusal)) in
    grind (arith, common_steps)

pub returns-in-Err : goal.returns-in-Err
returns-in-Err c = rw (c.none.ensures, number-none) (sym (call-refused _ _ _ _ _ _ (sym c.in-Err.ensures.refusal) (number-some _)))
