-- `hub::check_list` meets its contract: the catalogue's refusal, or the verdict. Assumes nothing.
use mathlib.Core.Path.{sym, ◌∙◌}
use Rattle.std.proofs.lemmas.Result.{err_from_is_err_and}
use Rattle.refusals.proofs.RefusalLaws.{number-some}
use Rattle.tables.proofs.CheckLaws.{fault-lawful}
use Rattle.hub.proofs.JudgingLaws.{checked_refused, checked-lawful}
use Rattle.hub.proofs.check_list.Goals as goal

pub invariant_of-new : goal.invariant_of-new
invariant_of-new c = record { lawful = fault-lawful _ _ (sym c.in_ok-check.ensures) }

pub returns-in_err-check : goal.returns-in_err-check
returns-in_err-check c =
    let p = err_from_is_err_and c.from_residual.result c.from_residual.ensures.1 in
    rw (p.1, p.2) (sym (checked_refused _ _ _ _ c.in_err-check.ensures (number-some _)))

pub returns : goal.returns
returns c = (rw c.new-layout.ensures at c.judge.ensures) ∙ sym (checked-lawful _ _ _ (sym c.in_ok-check.ensures))
