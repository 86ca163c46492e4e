-- `tables::check` meets its contract: what the tables meet, and then what is stored of them. Assumes nothing.
use Rattle.std.proofs.Common.{sym, ◌∙◌}
use Rattle.std.proofs.lemmas.Result.{err_from_is_err_and}
use Rattle.refusals.proofs.RefusalLaws.{number-some}
use Rattle.tables.specs.Checks.{catalogue_fault}
use Rattle.tables.proofs.CheckLaws.{first_some, first-none, Shaped, shape-clear}
use Rattle.tables.proofs.check.Goals.{In_ok-check_shape}
use Rattle.tables.proofs.check.Goals as goal

pub returns-in_err-check_shape : goal.returns-in_err-check_shape
unfolding catalogue_fault
returns-in_err-check_shape c =
    let p = err_from_is_err_and c.from_residual.result c.from_residual.ensures.1 in
    let met = c.in_err-check_shape.ensures in
    rw (p.1, p.2) (met ∙ sym (first_some _ _ (λ e. number-some _ (met ∙ e))))

-- The tables meet nothing.
shaped : (c : In_ok-check_shape) → Shaped c.args.cat c.args.lent
shaped c = shape-clear _ _ (sym c.in_ok-check_shape.ensures)

pub check_stored-requires : goal.check_stored-requires
check_stored-requires c = ((shaped c).sizes.n-high, (shaped c).cells)

pub returns : goal.returns
unfolding catalogue_fault
returns c = c.check_stored.ensures ∙ sym (first-none _ _ (sym c.in_ok-check_shape.ensures))
