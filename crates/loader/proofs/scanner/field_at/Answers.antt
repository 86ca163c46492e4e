-- `loader::scanner::field_at` meets its contract: one law for each way. Assumes nothing.
use Rattle.std.proofs.Common.{◌≡◌, true, ⊎_elim, ap, sym, ◌∙◌}
use Rattle.std.proofs.lemmas.Result.{err_from_is_err_and}
use Rattle.refusals.specs.Refusals.{number}
use Rattle.tables.specs.Checks.{outside}
use Rattle.tables.proofs.CheckLaws.{inside, below, above}
use Rattle.loader.specs.Faults.{FieldFault}
use Rattle.loader.proofs.ReadingLaws.{read-good}
use Rattle.loader.proofs.LoadLaws.{field-unread, field_out, field_in}
use Rattle.loader.proofs.scanner.field_at.Goals as goal

pub returns-in_err-field : goal.returns-in_err-field
returns-in_err-field c =
    let p = err_from_is_err_and c.from_residual.result c.from_residual.ensures.1 in
    rw (p.1, p.2) (sym (field-unread _ _ 1 _ _ _ c.in_err-field.ensures))

pub returns-then-field-lt1 : goal.returns-then-field-lt1
returns-then-field-lt1 c =
    let a = c.args in
    let x = c.in_ok-field.field in
    let out : outside 1 a.most x.value ≡ true = ⊎_elim (λ h. below 1 a.most x.value h) (λ h. above 1 a.most x.value h.0 h.1) c.then-field-lt1.either in
    ap FieldFault c.at.ensures ∙ sym (field_out a.s.now a.at 1 a.most (number a.refusal) x.value x.next (read-good _ _ _ _ c.in_ok-field.ensures) out)

pub returns : goal.returns
returns c =
    let a = c.args in
    let x = c.in_ok-field.field in
    sym (field_in a.s.now a.at 1 a.most (number a.refusal) x.value x.next (read-good _ _ _ _ c.in_ok-field.ensures) (inside 1 a.most x.value c.if-field-lt1.false c.if-most-field.false))
