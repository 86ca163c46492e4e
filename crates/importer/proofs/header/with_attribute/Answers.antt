-- `importer::header::with_attribute` meets its contract: one law for each way it goes. Assumes nothing.
use Rattle.std.proofs.Common.{◌≡◌, ◌-◌, arith, rules, sym, ◌∙◌, inl, inr}
use Rattle.std.specs.Prelude.{Err}
use Rattle.importer.proofs.HeadSteps.{grows-bad, grows-fault, grows-ok}
use mathlib.Core.Logic.{⊎_elim}
use Rattle.tables.proofs.CatalogueLaws.{one_shl}
use Rattle.importer.proofs.header.with_attribute.Goals as goal

pub returns-in_err-scheme : goal.returns-in_err-scheme
returns-in_err-scheme c =
    let a = c.args in
    let e : c.from_residual.result ≡ Err c.in_err-scheme.field-0.0 = search rules in
    rw (e ∙ sym c.in_err-scheme.was) (grows-bad a.m a.field a.before a.code a.scheme _ c.in_err-scheme.was)

pub returns-then-code-before : goal.returns-then-code-before
returns-then-code-before c =
    let a = c.args in
    rw c.new.ensures
    (grows-fault a.m a.field a.before a.code a.scheme _ c.in_ok-scheme.was c.requires.1 (⊎_elim (λ h. inl h) (λ h. inr h.1) c.then-code-before.either))

pub returns : goal.returns
returns c =
    let a = c.args in
    rw (one_shl (a.code - 1) (omega arith))
    (grows-ok a.m a.field a.before a.code a.scheme _ c.in_ok-scheme.was c.if-code-before.false c.if-m-code.false)
