-- `stream::check_call` meets its contract: the catalogue, then 13, then 11, each by its own law. Assumes nothing.
use Rattle.std.proofs.Common.{◌≡◌, ℕ, Bool, true, false, cond, length, refl, sym, ◌∙◌}
use Rattle.std.proofs.lemmas.Result.{err_from_is_err_and}
use Rattle.refusals.specs.declared.Refusal.{Refusal}
use Rattle.refusals.specs.Refusals.{number}
use Rattle.refusals.proofs.RefusalLaws.{number-some}
use Rattle.tables.specs.Checks.{Lawful}
use Rattle.tables.proofs.CheckLaws.{fault-lawful}
use Rattle.machine.specs.Machine.{Fit}
use Rattle.machine.proofs.RefusalLaws.{unfit-iff, call-catalogue, call-unfit, call-short, call-free}
use Rattle.stream.specs.Promises.{asked_of}
use Rattle.stream.specs.Parts.{stream_in}
use Rattle.stream.proofs.check_call.Goals.{In_ok-check_record}
use Rattle.stream.proofs.check_call.Goals as goal

-- What the test of a record says of it.
was_unfit : (b : Bool) (r : Refusal) → number r ≡ cond b 13 0 → b ≡ true
was_unfit true r e = refl
was_unfit false r e = absurd (number-some r e)

was_fit : (b : Bool) → ◌≡◌ {A = ℕ} 0 (cond b 13 0) → b ≡ false
was_fit true e = cc
was_fit false e = refl

pub returns-in_err-tables-clause-refusal : goal.returns-in_err-tables-clause-refusal
returns-in_err-tables-clause-refusal c =
    let p = err_from_is_err_and c.from_residual.result c.from_residual.ensures.1 in
    let e = c.in_err-tables.ensures.fault in
    rw (p.1, p.2) (e ∙ sym (call-catalogue _ _ _ _ (λ z. number-some _ (e ∙ z))))

pub returns-in_err-check_record-clause-refusal : goal.returns-in_err-check_record-clause-refusal
returns-in_err-check_record-clause-refusal c =
    let p = err_from_is_err_and c.from_residual-in_err-check_record.result c.from_residual-in_err-check_record.ensures.1 in
    let t = c.in_ok-tables.ensures in
    let e = rw t.tables.0 at c.in_err-check_record.ensures in
    let u = was_unfit _ _ e in
    rw (p.1, p.2) (e ∙ rw u (sym (call-unfit _ _ _ _ (fault-lawful _ _ (sym t.fault)) u)))

-- Behind the tests the tables are lawful, and the record fits.
passed : (c : In_ok-check_record) → Lawful c.args.cat (length c.args.cells.now) × Fit c.args.cat (stream_in (asked_of c.args.scope) c.args.s c.args.store.now)
passed c =
    let t = c.in_ok-tables.ensures in
    (fault-lawful _ _ (sym t.fault), (unfit-iff _ _).0 (was_fit _ (rw t.tables.0 at c.in_ok-check_record.ensures)))

pub returns-then-padded-cat-clause-refusal : goal.returns-then-padded-cat-clause-refusal
returns-then-padded-cat-clause-refusal c =
    let p = passed (goal.at.returns-then-padded-cat-clause-refusal c).In_ok-check_record in
    sym (call-short _ _ _ _ p.0 p.1 c.if-padded-cat.true)

pub returns-clause-refusal : goal.returns-clause-refusal
returns-clause-refusal c =
    let p = passed (goal.at.returns-clause-refusal c).In_ok-check_record in
    sym (call-free _ _ _ _ p.0 p.1 c.if-padded-cat.false)

pub returns-clause-tables : goal.returns-clause-tables
returns-clause-tables c = (passed (goal.at.returns-clause-tables c).In_ok-check_record).0
