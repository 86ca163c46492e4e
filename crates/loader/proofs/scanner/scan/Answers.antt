-- `loader::scanner::scan` meets its contract: version, m and n, each by its own law, then the tables. Assumes nothing.
use Rattle.std.proofs.Common.{◌≡◌, inl, inr, ap, sym, ◌∙◌, arith, rules}
use Rattle.std.proofs.lemmas.Result.{err_from_is_err_and}
use Rattle.refusals.specs.Refusals.{number}
use Rattle.tables.specs.Sizes.{version_one, version_two}
use Rattle.tables.specs.Versions.{version_number}
use Rattle.loader.specs.Reading.{refusal_at}
use Rattle.loader.specs.Faults.{fault_of, Value, FieldFault}
use Rattle.loader.specs.Load.{field_at}
use Rattle.loader.proofs.ReadingLaws.{result-cases, read-good}
use Rattle.loader.proofs.LoadLaws.{field-unread, version-in, version-out, good-field, head-version, head-m, head-n, head-good}
use Rattle.loader.proofs.scanner.scan.Goals.{In_ok-version}
use Rattle.loader.proofs.scanner.scan.Goals as goal

pub returns-in_err-first : goal.returns-in_err-first
returns-in_err-first c =
    let p = err_from_is_err_and c.from_residual.result c.from_residual.ensures.1 in
    rw (p.1, p.2) (sym (head-version c.args.s.now c.args.room _ (field-unread _ _ version_one version_two 3 _ c.in_err-first.ensures)))

pub returns-in_err-version : goal.returns-in_err-version
returns-in_err-version c =
    let s = c.args.s.now in
    let p = err_from_is_err_and c.from_residual-in_err-version.result c.from_residual-in_err-version.ensures.1 in
    elim (result-cases c.try_from.result _ _ c.in_err-version.ensures.cases) [
      | inl x ↦ cc
      | inr x ↦
          let said : fault_of c.in_err-version.field-0.0 ≡ refusal_at (number x.0) 0 0 = search rules in
          let h = rw x.1 at c.try_from.ensures in
          let out : fault_of c.in_err-version.field-0.0 ≡ refusal_at 3 0 0 = rw h.0 at said in
          rw (p.1, p.2) (sym (head-version s c.args.room _ (version-out s _ _ (read-good s 0 _ _ c.in_ok-first.ensures) h.1 h.2 ∙ ap FieldFault (sym out))))
    ]

-- the version that was read
version : (c : In_ok-version) → field_at c.args.s.now 0 version_one version_two 3 ≡ Value (version_number c.in_ok-version.version) c.in_ok-first.first.next
version c =
    let s = c.args.s.now in
    elim (result-cases c.try_from.result _ _ c.in_ok-version.ensures.cases) [
      | inl x ↦
          let h : version_number x.0 ≡ c.in_ok-first.first.value = rw x.1 at c.try_from.ensures in
          let e : c.in_ok-version.version ≡ x.0 = cc in
          version-in s _ c.in_ok-version.version (rw (e, h) (read-good s 0 _ _ c.in_ok-first.ensures))
      | inr x ↦ absurd (search rules)
    ]

pub returns-in_err-m : goal.returns-in_err-m
returns-in_err-m c =
    let v = version (goal.at.returns-in_err-m c).In_ok-version in
    let p = err_from_is_err_and c.from_residual-in_err-m.result c.from_residual-in_err-m.ensures.1 in
    rw (p.1, p.2) (sym (head-m c.args.s.now c.args.room _ _ v _ (sym c.in_err-m.ensures)))

pub returns-in_err-n : goal.returns-in_err-n
returns-in_err-n c =
    let v = version (goal.at.returns-in_err-n c).In_ok-version in
    let p = err_from_is_err_and c.from_residual-in_err-n.result c.from_residual-in_err-n.ensures.1 in
    rw (p.1, p.2) (sym (head-n c.args.s.now c.args.room _ _ v _ _ (sym c.in_ok-m.ensures) _ (sym c.in_err-n.ensures)))

pub invariant_of-image : goal.invariant_of-image
invariant_of-image c =
    let m = good-field _ _ 1 63 4 _ _ (sym c.in_ok-m.ensures) in
    omega (arith, m.high-bound)

pub tables-requires : goal.tables-requires
tables-requires c = (good-field _ _ 1 8 4 _ _ (sym c.in_ok-n.ensures)).high-bound

pub returns : goal.returns
returns c =
    let v = version (goal.at.returns c).In_ok-version in
    c.tables.ensures ∙ sym (head-good c.args.s.now c.args.room _ _ v _ _ (sym c.in_ok-m.ensures) _ _ (sym c.in_ok-n.ensures))
