-- `Image::count_at` meets its contract: one law for each way; a good count is small enough. Assumes nothing.
use Rattle.std.proofs.Common.{ℕ, ◌≡◌, ◌+◌, ◌*◌, inl, inr, true, refl, sym, ap, ◌∙◌, arith, rules}
use Rattle.std.specs.Int.Count.{ones}
use Rattle.std.proofs.lemmas.Result.{err_from_is_err_and}
use Rattle.refusals.specs.Refusals.{number}
use Rattle.refusals.proofs.RefusalLaws.{number-some}
use Rattle.tables.specs.Checks.{count_fault}
use Rattle.tables.proofs.VersionLaws.{most-in}
use Rattle.tables.proofs.CheckLaws.{fault-counted}
use Rattle.tables.specs.Versions.{version_number, most_rows_in}
use Rattle.loader.specs.Reading.{refusal_at, rows_from}
use Rattle.loader.specs.Faults.{fault_of, To, WalkFault, Table, TableFault}
use Rattle.loader.proofs.ReadingLaws.{read-good, result-cases}
use Rattle.loader.proofs.LoadLaws.{count-unread, count-fault, count-rows}
use Rattle.loader.proofs.scanner.Image.count_at.Goals.{In_ok-used}
use Rattle.loader.proofs.scanner.Image.count_at.Goals as goal

pub check_count-requires : goal.check_count-requires
check_count-requires c = (rw c.most_rows-most.ensures (most-in _), c.requires)

pub returns-in_err-count : goal.returns-in_err-count
returns-in_err-count c =
    let p = err_from_is_err_and c.from_residual.result c.from_residual.ensures.1 in
    rw (p.1, p.2) (sym (count-unread _ _ _ _ _ _ _ c.in_err-count.ensures))

pub returns-in_err-used : goal.returns-in_err-used
returns-in_err-used c =
    let p = err_from_is_err_and c.from_residual-in_err-used.result c.from_residual-in_err-used.ensures.1 in
    let a = c.args in
    let rows = c.in_ok-count.count.value in
    elim (result-cases c.check_count.result _ _ c.in_err-used.ensures.cases) [
      | inl x ↦ cc
      | inr x ↦
          let said : fault_of c.in_err-used.field-0.0 ≡ refusal_at (number x.0) a.at 0 = search rules in
          let met : number x.0 ≡ count_fault (most_rows_in (version_number a.self.now.version)) a.self.now.room a.used a.scheme rows = rw (x.1, c.most_rows-most.ensures) at c.check_count.ensures.fault in
          rw (p.1, p.2)
          (ap TableFault said ∙ ap (λ (k : ℕ). TableFault (refusal_at k a.at 0)) met
          ∙ sym (count-fault _ _ _ _ _ _ rows _ (read-good _ _ _ _ c.in_ok-count.ensures) (λ z. number-some x.0 (met ∙ z))))
    ]

-- What a good count is: it has no fault, and these are the cells with it.
record Good (c : In_ok-used) : Type 0 where
  clear : count_fault (most_rows_in (version_number c.args.self.now.version)) c.args.self.now.room c.args.used c.args.scheme c.in_ok-count.count.value ≡ 0
  cells : c.in_ok-used.used ≡ c.args.used + c.in_ok-count.count.value * ones c.args.scheme

good : (c : In_ok-used) → Good c
good c =
    elim (result-cases c.check_count.result _ _ c.in_ok-used.ensures.cases) [
      | inl x ↦
          let h = rw x.1 at c.check_count.ensures.cells in
          record { clear = sym (rw (x.1, c.most_rows-most.ensures) at c.check_count.ensures.fault); cells = cc }
      | inr x ↦ absurd (search rules)
    ]

pub returns-in_err-next : goal.returns-in_err-next
returns-in_err-next c =
    let p = err_from_is_err_and c.from_residual-in_err-next.result c.from_residual-in_err-next.ensures.1 in
    let a = c.args in
    let s = a.self.now.bytes.now in
    let v = version_number a.self.now.version in
    let n = c.in_ok-count.count in
    let g = good (goal.at.returns-in_err-next c).In_ok-used in
    let rows : rows_from n.value (ones a.scheme) s v true 0 n.next ≡ WalkFault (fault_of c.in_err-next.field-0.0) =
    ap (λ (w : ℕ). rows_from n.value w s v true 0 n.next) (sym c.width.ensures) ∙ sym c.in_err-next.ensures in
    rw (p.1, p.2) (sym (count-rows s v a.self.now.room a.scheme a.used a.at n.value n.next (read-good _ _ _ _ c.in_ok-count.ensures) g.clear ∙ rw rows refl))

pub overflow_cast-result : goal.overflow_cast-result
overflow_cast-result c =
    let g = good (goal.at.overflow_cast-result c).In_ok-used in
    omega (arith, fault-counted _ _ _ _ _ g.clear, most-in (version_number c.args.self.now.version))

pub returns : goal.returns
returns c =
    let a = c.args in
    let s = a.self.now.bytes.now in
    let v = version_number a.self.now.version in
    let n = c.in_ok-count.count in
    let g = good (goal.at.returns c).In_ok-used in
    let rows : rows_from n.value (ones a.scheme) s v true 0 n.next ≡ To c.in_ok-next.next =
    ap (λ (w : ℕ). rows_from n.value w s v true 0 n.next) (sym c.width.ensures) ∙ sym c.in_ok-next.ensures in
    sym (count-rows s v a.self.now.room a.scheme a.used a.at n.value n.next (read-good _ _ _ _ c.in_ok-count.ensures) g.clear
    ∙ rw rows (ap (λ (u : ℕ). Table a.scheme n.value u c.in_ok-next.next) (sym g.cells)))
