-- `tables::check_shape` meets its contract. Invariant: no table below t has a fault, so the whole answer is the answer from table t on. Assumes nothing.
use Rattle.std.proofs.Common.{◌+◌, ◌-◌, ◌≡◌, refl, sym, ap, ◌∙◌, arith}
use Rattle.std.proofs.lemmas.Result.{err_from_is_err_and}
use Rattle.refusals.specs.Refusals.{fault_in}
use Rattle.refusals.proofs.RefusalLaws.{number-some}
use Rattle.tables.specs.Catalogues.{first_cell}
use Rattle.tables.specs.Checks.{shape_fault}
use Rattle.tables.proofs.CatalogueLaws.{cells-next}
use Rattle.tables.proofs.CheckLaws.{first_some, first-none, size-clear, fault_at, tables-none, tables-bad, tables_more}
use Rattle.tables.proofs.check_shape.Goals.{After-check_table}
use Rattle.tables.proofs.check_shape.Goals as goal

-- What table t meets, where the loop asks it.
met : (c : After-check_table)
    → fault_at c.args.cat c.args.lent c.loop-t.t ≡ fault_in c.check_table.result
met c = rw (← c.loop-t.invariant.3, ← c.from.ensures) (sym c.check_table.ensures.fault)

pub returns-in_err-check_sizes : goal.returns-in_err-check_sizes
unfolding shape_fault
returns-in_err-check_sizes c =
    let p = err_from_is_err_and c.from_residual.result c.from_residual.ensures.1 in
    rw (p.1, p.2) (c.in_err-check_sizes.ensures ∙ sym (first_some _ _ (λ e. number-some _ (c.in_err-check_sizes.ensures ∙ e))))

pub loop-t-init : goal.loop-t-init
unfolding first_cell shape_fault
loop-t-init c =
    let s = size-clear _ _ (sym c.in_ok-check_sizes.ensures) in
    let e : c.args.cat.n - 0 ≡ c.args.cat.n = omega arith in
    (s.m-high, s.n-high, omega arith, refl, rw e (first-none _ _ (sym c.in_ok-check_sizes.ensures)))

pub returns-in_err-used : goal.returns-in_err-used
returns-in_err-used c =
    let l = c.loop-t in
    let p = err_from_is_err_and c.from_residual-in_err-used.result c.from_residual-in_err-used.ensures.1 in
    let k = met (goal.at.returns-in_err-used c).After-check_table in
    let n = c.in_err-used.ensures.fault in
    rw (p.1, p.2) (sym (l.invariant.4 ∙ tables-bad _ _ _ _ (omega (arith, c.loop-t-test.true)) (λ e. number-some _ (n ∙ (rw (← l.invariant.3, ← c.from.ensures) at e))) ∙ k ∙ ap fault_in c.in_err-used.was))

pub loop-t-preserved : goal.loop-t-preserved
loop-t-preserved c =
    let l = c.loop-t in
    let cat = c.args.cat in
    let ok = c.in_ok-used.ensures in
    (l.invariant.0, l.invariant.1, ok.cells.1, rw (ok.cells.0, c.from.ensures, cells-next cat l.t, ← l.invariant.3) refl, l.invariant.4 ∙ tables_more cat _ (cat.n - l.t) (cat.n - (l.t + 1)) l.t (omega (arith, c.loop-t-test.true)) (rw (← l.invariant.3, ← c.from.ensures) (sym ok.fault)))

pub returns : goal.returns
returns c =
    let l = c.loop-t in
    sym (l.invariant.4 ∙ tables-none _ _ _ _ (omega (arith, c.loop-t-test.false)))
