-- `writer::checker::check` meets its contract. Invariant: the rows of no table below t meet a refusal, so the whole answer is the answer from table t
-- on. Assumes nothing.
use native.Mathlib.Omega.{arith}
use Prim.Native.Nat.{◌+◌, ◌-◌}
use mathlib.Core.Path.{◌≡◌, sym, ap, ◌∙◌}
use lib.ListN.{length}
use lib.Count.{ones}
use Rattle.std.proofs.lemmas.Result.{err_from_is_err_and}
use Rattle.refusals.specs.Refusals.{fault_in}
use Rattle.refusals.proofs.RefusalLaws.{number-some}
use Rattle.tables.specs.Catalogues.{scheme_of, count_of, first_cell}
use Rattle.tables.specs.Versions.{version_of}
use Rattle.tables.specs.Checks.{Lawful}
use Rattle.tables.proofs.CatalogueLaws.{some-cell, table-ends}
use Rattle.tables.proofs.CheckLaws.{first_some, first-none, fault-lawful}
use Rattle.writer.specs.Write.{rows_refusal, write_fault}
use Rattle.writer.proofs.AcceptLaws.{cells-none, cells-bad, cells-more}
use Rattle.writer.proofs.WriteLaws.{rows-part}
use Rattle.writer.proofs.checker.check.Goals.{In_ok-tables, After-check_rows}
use Rattle.writer.proofs.checker.check.Goals as goal

pub returns-in_err-tables-clause-fault : goal.returns-in_err-tables-clause-fault
unfolding write_fault
returns-in_err-tables-clause-fault c =
    let p = err_from_is_err_and c.from_residual.result c.from_residual.ensures.1 in
    let f = c.in_err-tables.ensures.fault in
    rw (p.1, p.2) (f ∙ sym (first_some _ _ (λ e. number-some _ (f ∙ e))))

pub loop-t-init : goal.loop-t-init
unfolding write_fault
loop-t-init c =
    let e : c.args.cat.n - 0 ≡ c.args.cat.n = omega arith in
    rw e (first-none _ _ (sym c.in_ok-tables.ensures.fault))

-- The catalogue is lawful where its rows are looked at.
lawful : (c : In_ok-tables) → Lawful c.args.cat (length c.args.cells.now)
lawful c = fault-lawful _ _ (sym c.in_ok-tables.ensures.fault)

pub check_rows-requires : goal.check_rows-requires
check_rows-requires c =
    let L = lawful (goal.at.check_rows-requires c).In_ok-tables in
    rw c.width.ensures (some-cell _ _ (L.scheme _ c.loop-t-test.true) (L.some-scheme _ c.loop-t-test.true))

-- What the rows of table t meet, where the loop asks it.
met : (c : After-check_rows) → rows_refusal c.args.cat c.args.cells.now c.loop-t.t ≡ fault_in c.check_rows.result
met c =
    let a = c.args in
    let t = c.loop-t.t in
    let L = lawful (goal.at-After-check_rows c).In_ok-tables in
    let h = c.loop-t-test.true in
    let e = c.in_ok-tables.ensures.tables in
    sym (c.check_rows.ensures
    ∙ rw (c.cells_of.ensures, e.0, e.1, c.width.ensures, c.version-version.ensures)
    (rows-part a.cells.now (ones (scheme_of a.cat t)) (version_of a.cat) (some-cell _ _ (L.scheme t h) (L.some-scheme t h)) (count_of a.cat t) (first_cell a.cat t)
    (omega (arith, table-ends a.cat t h, L.room))))

pub returns-in_err-check_rows-clause-fault : goal.returns-in_err-check_rows-clause-fault
returns-in_err-check_rows-clause-fault c =
    let p = err_from_is_err_and c.from_residual-in_err-check_rows.result c.from_residual-in_err-check_rows.ensures.1 in
    let k = met (goal.at.returns-in_err-check_rows-clause-fault c).After-check_rows ∙ ap fault_in c.in_err-check_rows.was in
    rw (p.1, p.2) (sym (c.loop-t.invariant ∙ cells-bad _ _ _ _ (omega (arith, c.loop-t-test.true)) (λ e. number-some _ (sym k ∙ e)) ∙ k))

pub loop-t-preserved : goal.loop-t-preserved
loop-t-preserved c =
    let cat = c.args.cat in
    let t = c.loop-t.t in
    let k = met (goal.at.loop-t-preserved c).After-check_rows ∙ ap fault_in c.in_ok-check_rows.was in
    c.loop-t.invariant ∙ cells-more cat _ (cat.n - t) (cat.n - (t + 1)) t (omega (arith, c.loop-t-test.true)) k

pub returns-clause-fault : goal.returns-clause-fault
returns-clause-fault c = sym (c.loop-t.invariant ∙ cells-none _ _ _ _ (omega (arith, c.loop-t-test.false)))
