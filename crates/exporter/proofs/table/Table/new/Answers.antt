-- `exporter::table::Table::new` meets its contract: the tests are the image writer's, one after the other. Assumes nothing.
use native.Mathlib.Omega.{arith}
use Prim.Native.Nat.{◌*◌, ◌<◌}
use mathlib.Core.Path.{◌≡◌, sym, ap, ◌∙◌}
use lib.ListN.{length, length-take}
use lib.Seq.{length-take-le}
use lib.Count.{ones}
use Rattle.std.proofs.lemmas.Result.{err_from_is_err_and}
use Rattle.refusals.specs.Refusals.{fault_in}
use Rattle.refusals.proofs.RefusalLaws.{number-some}
use Rattle.tables.proofs.CheckLaws.{size-clear}
use Rattle.writer.proofs.WriteLaws.{rows-part}
use Rattle.text.specs.Writing.{write_fault}
use Rattle.text.specs.Refusals.{TablePasses}
use Rattle.exporter.proofs.CheckLaws.{table-alone, all-rows, write-sizes, write-table, write-rows}
use Rattle.exporter.proofs.WriteLaws.{no-fault, ones-some}
use Rattle.exporter.proofs.table.Table.new.Goals.{In_ok-count, After-check_rows}
use Rattle.exporter.proofs.table.Table.new.Goals as goal

pub returns-in_err-check_sizes-clause-fault : goal.returns-in_err-check_sizes-clause-fault
returns-in_err-check_sizes-clause-fault c =
    let a = c.args in
    let p = err_from_is_err_and c.from_residual.result c.from_residual.ensures.1 in
    rw (p.1, p.2) (write-sizes a.m a.scheme a.rows a.cells.now _ c.in_err-check_sizes.ensures (number-some _))

pub check_table-requires : goal.check_table-requires
check_table-requires c = (omega (arith, (size-clear c.args.m 1 (sym c.in_ok-check_sizes.ensures)).m-high), omega arith)

pub returns-in_err-count-clause-fault : goal.returns-in_err-count-clause-fault
returns-in_err-count-clause-fault c =
    let a = c.args in
    let p = err_from_is_err_and c.from_residual-in_err-count.result c.from_residual-in_err-count.ensures.1 in
    rw (p.1, p.2) (write-table a.m a.scheme a.rows a.cells.now (sym c.in_ok-check_sizes.ensures) _ c.in_err-count.ensures.fault (number-some _))

-- What the table is known to be where its rows are looked at.
passes : (c : In_ok-count) → TablePasses c.args.m c.args.scheme c.args.rows (length c.args.cells.now)
passes c =
    let a = c.args in
    no-fault a.m a.scheme a.rows (length a.cells.now)
    (sym (table-alone a.m a.scheme a.rows (length a.cells.now)) ∙ rw (sym c.in_ok-check_sizes.ensures, sym c.in_ok-count.ensures.fault))

pub slice_bounds-own-end : goal.slice_bounds-own-end
slice_bounds-own-end c = sym (length-take-le c.in_ok-count.count c.args.cells.now (omega (arith, c.in_ok-count.ensures.cells.0, (passes c).fits)))

-- A row has a cell.
wide : (c : In_ok-count) → 0 < ones c.args.scheme
wide c = let p = passes c in ones-some c.args.m c.args.scheme p.scheme-some p.scheme-low

pub check_rows-requires : goal.check_rows-requires
check_rows-requires c = rw c.width.ensures (wide (goal.at.check_rows-requires c).In_ok-count)

-- What the rows meet, where they are looked at.
met : (c : After-check_rows) → fault_in c.check_rows.result ≡ write_fault c.args.m c.args.scheme c.args.rows c.args.cells.now
met c =
    let a = c.args in
    let i = goal.at-After-check_rows c in
    let n : c.in_ok-count.count ≡ a.rows * ones a.scheme = omega (arith, c.in_ok-count.ensures.cells.0) in
    c.check_rows.ensures
    ∙ rw (c.width.ensures, n) (rows-part a.cells.now (ones a.scheme) 1 (wide i.In_ok-count) a.rows 0 (omega (arith, (passes i.In_ok-count).fits)))
    ∙ all-rows (ones a.scheme) a.cells.now a.rows
    ∙ write-rows a.m a.scheme a.rows a.cells.now (sym c.in_ok-check_sizes.ensures) (sym c.in_ok-count.ensures.fault)

pub returns-in_err-check_rows-clause-fault : goal.returns-in_err-check_rows-clause-fault
returns-in_err-check_rows-clause-fault c =
    let p = err_from_is_err_and c.from_residual-in_err-check_rows.result c.from_residual-in_err-check_rows.ensures.1 in
    rw (p.1, p.2) (sym (ap fault_in c.in_err-check_rows.was) ∙ met (goal.at.returns-in_err-check_rows-clause-fault c).After-check_rows)

pub invariant_of-result : goal.invariant_of-result
invariant_of-result c =
    let p = passes (goal.at.invariant_of-result c).In_ok-count in
    record {
      attributes = p.attributes;
      some_scheme = p.scheme-some;
      low_scheme = p.scheme-low;
      few = omega (arith, length-take c.in_ok-count.count c.args.cells.now, c.in_ok-count.ensures.cells.1);
    }

pub returns-clause-fault : goal.returns-clause-fault
returns-clause-fault c = sym (ap fault_in c.in_ok-check_rows.was) ∙ met (goal.at.returns-clause-fault c).After-check_rows
