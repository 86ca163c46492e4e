-- `Cursor::rows` meets its contract: a run of fields (`Run`) over the row numbers that the key holds. The measure is how many tables are left.
-- Assumes nothing.
use native.Mathlib.Omega.{arith}
use mathlib.Core.Path.{sym, ◌∙◌}
use Rattle.laws.proofs.ListLaws.{length-tab, tab-at}
use Rattle.keys.specs.Keys.{bits_per_row, row_of, rows_in}
use Rattle.keys.specs.TwoWords.{number_of}
use Rattle.lines.specs.Lines.{field}
use Rattle.lines.proofs.LineLaws.{field-few, run_holds, run-next, run_ends}
use Rattle.lines.proofs.Cursor.rows.Goals as goal

pub loop-t-init : goal.loop-t-init
unfolding rows_in
loop-t-init c = run_holds field field-few _ _ _ (length-tab _ _) (omega arith)

pub loop-t-preserved : goal.loop-t-preserved
unfolding rows_in
loop-t-preserved c =
    let s = c.args in
    let l = c.loop-t in
    let h = c.loop-t-test.true in
    let e = c.row.ensures ∙ sym (tab-at s.n (row_of bits_per_row (number_of s.key)) l.t h) in
    run-next field field-few h e l.invariant c.field.ensures.puts c.field.ensures.same

pub returns-clause-same : goal.returns-clause-same
returns-clause-same c = c.loop-t.invariant.same

pub returns-clause-puts : goal.returns-clause-puts
returns-clause-puts c = run_ends field field-few (omega arith) c.loop-t.invariant
