-- `exporter::write_text` meets its contract: every check is made before the first byte, and each answer is its law's. Assumes nothing.
use native.Mathlib.Omega.{arith}
use mathlib.Core.Path.{◌≡◌, sym, ap, ◌∙◌}
use lib.ListN.{length}
use Rattle.std.proofs.lemmas.Result.{err_from_is_err_and}
use Rattle.refusals.proofs.RefusalLaws.{number-some}
use Rattle.text.specs.Writing.{write_fault}
use Rattle.exporter.specs.Promise.{text_in}
use Rattle.exporter.proofs.WriteLaws.{text, text-alone, writes-refused, writes_short, writes-text}
use Rattle.exporter.proofs.write_text.Goals.{In_ok-table}
use Rattle.exporter.proofs.write_text.Goals as goal

pub returns-in_err-table : goal.returns-in_err-table
returns-in_err-table c =
    let p = err_from_is_err_and c.from_residual.result c.from_residual.ensures.1 in
    rw (p.1, p.2) (writes-refused _ _ _ _ _ _ (number-some _) c.in_err-table.ensures.fault)

-- No refusal but for room is met,
clear : (c : In_ok-table) → write_fault c.args.m c.args.scheme c.args.rows c.args.cells.now ≡ 0
clear c = sym c.in_ok-table.ensures.fault

-- and the text of the table's own cells is that of the table.
same : (c : In_ok-table)
    → (let t = c.in_ok-table.table in
    text_in t.m t.scheme t.cells.now ≡ text c.args.m c.args.scheme c.args.rows c.args.cells.now)
same c = let e = c.in_ok-table.ensures.table in rw (e.0, e.1, e.2) (text-alone _ _ _ _ (clear c))

pub returns-then-out-len : goal.returns-then-out-len
returns-then-out-len c =
    let i = (goal.at.returns-then-out-len c).In_ok-table in
    writes_short _ _ _ _ _ (clear i) (omega (arith, c.if-out-len.true, c.text_length-len.ensures, ap length (same i)))

pub returns : goal.returns
returns c =
    let i = (goal.at.returns c).In_ok-table in
    let e = same i in
    let n = c.text_length-len.ensures ∙ ap length e in
    writes-text _ _ _ _ _ _ _ (clear i) (omega (arith, c.if-out-len.false, n)) n (c.put_text.ensures ∙ rw e)
