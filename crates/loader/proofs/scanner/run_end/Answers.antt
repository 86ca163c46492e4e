-- `loader::scanner::run_end` meets its contract: one law for each way. Assumes nothing.
use Rattle.std.proofs.Common.{◌-◌, sym, ◌∙◌, arith}
use native.Mathlib.Nat.{sub-add-eq}
use Rattle.std.proofs.lemmas.Result.{err_from_is_err_and}
use Rattle.loader.proofs.ReadingLaws.{run_none, run_more, run-bad}
use Rattle.loader.proofs.scanner.run_end.Goals as goal

pub returns-in_err-i : goal.returns-in_err-i
returns-in_err-i c =
    let l = c.loop in
    let p = err_from_is_err_and c.from_residual.result c.from_residual.ensures.1 in
    rw (p.1, p.2) (sym (l.invariant ∙ run-bad (c.args.count - l.counter) _ l.i _ (omega arith) c.in_err-i.ensures))

pub loop-preserved : goal.loop-preserved
loop-preserved c =
    let l = c.loop in
    l.invariant ∙ rw sub-add-eq (run_more (c.args.count - l.counter) c.args.s.now l.i _ _ (omega arith) c.in_ok-i.ensures)

pub returns : goal.returns
returns c =
    let l = c.loop in
    sym (l.invariant ∙ run_none (c.args.count - l.counter) _ l.i (omega arith))
