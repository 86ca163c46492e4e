-- `loader::filler::copy_codes` meets its contract: one law for each way. Assumes nothing.
use Rattle.std.proofs.Common.{◌-◌, length, sym, ◌∙◌, arith}
use native.Mathlib.Nat.{sub-add-eq}
use Rattle.std.proofs.lemmas.Result.{err_from_is_err_and}
use Rattle.std.proofs.lemmas.List.{set-get_or}
use Rattle.laws.proofs.ListLaws.{put-cons, put-nil}
use Rattle.loader.proofs.ReadingLaws.{run_none, run_more, run-bad, codes-none, codes-more, codes-bad}
use Rattle.loader.proofs.filler.copy_codes.Goals as goal

pub returns-in_err-code : goal.returns-in_err-code
returns-in_err-code c =
    let l = c.loop-cell in
    let s = c.args.s.now in
    let k = length c.args.out.now - l.cell-index in
    let p = err_from_is_err_and c.from_residual.result c.from_residual.ensures.1 in
    record {
      end = rw (p.1, p.2) (sym (l.invariant.end ∙ run-bad k s l.i _ (omega arith) c.in_err-code.ensures));
      cells = sym (l.invariant.cells ∙ rw (codes-bad k s l.i _ c.in_err-code.ensures, set-get_or) (put-nil l.out l.cell-index));
    }

pub loop-cell-preserved : goal.loop-cell-preserved
loop-cell-preserved c =
    let l = c.loop-cell in
    let s = c.args.s.now in
    let k = length c.args.out.now - l.cell-index in
    let x = c.in_ok-code.code in
    let e = codes-more k s l.i _ _ (omega arith) c.in_ok-code.ensures in
    record {
      end = l.invariant.end ∙ rw sub-add-eq (run_more k s l.i _ _ (omega arith) c.in_ok-code.ensures);
      cells = l.invariant.cells ∙ rw (sub-add-eq, e) (put-cons l.out l.cell-index x.value _ (omega arith));
    }

pub returns : goal.returns
returns c =
    let l = c.loop-cell in
    let s = c.args.s.now in
    let k = length c.args.out.now - l.cell-index in
    record {
      end = sym (l.invariant.end ∙ run_none k s l.i (omega arith));
      cells = sym (l.invariant.cells ∙ rw (codes-none k s l.i (omega arith)) (put-nil l.out l.cell-index));
    }
