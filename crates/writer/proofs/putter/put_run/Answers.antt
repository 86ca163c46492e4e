-- `writer::putter::put_run` meets its contract. Invariant: the numbers that are left, from the cursor on, make the whole answer. Assumes nothing.
use native.Mathlib.Omega.{arith}
use Prim.Native.Nat.{◌+◌, ◌≤◌}
use mathlib.Core.Path.{sym, ap, ◌∙◌}
use lib.ListN.{length, get_or, length-take, length-drop}
use Rattle.laws.proofs.ListLaws.{put-nil, lent}
use Rattle.laws.proofs.PlacedLaws.{placed-rest}
use Rattle.laws.specs.Lists.{Placed}
use Rattle.numbers.specs.Numbers.{encode}
use Rattle.writer.proofs.WriteLaws.{low-at, run_none, run_more, run-length}
use Rattle.writer.proofs.putter.put_run.Goals as goal

pub write-at-requires : goal.write-at-requires
write-at-requires c =
    let l = c.loop-x in
    let xs = c.args.numbers.now in
    (low-at xs c.requires.0 l.x-index 0 c.loop-x-test.true, simp (length-take, length-drop) (omega (arith, l.invariant.left, c.requires.1, run-length xs l.x-index c.loop-x-test.true)))

pub loop-x-preserved : goal.loop-x-preserved
loop-x-preserved c =
    let l = c.loop-x in
    let xs = c.args.numbers.now in
    let w = c.write-at in
    let k = run-length xs l.x-index c.loop-x-test.true in
    let room : l.at + length (encode (get_or xs l.x-index 0)) ≤ length l.out = omega (arith, l.invariant.left, c.requires.1) in
    let p : Placed (encode (get_or xs l.x-index 0)) l.at l.out (l.at + w.result) _ =
    record { next = omega (arith, w.ensures.count); bytes = lent l.at l.out (encode (get_or xs l.x-index 0)) w.new.out (omega arith) w.ensures.bytes } in
    record {
      left = omega (arith, p.next, l.invariant.left);
      bytes = l.invariant.bytes ∙ rw (run_more xs l.x-index c.loop-x-test.true) (placed-rest room p _);
    }

pub returns : goal.returns
returns c =
    let l = c.loop-x in
    let z = run_none c.args.numbers.now l.x-index c.loop-x-test.false in
    record { next = omega (arith, l.invariant.left, ap length z); bytes = sym (l.invariant.bytes ∙ rw z (put-nil l.out l.at)) }
