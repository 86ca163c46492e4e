-- `numbers::write` meets its contract. Invariant: what is left to write from here on makes the whole answer.
-- Assumes nothing.
use Prim.Native.Nat.{◌+◌, ◌/◌, ◌%◌}
use mathlib.Core.Path.{refl, sym, ap, ◌∙◌}
use mathlib.Core.List.{[]}
use native.Mathlib.Omega.{arith}
use lib.ListN.{length, set, length-set}
use Rattle.numbers.specs.Numbers.{encode}
use Rattle.laws.proofs.ListLaws.{put-cons, put-nil}
use Rattle.numbers.proofs.EncodeLaws.{encode-last, encode-more}
use Rattle.numbers.proofs.write.Goals as goal

pub loop-y-init : goal.loop-y-init
loop-y-init c = (omega arith, omega arith, refl, refl)

pub bounds-out-n : goal.bounds-out-n
bounds-out-n c = omega (arith, ap length (encode-more c.loop-y.y (omega arith) (omega arith)))

pub overflow_add-n : goal.overflow_add-n
overflow_add-n c = omega (arith, ap length (encode-more c.loop-y.y (omega arith) (omega arith)))

pub loop-y-preserved : goal.loop-y-preserved
loop-y-preserved c =
    let l = c.loop-y in
    let e = encode-more l.y (omega arith) (omega arith) in
    let k = ap length e in (
      omega arith,
      omega arith,
      simp length-set l.invariant.2,
      l.invariant.3 ∙ rw e (put-cons l.out l.n (128 + l.y % 128) (encode (l.y / 128)) (omega arith)),
    )

pub bounds-out-n-2 : goal.bounds-out-n-2
bounds-out-n-2 c = omega (arith, ap length (encode-last c.loop-y.y (omega arith)))

pub overflow_add-result : goal.overflow_add-result
overflow_add-result c = omega (arith, ap length (encode-last c.loop-y.y (omega arith)))

pub shape_of-out : goal.shape_of-out
shape_of-out c = simp length-set c.loop-y.invariant.2

pub returns : goal.returns
returns c =
    let l = c.loop-y in
    let e = encode-last l.y (omega arith) in
    let k = ap length e in
    let o = set l.out l.n l.y in
    record {
      count = omega arith;
      bytes = sym (l.invariant.3 ∙ rw e (put-cons l.out l.n l.y [] (omega arith)) ∙ put-nil o (l.n + 1));
    }
