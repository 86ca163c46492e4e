-- `numbers::write` meets its contract. Invariant: what is left to write from here on makes the whole answer.
-- Assumes nothing.
use Prim.Native.Nat.{◌+◌, ◌^◌, ◌<◌}
use mathlib.Core.Path.{◌≡◌}
use lib.ListN.{length}
use Rattle.numbers.specs.Numbers.{encode}
use Rattle.laws.specs.Lists.{put, over}
use Rattle.numbers.proofs.write.Given as goal

abbrev pub invariant-loop-y : goal.invariant-loop-y
invariant-loop-y l =
    (l.y < 2 ^ 63)
    × (l.n + length (encode l.y) ≡ length (encode l.x))
    × (length l.out ≡ length l.initial.out)
    × (put (encode l.x) l.initial.out ≡ over l.n (encode l.y) l.out)

abbrev pub decreases-loop-y : goal.decreases-loop-y
decreases-loop-y l = l.y
