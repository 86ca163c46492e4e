-- `lister::read_input` meets its contract. Invariant: what came is no more than was lent, so what is lent next lies behind it. The measure is the room left.
-- Assumes nothing.
use Prim.Native.Nat.{◌-◌, ◌≤◌}
use mathlib.Core.Path.{◌≡◌}
use lib.ListN.{length}
use Rattle.lister.proofs.read_input.Given as goal

abbrev pub invariant-loop-got : goal.invariant-loop-got
invariant-loop-got l = (l.got ≤ length l.input) × (length l.input ≡ length l.initial.input)

abbrev pub decreases-loop-got : goal.decreases-loop-got
decreases-loop-got l = length l.input - l.got
