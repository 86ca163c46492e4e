-- `abi::shorts_in` meets its contract. Invariant: the front of the array is the words so far. Assumes nothing.
use Prim.Native.Nat.{◌+◌, ◌-◌, ◌≤◌}
use mathlib.Core.Path.{◌≡◌}
use lib.ListN.{length, take}
use Rattle.laws.specs.Lists.{tab}
use Rattle.tables.specs.Sizes.{most_tables}
use Rattle.abi.specs.Words.{short_in}
use Rattle.abi.proofs.shorts_in.Given as goal

abbrev pub invariant-loop-t : goal.invariant-loop-t
invariant-loop-t l =
    (length l.shorts ≡ most_tables) × (take l.t l.shorts ≡ tab l.t (λ u. short_in l.words (l.from + u)))
