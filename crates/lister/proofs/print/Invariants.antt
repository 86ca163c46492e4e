-- `lister::print` is safe and ends. Invariant: what has been written, what the buffer holds and what is still to come are the text that the first lines
-- began (`Printing`), which is the listing of the input. The measure is how many calls are left. Assumes nothing.
use Prim.Native.Nat.{ℕ}
use mathlib.Core.Path.{◌≡◌}
use mathlib.Core.List.{List}
use lib.ListN.{length}
use Rattle.lister.specs.Listing.{text_from, lines_at, calls_in, Printing}
use Rattle.lister.proofs.print.Given as goal

abbrev pub invariant-loop-more : goal.invariant-loop-more
invariant-loop-more l =
    ((w : List ℕ) × Printing (text_from (lines_at l.initial.to l.initial.more) l.initial.store l.initial.padded l.initial.to.out.now) w (lines_at l.to l.more) l.store l.padded l.to.out.now)
    × (length l.to.out.now ≡ 32768)

abbrev pub decreases-loop-more : goal.decreases-loop-more
decreases-loop-more l = calls_in l.more
