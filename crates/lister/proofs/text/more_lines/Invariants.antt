-- `lister::text::more_lines` meets its contract. Invariant: what the buffer holds and what is still to come are the text that they were behind the first
-- call. The measure is how many calls are left. Assumes nothing.
use Prim.Native.Nat.{◌≤◌}
use Rattle.store.specs.Lent.{SameSlices}
use Rattle.lines.specs.Cursors.{SameBuffer}
use Rattle.lister.specs.Listing.{text_from, lines_at, calls_in, Gives}
use Rattle.lister.proofs.text.more_lines.Given as goal

abbrev pub invariant-loop-more : goal.invariant-loop-more
invariant-loop-more l = record {
  gives : Gives (text_from (lines_at l.initial.to l.initial.more) l.initial.store l.initial.padded l.initial.to.out.now) (lines_at l.to l.more) l.store l.padded l.to.out.now;
  fewer : calls_in l.more ≤ calls_in l.initial.more;
  slices : SameSlices l.initial.store l.store;
  same : SameBuffer l.initial.to l.to;
}

abbrev pub decreases-loop-more : goal.decreases-loop-more
decreases-loop-more l = calls_in l.more
