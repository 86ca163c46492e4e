-- `lister::print` is safe and ends. Invariant: what has been written, what the buffer holds and what is still to come are the text that the first lines
-- began (`Printing`), which is the listing of the input. The measure is how many calls are left. Assumes nothing.
use mathlib.Core.Path.{◌∙◌}
use Rattle.lister.proofs.ListingLaws.{printing-next}
use Rattle.lister.proofs.print.Goals as goal

pub loop-more-preserved : goal.loop-more-preserved
loop-more-preserved c =
    let i = c.loop-more.invariant in
    let m = c.more_lines-more in
    ((_, printing-next c.in-Some.standing c.in-Some.is i.0.1 m.ensures.gives), m.ensures.same.1 ∙ i.1)
