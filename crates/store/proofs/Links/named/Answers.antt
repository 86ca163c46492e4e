-- `Links::named` meets its contract: a link of 16 bits is looked at on the side meant, and one less is its place. Assumes nothing.
use Rattle.store.specs.Store.{link_of}
use Rattle.store.proofs.Links.named.Goals as goal
use Rattle.store.proofs.Links.named.Goals.{then-link, else-link}

pub returns : goal.returns
unfolding link_of
returns c =
    elim c.if-link.branch [
      | then-link w ↦ rw w.if-link.true (rw w.links-is at c.checked_sub.ensures)
      | else-link w ↦ rw w.if-link.false (rw w.links-is at c.checked_sub.ensures)
    ]
