-- `Link::hang` meets its contract: one link is written, on the side meant. Assumes nothing.
use Rattle.store.specs.Store.{named}
use Rattle.store.proofs.Link.hang.Goals as goal

pub returns-then-self : goal.returns-then-self
unfolding named
returns-then-self c = record { left = rw c.if-self.true; right = rw c.if-self.true }

pub returns-else-self : goal.returns-else-self
unfolding named
returns-else-self c = record { left = rw c.if-self.false; right = rw c.if-self.false }
