-- `hub::HubList::new` meets its contract: with no entry in the tree, every link is 0. Assumes nothing.
use native.Mathlib.Omega.{arith}
use Rattle.hub.proofs.TreeLaws.{linked-start}
use Rattle.hub.proofs.HubList.new.Goals as goal

pub invariant_of-result : goal.invariant_of-result
invariant_of-result c = record { counted = c.list_length.ensures; within = omega arith; linked = ∣ linked-start _ _ _ ∣₁ }
