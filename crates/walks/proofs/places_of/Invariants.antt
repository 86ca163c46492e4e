-- `walks::places_of` meets its contract. Invariant: the places are worked out but for the bits that are left (`Placing`). Assumes nothing.
use Rattle.walks.proofs.PlaceLaws.{Placing}
use Rattle.walks.proofs.places_of.Given as goal

abbrev pub invariant-loop-a : goal.invariant-loop-a
invariant-loop-a l = Placing l.scheme l.mask l.places l.a-iterator.rest
