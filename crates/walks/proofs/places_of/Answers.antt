-- `walks::places_of` meets its contract. Invariant: the places are worked out but for the bits that are left (`Placing`). Assumes nothing.
use native.Mathlib.Omega.{arith}
use mathlib.Core.Path.{refl}
use Rattle.walks.proofs.PlaceLaws.{rank-few, place-start, place-next, place_end}
use Rattle.walks.proofs.places_of.Goals as goal

pub loop-a-init : goal.loop-a-init
loop-a-init c = rw (c.into_iter-a-iterator.ensures.into_iter_gives, c.bits-a-items.ensures) (place-start _ _ _ refl)

pub overflow_cast-places : goal.overflow_cast-places
overflow_cast-places c = omega (arith, c.rank.ensures, rank-few c.args.scheme _ c.in-Some.ensures.steps.0.narrow)

pub loop-a-preserved : goal.loop-a-preserved
loop-a-preserved c =
    rw (c.in-Some.ensures.steps.1) (place-next _ _ _ _ _ _ c.loop-a.invariant c.in-Some.ensures.steps.0 c.rank.ensures)

pub returns : goal.returns
returns c = place_end _ _ _ (rw c.in-None.ensures.steps.0 at c.loop-a.invariant)
