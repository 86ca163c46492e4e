-- `holding::list` is safe: the cells and the store that it lends are zeros. Assumes nothing.
use mathlib.Core.Path.{refl}
use Rattle.lister.specs.Listing.{blank}
use Rattle.holding.proofs.list.Goals as goal

pub print-requires : goal.print-requires
unfolding blank
print-requires c = (refl, refl, refl, refl, refl)
