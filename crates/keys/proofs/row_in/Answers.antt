-- `keys::row_in` meets its contract: the mask is a remainder (`and_mask`). Assumes nothing.
use lib.Bits.{and_mask}
use Rattle.keys.specs.Keys.{bits_per_row, row_of}
use Rattle.keys.proofs.row_in.Goals as goal

pub returns : goal.returns
unfolding row_of
returns c = and_mask _ bits_per_row
