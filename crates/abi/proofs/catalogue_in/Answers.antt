-- `abi::catalogue_in` meets its contract: each eight words are read by themselves. Assumes nothing.
use Rattle.abi.specs.Words.{catalogue_in}
use Rattle.abi.proofs.catalogue_in.Goals as goal

pub returns : goal.returns
unfolding catalogue_in
returns c =
    rw (c.schemes_in-schemes.ensures, c.shorts_in-rows.ensures, c.shorts_in-places.ensures, c.shorts_in-touching.ensures)
