-- `door::harbour_check` meets its contract: the first pass decides, and no refusal of it lies far from the start. Assumes nothing.
use mathlib.Core.Path.{◌∙◌}
use Rattle.loader.proofs.PlaceLaws.{scan-near}
use Rattle.door.specs.Door.{check_of}
use Rattle.door.proofs.harbour_check.Goals as goal

pub number_of-requires : goal.number_of-requires
number_of-requires c = rw (c.of.ensures, c.scan.ensures) (scan-near c.args.image.now 8192)

pub returns : goal.returns
unfolding check_of
returns c = c.number_of.ensures ∙ rw (c.of.ensures, c.scan.ensures)
