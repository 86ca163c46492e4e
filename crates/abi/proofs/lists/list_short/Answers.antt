-- `abi::lists::list_short` meets its contract: its two tests are the definition's. Assumes nothing.
use mathlib.Core.Path.{refl}
use Rattle.abi.specs.Lists.{list_short}
use Rattle.abi.proofs.lists.list_short.Goals as goal

pub returns-then-too_few : goal.returns-then-too_few
unfolding list_short
returns-then-too_few c = rw (← c.too_few.ensures, c.if-too_few.true) refl

pub returns-else-too_few : goal.returns-else-too_few
unfolding list_short
returns-else-too_few c = rw (← c.too_few.ensures, c.if-too_few.false) refl
