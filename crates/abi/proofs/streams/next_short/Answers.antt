-- `abi::streams::next_short` meets its contract: its two tests are the definition's. Assumes nothing.
use mathlib.Core.Path.{refl, ◌∙◌}
use Rattle.abi.specs.Streams.{next_short}
use Rattle.abi.proofs.streams.next_short.Goals as goal

pub returns-then-open_short : goal.returns-then-open_short
unfolding next_short
returns-then-open_short c = c.if-open_short.true ∙ rw (← c.open_short.ensures, c.if-open_short.true) refl

pub returns-else-open_short : goal.returns-else-open_short
unfolding next_short
returns-else-open_short c = rw (← c.open_short.ensures, c.if-open_short.false) refl
