-- `Key::none` meets its contract: both its words are 0. Assumes nothing.
use mathlib.Core.Path.{refl}
use Rattle.keys.specs.TwoWords.{joined}
use Rattle.keys.proofs.Key.none.Goals as goal

pub returns : goal.returns
unfolding joined
returns c = refl
