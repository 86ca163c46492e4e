-- `abi::too_few` meets its contract: its test is the definition's. Assumes nothing.
use mathlib.Core.Path.{refl}
use Rattle.abi.proofs.too_few.Goals as goal

pub returns : goal.returns
returns c = refl
