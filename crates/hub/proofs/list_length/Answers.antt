-- `hub::list_length` meets its contract: the shorter slice counts (`keys_length`). Assumes nothing.
use native.Mathlib.Omega.{arith}
use Rattle.hub.proofs.TreeLaws.{keys_length}
use Rattle.hub.proofs.list_length.Goals as goal

pub returns : goal.returns
returns c = omega (arith, keys_length c.args.keys.low.now c.args.keys.high.now)
