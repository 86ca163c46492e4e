-- `abi::short_in` meets its contract: the least of two, whichever is named first. Assumes nothing.
use native.Mathlib.Omega.{arith}
use Rattle.abi.specs.Words.{short_in}
use Rattle.abi.proofs.short_in.Goals as goal

pub returns : goal.returns
unfolding short_in
returns c = omega (arith, c.min.ensures, c.from.ensures)
