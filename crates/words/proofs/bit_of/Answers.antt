-- `words::bit_of` meets its contract: a mask of one bit is a remainder by 2 (`and_mask`). Assumes nothing.
use mathlib.Core.Path.{ap}
use Prim.Native.Nat.{ℕ, ◌/◌, ◌^◌}
use lib.Bits.{and_mask}
use lib.Dec.{eqb}
use Rattle.words.specs.Words.{bit_of}
use Rattle.words.proofs.bit_of.Goals as goal

pub returns : goal.returns
unfolding bit_of
returns c = ap (λ (x : ℕ). eqb x 1) (and_mask (c.args.word / 2 ^ c.args.d) 1)
