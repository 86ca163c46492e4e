-- `abi::streams::put_result` meets its contract: five words, put one by one. Assumes nothing.
use native.Mathlib.Omega.{arith}
use Prim.Native.Nat.{ℕ}
use mathlib.Core.Path.{ap₂, ◌∙◌}
use Rattle.laws.specs.Lists.{put}
use Rattle.keys.proofs.TwoWordLaws.{key-low, key-high}
use Rattle.abi.specs.Streams.{result_of}
use Rattle.abi.proofs.StreamCallLaws.{put_five}
use Rattle.abi.proofs.streams.put_result.Goals as goal

pub returns : goal.returns
returns c =
    let k = c.args.key in
    let n = c.args.counts in
    put_five _ _ _ _ _ c.args.words.now c.requires
    ∙ ap₂ (λ (x y : ℕ). put (result_of x y n.trials n.tests n.looks) c.args.words.now) (key-low k (omega arith)) (key-high k (omega arith))
