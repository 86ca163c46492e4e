-- `writer::checker::run_size` meets its contract: the sum of the sizes is the length of all, and a run is short. Assumes nothing.
use native.Mathlib.Omega.{arith}
use Prim.Native.Nat.{◌^◌, ◌<◌}
use mathlib.Core.Path.{sym, ◌∙◌}
use lib.ListN.{length}
use borrow.Author.Rules.{rules}
use Rattle.std.specs.List.{All}
use Rattle.std.proofs.iter.Serving.{serving}
use Rattle.std.proofs.lemmas.Iterator.{YieldsList-from_slice, YieldsList-from_map}
use Rattle.std.proofs.lemmas.Iterator.Consumers.{sum_by_from_yields_List, fits_by_from_yields_list}
use Rattle.numbers.specs.Numbers.{encode}
use Rattle.writer.proofs.WriteLaws.{length-encodes, low-at, run-few}
use Rattle.writer.proofs.checker.run_size.Goals as goal

pub sum-requires-clause-can : goal.sum-requires-clause-can
sum-requires-clause-can c =
    let low : All (λ x. x < 2 ^ 63) c.args.numbers.now = low-at _ c.requires.1 in
    grind serving

pub sum-requires-clause-fits : goal.sum-requires-clause-fits
sum-requires-clause-fits c =
    let xs = c.args.numbers.now in
    fits_by_from_yields_list (λ x. length (encode x)) xs c.map.result (2 ^ 64) (YieldsList-from_map _ (λ x. length (encode x)) (YieldsList-from_slice xs cc) c.map.ensures.closure (λ x r q k. search rules))
    (omega (arith, sym (length-encodes xs), run-few xs))

pub returns : goal.returns
returns c =
    let xs = c.args.numbers.now in
    sum_by_from_yields_List (λ x. length (encode x)) xs _ _ c.sum.ensures.ran (YieldsList-from_map _ (λ x. length (encode x)) (YieldsList-from_slice xs cc) c.map.ensures.closure (λ x r q k. search rules))
    ∙ sym (length-encodes xs)
