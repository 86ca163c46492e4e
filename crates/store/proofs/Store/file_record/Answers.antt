-- `Store::file_record` meets its contract: its four stores are those of `filed`. Assumes nothing.
use Prim.Native.Nat.{ℕ}
use mathlib.Core.Path.{refl, ap}
use native.Mathlib.Omega.{arith}
use lib.ListN.{set}
use Rattle.keys.proofs.TwoWordLaws.{key-low, key-high}
use Rattle.store.specs.Store.{filed}
use Rattle.store.proofs.Store.file_record.Goals as goal

pub returns-clause-holds : goal.returns-clause-holds
unfolding filed
returns-clause-holds c =
    let s = c.args.self.now in
    record {
      low = ap (λ (x : ℕ). set s.low.now c.args.at x) (key-low c.args.key (omega arith));
      high = ap (λ (x : ℕ). set s.high.now c.args.at x) (key-high c.args.key (omega arith));
      left = refl;
      right = refl;
    }
