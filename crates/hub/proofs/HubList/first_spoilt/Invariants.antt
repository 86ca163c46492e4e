-- `hub::HubList::first_spoilt` meets its contract. Invariant: no entry passed is spoilt, and those that were passed are entered. Assumes nothing.
use Prim.Native.Nat.{ℕ, ◌<◌}
use mathlib.Core.Path.{◌≡◌}
use mathlib.Core.Bool.{false}
use Rattle.hub.specs.Verdicts.{spoilt}
use Rattle.hub.specs.Searching.{world_in, sets_in}
use Rattle.hub.proofs.HubList.first_spoilt.Given as goal

abbrev pub invariant-loop-i : goal.invariant-loop-i
invariant-loop-i l = record {
  entered : l.self.entered ≡ l.i;
  layout : l.self.layout.now ≡ l.fn.self.layout.now;
  keys : l.self.keys ≡ l.fn.self.keys;
  clean : (v : ℕ) → v < l.i → spoilt (world_in l.fn.self.layout.now) (sets_in l.fn.self.layout.now l.fn.self.keys) v ≡ false;
}
