-- `Keys::find` meets its contract. The loop's invariant: what a search from here says is what the whole search says. Each way that a look can go has its
-- law in LookLaws. Assumes nothing.
use Prim.Native.Nat.{◌-◌, ◌<◌}
use mathlib.Core.Path.{◌≡◌}
use Rattle.keys.specs.TwoWords.{number_of}
use Rattle.store.specs.Store.{store_in, walk_in, search_of}
use Rattle.store.proofs.Keys.find.Given as goal

abbrev pub invariant-loop-d : goal.invariant-loop-d
invariant-loop-d l =
    let q = store_in l.self.low.now l.self.high.now l.links.left.now l.links.right.now l.found in
    (l.p < l.found) × (search_of q (number_of l.sought) l.deepest ≡ walk_in q (number_of l.sought) (l.deepest - l.d) l.d l.p)
