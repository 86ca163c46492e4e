-- `hub::HubList::first_missing` meets its contract. Invariant: what the trials on the entries from here on reach decides. Assumes nothing.
use mathlib.Core.Path.{◌≡◌}
use lib.ListN.{drop}
use Rattle.hub.specs.Verdicts.{seek, tried_on}
use Rattle.hub.specs.Searching.{world_in, sets_in}
use Rattle.hub.proofs.HubList.first_missing.Given as goal

abbrev pub invariant-loop-i : goal.invariant-loop-i
invariant-loop-i l =
    let W = world_in l.self.layout.now in
    let sets = sets_in l.self.layout.now l.self.keys in
    seek sets (tried_on W sets) ≡ seek sets (tried_on W (drop l.i sets))
