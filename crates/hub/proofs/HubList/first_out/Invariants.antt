-- `hub::HubList::first_out` meets its contract. Invariant: what the trials of the rows from here on reach decides. Assumes nothing.
use mathlib.Core.Path.{◌≡◌}
use lib.ListN.{drop}
use Rattle.disjunction.specs.Rule.{rows}
use Rattle.rows.specs.World.{set_of}
use Rattle.keys.specs.TwoWords.{number_of}
use Rattle.hub.specs.Verdicts.{seek, tried}
use Rattle.hub.specs.Searching.{world_in, sets_in}
use Rattle.hub.proofs.HubList.first_out.Given as goal

abbrev pub invariant-loop-j : goal.invariant-loop-j
invariant-loop-j l =
    let W = world_in l.self.layout.now in
    let T = set_of l.self.layout.now.tables.catalogue (number_of l.key) in
    seek (sets_in l.self.layout.now l.self.keys) (tried W T (rows W)) ≡ seek (sets_in l.self.layout.now l.self.keys) (tried W T (drop l.j (rows W)))
