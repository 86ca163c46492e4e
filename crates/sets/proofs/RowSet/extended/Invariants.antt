-- `sets::RowSet::extended` meets its contract. Round loop: what is left to do from here is the whole extension (`Growing`), no row of a table that is not
-- live is ever added (`Shut`), and the tables that touch the set are in reach (`Reach`). Row walk: `Shut` while tables leave the live ones, so that fewer are
-- live with each table that is walked, and with each round. Assumes nothing.
use Prim.Native.Nat.{◌≤◌}
use Rattle.keys.specs.TwoWords.{number_of}
use Rattle.disjunction.specs.Sets.{at}
use Rattle.rows.specs.World.{set_of}
use Rattle.sets.specs.Promises.{Reach}
use Rattle.sets.proofs.ClosedLaws.{Shut}
use Rattle.sets.proofs.Rounds.{Growing}
use Rattle.sets.proofs.RowSet.extended.Given as goal

abbrev pub invariant-loop-live : goal.invariant-loop-live
invariant-loop-live l =
    let t = l.self.layout.now.tables in
    Shut t.catalogue t.cells.now (number_of l.key) l.live × (l.live ≤ l.initial.live)

abbrev pub decreases-loop-live : goal.decreases-loop-live
decreases-loop-live l = l.live

abbrev pub invariant-rounds : goal.invariant-rounds
invariant-rounds l =
    let t = l.self.layout.now.tables in
    record {
      growing : Growing t.catalogue t.cells.now (number_of l.self.key) (number_of l.key) l.touch.merged.attrs l.touch.merged.codes l.tests;
      shut : Shut t.catalogue t.cells.now (number_of l.key) l.live;
      reach : Reach t.catalogue (at (set_of t.catalogue (number_of l.key))) l.touch.reach;
    }

abbrev pub decreases-rounds : goal.decreases-rounds
decreases-rounds l = l.live
