-- `sets::RowSet::with` meets its contract: the set with the row is one of rows that are there (`added-set`). Assumes nothing.
use native.Mathlib.Omega.{arith}
use Prim.Native.Nat.{◌*◌, ◌%◌, ◌^◌}
use lib.Bits.{bit_or}
use Rattle.keys.specs.TwoWords.{number_of}
use Rattle.tables.proofs.CatalogueLaws.{one_shl}
use Rattle.disjunction.specs.Rule.{add_row}
use Rattle.rows.specs.World.{place_of}
use Rattle.rows.proofs.NamedLaws.{named-with, row_small}
use Rattle.sets.specs.Promises.{SetFor}
use Rattle.sets.specs.Layouts.{rows_of}
use Rattle.sets.proofs.Dropping.{added-set}
use Rattle.sets.proofs.RowSet.with.Goals.{After-with_row}
use Rattle.sets.proofs.RowSet.with.Goals as goal

-- the set with the row, by its key and its tables
more : (c : After-with_row)
    → SetFor c.args.self.now.layout.now.tables.catalogue (add_row (rows_of c.args.self.now) (place_of c.args.x)) (number_of c.with_row.result)
    (bit_or c.args.self.now.tables (1 * 2 ^ c.args.x.table % 2 ^ 64))
more c =
    let s = c.args.self.now in
    let t = s.layout.now.tables in
    added-set t.catalogue _ t.lawful (number_of s.key) _ s.named s.members (place_of c.args.x) c.requires _ _ c.with_row.ensures
    (one_shl _ (omega (arith, c.requires.table, t.lawful.tables)))

pub invariant_of-result : goal.invariant_of-result
invariant_of-result c =
    let s = c.args.self.now in
    let t = s.layout.now.tables in
    let S = more c in
    record {
      named = rw c.with_row.ensures (named-with t.catalogue (number_of s.key) _ _ s.named c.requires (row_small _ _ t.lawful _ _ c.requires));
      members = rw S.rows S.tables;
    }

pub returns-clause-rows : goal.returns-clause-rows
returns-clause-rows c = (more (goal.at.returns-clause-rows c).After-with_row).rows
