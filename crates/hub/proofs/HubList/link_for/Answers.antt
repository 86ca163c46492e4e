-- `hub::HubList::link_for` meets its contract: what a search of the tree says (`tree-tells`). Assumes nothing.
use native.Mathlib.Omega.{arith}
use Rattle.keys.specs.TwoWords.{number_of}
use Rattle.hub.specs.Searching.{listed_in, records_of}
use Rattle.hub.proofs.TreeLaws.{Tells, keys_length, tree-tells}
use Rattle.store.specs.Lent.{looked_of}
use Rattle.hub.proofs.HubList.link_for.Goals.{After-find}
use Rattle.hub.proofs.HubList.link_for.Goals as goal

pub find-requires : goal.find-requires
find-requires c =
    let e = c.records_of.ensures in
    let w = c.args.self.now.within in
    let n = c.args.self.now.counted in
    (omega (arith, e, c.requires.0), omega (arith, e, w, n, keys_length c.args.self.now.keys.low.now c.args.self.now.keys.high.now), omega (arith, c.bits-bits.ensures, c.args.self.now.layout.now.tables.lawful.tables))

-- What the search says of the keys that have a record.
tells : (c : After-find) → Tells (listed_in c.args.self.now.keys) (records_of c.args.self.now.entered) (number_of c.args.key) (looked_of c.find.result)
tells c =
    let s = c.args.self.now in
    rw (c.find.ensures, c.records_of.ensures, c.bits-bits.ensures)
    (tree-tells s.layout.now.tables.catalogue.n s.keys.low.now s.keys.high.now s.left s.right (records_of s.entered) (number_of c.args.key) s.linked (omega (arith, c.requires.0)) (omega (arith, s.within, s.counted)) c.requires.1)

pub returns-in-Ok-Absent : goal.returns-in-Ok-Absent
returns-in-Ok-Absent c =
    let t = rw (c.in-Ok-Absent.is, c.in-Ok-Absent.field-0-is) at (tells (goal.at.returns-in-Ok-Absent c).After-find) in
    let f = rw (c.in-Ok-Absent.is, c.in-Ok-Absent.field-0-is, c.records_of.ensures, c.bits-bits.ensures) at c.find.ensures in
    record { new = t; looks = _; search = f }

pub returns-in-Ok-Found : goal.returns-in-Ok-Found
returns-in-Ok-Found c = rw (c.in-Ok-Found.is, c.in-Ok-Found.field-0-is) at (tells (goal.at.returns-in-Ok-Found c).After-find)

pub returns-in-Err : goal.returns-in-Err
returns-in-Err c = absurd (rw c.in-Err.is at (tells (goal.at.returns-in-Err c).After-find))
