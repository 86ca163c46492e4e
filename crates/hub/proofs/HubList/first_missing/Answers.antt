-- `hub::HubList::first_missing` meets its contract: the trials on an entry leave the list nowhere (`missing-on`), or for the set that is named. Assumes nothing.
use native.Mathlib.Omega.{arith}
use Prim.Native.Nat.{◌<◌}
use mathlib.Core.Path.{◌≡◌, sym, ap, ◌∙◌}
use lib.ListN.{length, get_or}
use Rattle.keys.specs.TwoWords.{number_of}
use Rattle.hub.specs.Promises.{answer_of}
use Rattle.hub.specs.Searching.{listed_in}
use Rattle.hub.proofs.TreeLaws.{key-own, keys-both}
use Rattle.hub.proofs.JudgingLaws.{entry_named, set-maximal, missing-on, missing-out, missing-end}
use Rattle.hub.proofs.HubList.first_missing.Goals.{After-at}
use Rattle.hub.proofs.HubList.first_missing.Goals as goal

pub at-requires : goal.at-requires
at-requires c = keys-both _ _ _ (omega (arith, c.args.self.now.counted, c.loop-i-test.true))

-- The entry at hand is listed, and its key is the list's.
there : (c : After-at) → c.loop-i.i < length (listed_in c.args.self.now.keys)
there c = omega (arith, c.args.self.now.counted, c.loop-i-test.true)

own : (c : After-at) → number_of c.at.result ≡ get_or (listed_in c.args.self.now.keys) c.loop-i.i 0
own c = key-own c.args.self.now.keys.low.now c.args.self.now.keys.high.now _ (there c) c.at.ensures

pub first_out-requires : goal.first_out-requires
first_out-requires c =
    let s = c.args.self.now in
    let t = s.layout.now.tables in
    let b = (goal.at.first_out-requires c).After-at in
    (c.requires.0, rw (own b) (entry_named t.catalogue t.cells.now _ t.lawful (listed_in s.keys) c.requires.1 _ (there b)), rw (own b) (set-maximal t.catalogue t.cells.now _ t.lawful (listed_in s.keys) c.requires.1 _ (there b)), c.requires.1)

pub returns-in-Some : goal.returns-in-Some
returns-in-Some c =
    let s = c.args.self.now in
    let t = s.layout.now.tables in
    let b = (goal.at.returns-in-Some c).After-at in
    sym
    (ap answer_of c.loop-i.invariant
    ∙ missing-out t.catalogue t.cells.now _ t.lawful (listed_in s.keys) c.requires.1 _ c.in-Some.key (there b) (sym (rw (own b) at c.in-Some.ensures)))

pub loop-i-preserved : goal.loop-i-preserved
loop-i-preserved c =
    let s = c.args.self.now in
    let t = s.layout.now.tables in
    let b = (goal.at.loop-i-preserved c).After-at in
    c.loop-i.invariant
    ∙ missing-on t.catalogue t.cells.now _ t.lawful (listed_in s.keys) c.requires.1 _ (there b) (sym (rw (own b) at c.in_default.ensures))

pub returns : goal.returns
returns c =
    let s = c.args.self.now in
    let t = s.layout.now.tables in
    let n = s.counted in
    sym
    (ap answer_of
    (c.loop-i.invariant
    ∙ missing-end t.catalogue t.cells.now _ t.lawful (listed_in s.keys) c.requires.1 c.loop-i.i (omega (arith, n, c.loop-i-test.false)) (omega (arith, n, c.loop-i.auto.i-end))))
