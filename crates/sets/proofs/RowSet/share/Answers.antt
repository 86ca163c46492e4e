-- `sets::RowSet::share` meets its contract. Invariant: the merged row and the tables in reach are those of the set without the tables that are left
-- (`lacking`). Assumes nothing.
use mathlib.Core.Path.{sym}
use Rattle.sets.specs.Layouts.{rows_of}
use Rattle.sets.proofs.MaskLaws.{without-under}
use Rattle.sets.proofs.MergedLaws.{merged-none, merged-same, merged-add, gathered_none, gathered-same, gathered-add}
use Rattle.sets.proofs.LackingLaws.{lacking-none, lacking-all, lacking-more}
use Rattle.sets.proofs.RowSet.share.Goals as goal

pub loop-u-init : goal.loop-u-init
loop-u-init c =
    let s = c.args.self.now in
    let z = lacking-all (rows_of s) _ s.members in
    let t = c.args.touch.now in
    rw (c.into_iter-u-iterator.ensures.into_iter_gives, c.bits-u-items.ensures, c.requires.0, c.requires.1)
    (record { part = λ u b. b; merged = merged-none _ _ _ _ t.merged.long z; reach = gathered_none _ _ z })

pub loop-u-preserved : goal.loop-u-preserved
loop-u-preserved c =
    let s = c.args.self.now in
    let t = s.layout.now.tables in
    let b = c.in-Some.ensures.steps.0.itself in
    let v = c.loop-u.invariant in
    let (e, r, h) = c.row.ensures in
    let o = lacking-more (rows_of s) c.loop-u.u-iterator.rest c.in-Some.u b c.row.result.row (sym r) h.low in
    rw (c.in-Some.ensures.steps.1)
    (record {
      part = λ u d. v.part u (without-under _ _ b u d);
      merged = merged-add t.catalogue t.cells.now _ t.lawful _ _ _ _ h.table o _ _ _ _ v.merged (rw e at c.add.ensures.merged);
      reach = rw (c.add.ensures.reach, e) (gathered-add _ _ _ _ _ _ o v.reach);
    })

pub returns-clause-merged : goal.returns-clause-merged
returns-clause-merged c =
    let z = lacking-none (rows_of c.args.self.now) in
    merged-same _ _ _ _ _ _ z (rw c.in-None.ensures.steps.0 at c.loop-u.invariant.merged)

pub returns-clause-reach : goal.returns-clause-reach
returns-clause-reach c =
    let z = lacking-none (rows_of c.args.self.now) in
    gathered-same _ _ _ _ z (rw c.in-None.ensures.steps.0 at c.loop-u.invariant.reach)
