-- `loader::filler::fill` meets its contract: what the first pass says of each table. Assumes nothing.
use Rattle.std.proofs.Common.{◌≡◌, ◌+◌, ◌-◌, ◌*◌, length, take, drop, sym, ◌∙◌, arith}
use native.Mathlib.Nat.{sub-add-eq, mul-le-mul_right}
use borrow.Rule.Slice.PartMut.{mid_len}
use Rattle.laws.proofs.ListLaws.{put-nil, over-append}
use Rattle.loader.specs.Reading.{codes}
use Rattle.loader.specs.Load.{tables_codes}
use Rattle.loader.specs.Faults.{To, walk_of}
use Rattle.loader.proofs.ReadingLaws.{read-good, ok-walk}
use Rattle.loader.proofs.SoundLaws.{codes-end, part-filled, Turn, scheme-ok, count-ok, turn}
use Rattle.loader.proofs.filler.fill.Goals.{After-width, After-copy_codes}
use Rattle.loader.proofs.filler.fill.Goals as goal

-- Where the width is known: what the first pass says of the table.
known : (c : After-width)
    → let l = c.loop in
    let rows = c.unwrap-rows.result in
    Turn c.args.s.now (length c.args.cells.now) (c.args.n - l.counter) l.used l.i rows.value rows.next c.width.result
known c =
    let l = c.loop in
    let s = c.args.s.now in
    turn s _ (c.args.n - l.counter) l.used l.i (omega arith) l.invariant.good _ _ _ _ _
    (read-good s l.i _ _ (rw c.unwrap-scheme.ensures at c.number_at.ensures)) (read-good s _ _ _ (rw c.unwrap-rows.ensures at c.number_at-in-loop.ensures)) c.width.ensures

pub unwrap-scheme-requires : goal.unwrap-scheme-requires
unwrap-scheme-requires c =
    let l = c.loop in
    scheme-ok _ _ (c.args.n - l.counter) l.used l.i (omega arith) l.invariant.good c.number_at.result c.number_at.ensures

pub unwrap-rows-requires : goal.unwrap-rows-requires
unwrap-rows-requires c =
    let l = c.loop in
    count-ok _ _ (c.args.n - l.counter) l.used l.i (omega arith) l.invariant.good _ _ (read-good c.args.s.now l.i _ _ (rw c.unwrap-scheme.ensures at c.number_at.ensures))
    c.number_at-in-loop.result c.number_at-in-loop.ensures

pub overflow_mul-end : goal.overflow_mul-end
overflow_mul-end c =
    let h = known c in
    omega (arith, mul-le-mul_right c.width.result h.few)

pub overflow_add-end : goal.overflow_add-end
overflow_add-end c =
    let h = known c in
    omega (arith, c.well_formed)

pub slice_bounds-copy_codes-end : goal.slice_bounds-copy_codes-end
slice_bounds-copy_codes-end c =
    let h = known c in
    omega arith

pub unwrap-i-requires : goal.unwrap-i-requires
unwrap-i-requires c =
    let l = c.loop in
    let h = known (goal.at.unwrap-i-requires c).After-width in
    let k = c.unwrap-rows.result.value * c.width.result in
    let n : length (take (l.used + k - l.used) (drop l.used l.cells)) ≡ k = mid_len l.used (l.used + k) l.cells (omega arith) ∙ omega arith in
    ok-walk c.copy_codes.result h.e (c.copy_codes.ensures.end ∙ rw n h.rows)

pub loop-preserved : goal.loop-preserved
loop-preserved c =
    let l = c.loop in
    let h = known (goal.at.loop-preserved c).After-width in
    let s = c.args.s.now in
    let w = c.copy_codes in
    let k = c.unwrap-rows.result.value * c.width.result in
    let bs = codes k s c.unwrap-rows.result.next in
    let n : length (take (l.used + k - l.used) (drop l.used l.cells)) ≡ k = mid_len l.used (l.used + k) l.cells (omega arith) ∙ omega arith in
    let r : walk_of w.result ≡ To h.e = w.ensures.end ∙ rw n h.rows in
    let t : To c.unwrap-i.result ≡ To h.e = rw c.unwrap-i.ensures at r in
    let e : c.unwrap-i.result ≡ h.e = cc in
    let o = part-filled l.used (l.used + k) l.cells bs w.new.out (omega arith) (omega (arith, h.long)) (rw n at w.ensures.cells) in
    record {
      good = rw (e, sub-add-eq) h.rest;
      within = h.room-left;
      cells = l.invariant.cells ∙ rw (h.all, e, o, sub-add-eq) (sym (over-append l.used (l.used + k) bs (tables_codes (c.args.n - l.counter - 1) s h.e) l.cells (omega arith) (omega arith)));
    }

pub returns : goal.returns
returns c =
    let l = c.loop in
    sym (l.invariant.cells ∙ rw (codes-end (c.args.n - l.counter) _ l.i (omega arith)) (put-nil l.cells l.used))
