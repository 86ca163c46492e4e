-- `walks::MergedRow::add` meets its contract. Invariant: the codes are merged but for the bits that are left (`Merging`), and their cells begin at the
-- place that is read next (`Cursor`). Assumes nothing.
use Prim.Native.Nat.{◌+◌, ◌%◌, ◌^◌, ◌<◌}
use mathlib.Core.Path.{◌≡◌, refl}
use lib.ListN.{length}
use lib.Count.{ones}
use Rattle.rows.proofs.WorldLaws.{code_inside}
use Rattle.walks.specs.Merged.{row_in}
use Rattle.walks.proofs.FirstLaws.{row-inside}
use Rattle.walks.proofs.MatchLaws.{merge-next, merge-end}
use Rattle.walks.proofs.CursorLaws.{cursor-here, cursor-next}
use Rattle.walks.proofs.MergedRow.add.Goals.{In-Some}
use Rattle.walks.proofs.MergedRow.add.Goals as goal

-- The place is the one of the next bit's cell,
here : (c : In-Some)
    → c.loop-a.place ≡ row_in c.args.rows.now.base c.args.rows.now.scheme c.args.i + ones (c.args.rows.now.scheme % 2 ^ c.in-Some.a)
here c = cursor-here _ _ _ _ _ _ c.loop-a.invariant.cursor c.in-Some.ensures.steps.0

-- and so among the cells.
inside : (c : In-Some) → c.loop-a.place < length c.args.rows.now.cells.now
inside c =
    let s = c.args.rows.now in
    rw (here c) (code_inside _ _ _ _ (row-inside _ s.base _ _ _ c.requires s.inside) (c.loop-a.invariant.codes.part _ c.in-Some.ensures.steps.0.itself))

pub bounds-rows-place : goal.bounds-rows-place
bounds-rows-place c = inside (goal.at.bounds-rows-place c).In-Some

pub loop-a-preserved : goal.loop-a-preserved
loop-a-preserved c =
    let v = c.loop-a.invariant in
    record {
      attrs = v.attrs;
      codes = rw (c.in-Some.ensures.steps.1)
          (merge-next _ _ _ _ _ _ _ _ _ v.codes c.in-Some.ensures.steps.0 (rw (← v.attrs, ← c.bit_of-seen.ensures, ← here (goal.at.loop-a-preserved c).In-Some) c.join_code.ensures));
      cursor = rw (c.in-Some.ensures.steps.1) (cursor-next _ _ _ _ _ _ v.cursor c.in-Some.ensures.steps.0);
    }

pub returns : goal.returns
returns c =
    let v = c.loop-a.invariant in
    rw v.attrs (record { attributes = refl; joined = merge-end _ _ _ _ _ _ (rw c.in-None.ensures.steps.0 at v.codes) })
