-- `sets::measured` meets its contract. Invariant: the sum is the rows of the tables below t, and each of these has its own (`Entered`). Assumes nothing.
use native.Mathlib.Omega.{arith}
use Prim.Native.Nat.{◌+◌, ◌≤◌, ◌<◌}
use mathlib.Core.Path.{◌≡◌, refl, ap, ◌∙◌}
use lib.Count.{ones-le}
use Rattle.tables.specs.Sizes.{most_tables, most_total}
use Rattle.tables.specs.Catalogues.{count_of, rows_before}
use Rattle.tables.proofs.CatalogueLaws.{rows_next, rows_few}
use Rattle.tables.proofs.StoredLaws.{entered-none, entered-next}
use Rattle.sets.proofs.LayoutLaws.{scheme-narrow, rising_none}
use Rattle.sets.proofs.measured.Invariants.{width}
use Rattle.sets.proofs.measured.Goals.{In-loop-t}
use Rattle.sets.proofs.measured.Goals as goal

-- table t is there, and the sum with its rows is no larger than that of all tables
abbrev Ends : In-loop-t → Type 0
Ends c =
    let cat = c.args.tables.now.catalogue in
    (c.loop-t.t < most_tables) × (c.loop-t.total + count_of cat c.loop-t.t ≤ most_total) × (width cat c.loop-t.t ≤ 64)

ends : (c : In-loop-t) → Ends c
ends c =
    let cat = c.args.tables.now.catalogue in
    let L = c.args.tables.now.lawful in
    let b : c.loop-t.t < cat.n = c.loop-t-test.true in
    let e = rows_few cat _ L (c.loop-t.t + 1) (omega (arith, b)) in (
      omega (arith, b, L.tables),
      omega (arith, c.loop-t.invariant.sum, rows_next cat c.loop-t.t, e),
      ones-le 64 _ (scheme-narrow cat _ L c.loop-t.t b),
    )

pub loop-t-init : goal.loop-t-init
unfolding rows_before
loop-t-init c = record { sum = refl; before = entered-none _; widths = entered-none _ }

pub overflow_cast-before : goal.overflow_cast-before
overflow_cast-before c = omega (arith, ends c)

pub overflow_add-total : goal.overflow_add-total
overflow_add-total c = omega (arith, ends (goal.at.overflow_add-total c).In-loop-t)

pub loop-t-preserved : goal.loop-t-preserved
loop-t-preserved c =
    let cat = c.args.tables.now.catalogue in
    let v = c.loop-t.invariant in
    let b = ends (goal.at.loop-t-preserved c).In-loop-t in
    record {
      sum = rw (rows_next cat c.loop-t.t, ← v.sum) refl;
      before = entered-next (rows_before cat) _ c.loop-t.t _ b.0 v.sum v.before;
      widths = entered-next (width cat) _ c.loop-t.t _ b.0 c.width.ensures v.widths;
    }

pub returns : goal.returns
returns c =
    let cat = c.args.tables.now.catalogue in
    let v = c.loop-t.invariant in
    let e : c.loop-t.t ≡ cat.n = omega arith in
    record {
      before = λ t b. v.before.below t (omega (arith, b, e));
      wide = λ t b. v.widths.below t (omega (arith, b, e));
      all = v.sum ∙ ap (rows_before cat) e;
      rising = rising_none cat c.args.tables.now.cells.now;
    }
