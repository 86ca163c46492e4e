-- `sets::Measures::rising_tables` meets its contract. Invariant: the tables of the mask so far have a first column that does not fall. Assumes nothing.
use native.Mathlib.Omega.{arith}
use Rattle.tables.proofs.CatalogueLaws.{one_shl}
use Rattle.sets.proofs.LayoutLaws.{rising_none, rising-more}
use Rattle.sets.proofs.Measures.rising_tables.Goals.{then-first_rises, else-first_rises}
use Rattle.sets.proofs.Measures.rising_tables.Goals as goal

pub loop-t-init : goal.loop-t-init
loop-t-init c = rising_none _ _

pub loop-t-preserved : goal.loop-t-preserved
loop-t-preserved c =
    let tables = c.args.tables.now in
    let r = c.rows.ensures in
    elim c.if-first_rises.branch [
      | then-first_rises x ↦
          rw x.rising-is
          (rising-more tables.catalogue tables.cells.now c.loop-t.t _ _ c.loop-t.invariant (one_shl c.loop-t.t (omega (arith, c.loop-t-test.true, tables.lawful.tables)))
          (rw (c.rows.result.wide, r.cells, r.scheme, r.base, r.count) at (c.first_rises.ensures x.if-first_rises.true)))
      | else-first_rises x ↦ rw x.rising-is c.loop-t.invariant
    ]
