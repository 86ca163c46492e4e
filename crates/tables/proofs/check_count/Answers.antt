-- `tables::check_count` meets its contract: one law for each way; a row count within its limit has few cells, so the sum fits. Assumes nothing.
use Rattle.std.proofs.Common.{inl, inr, sym, arith}
use Rattle.tables.proofs.CatalogueLaws.{cells-few}
use Rattle.tables.proofs.CheckLaws.{count-many, count_most, count-lent, count-good}
use Rattle.tables.proofs.check_count.Goals as goal

pub returns-then-most-rows-clause-fault : goal.returns-then-most-rows-clause-fault
returns-then-most-rows-clause-fault c = sym (count-many _ _ _ _ _ c.if-most-rows.true)

pub overflow_mul-cells : goal.overflow_mul-cells
overflow_mul-cells c = rw c.width.ensures (omega (arith, cells-few c.args.rows c.args.scheme (omega (arith, c.if-most-rows.false, c.requires.0)) c.ranges.scheme.fits))

pub overflow_add-cells : goal.overflow_add-cells
overflow_add-cells c = rw c.width.ensures (omega (arith, cells-few c.args.rows c.args.scheme (omega (arith, c.if-most-rows.false, c.requires.0)) c.ranges.scheme.fits))

pub returns-then-cells-gt-MOST_CELLS-clause-fault : goal.returns-then-cells-gt-MOST_CELLS-clause-fault
returns-then-cells-gt-MOST_CELLS-clause-fault c =
    elim c.then-cells-gt-MOST_CELLS.either [
      | inl many ↦ sym (count_most _ _ _ _ _ c.if-most-rows.false (rw c.width.ensures at many))
      | inr few ↦ sym (count-lent _ _ _ _ _ c.if-most-rows.false (rw c.width.ensures at few.0) (rw c.width.ensures at few.1))
    ]

pub returns-clause-fault : goal.returns-clause-fault
returns-clause-fault c = sym (count-good _ _ _ _ _ c.if-most-rows.false (rw c.width.ensures at c.if-cells-gt-MOST_CELLS.false) (rw c.width.ensures at c.if-lent-cells.false))
