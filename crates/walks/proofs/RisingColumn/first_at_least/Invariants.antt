-- `walks::RisingColumn::first_at_least` meets its contract. Invariant: the row sought is among the `left` rows from row `from` on, or right behind them
-- (`Halving`). Assumes nothing.
use Rattle.walks.proofs.RisingLaws.{Halving}
use Rattle.walks.proofs.RisingColumn.first_at_least.Given as goal

abbrev pub invariant-loop-left : goal.invariant-loop-left
invariant-loop-left l =
    let c = l.self.column in Halving c.cells.now c.first c.width 0 c.count l.wanted l.from l.left

abbrev pub decreases-loop-left : goal.decreases-loop-left
decreases-loop-left l = l.left
