-- `walks::Rows::first_fit` meets its contract. Invariant: no row before row i fits, and row i has the code that is asked for first (`Walked`).
-- Assumes nothing.
use Prim.Native.Nat.{◌-◌, ◌<◌}
use Rattle.walks.specs.Merged.{fits_at}
use Rattle.walks.specs.Columns.{column_of}
use Rattle.walks.proofs.PlaceLaws.{Walked}
use Rattle.walks.proofs.Rows.first_fit.Given as goal

abbrev pub invariant-loop-way : goal.invariant-loop-way
invariant-loop-way l =
    let s = l.self in
    let first = (column_of l.way).first in
    Walked s.cells.now first s.width s.count l.wanted (fits_at s.cells.now first s.width l.wanted s.scheme s.base l.mask l.merged.codes) l.i × (l.i < s.count)

abbrev pub decreases-loop-way : goal.decreases-loop-way
decreases-loop-way l = l.self.count - l.i
