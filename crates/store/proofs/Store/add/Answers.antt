-- `Store::add` meets its contract: what `file_record` leaves, and one link more on the side meant. Assumes nothing.
use native.Mathlib.Omega.{arith}
use lib.ListN.{length-set}
use Rattle.store.specs.Store.{filed, added}
use Rattle.store.proofs.Store.add.Goals as goal

pub hang-requires : goal.hang-requires
unfolding filed
hang-requires c =
    let h = c.file_record.ensures.holds in
    (rw (h.left, length-set) (omega arith), rw (h.right, length-set) (omega arith), omega arith)

pub returns-clause-holds : goal.returns-clause-holds
unfolding added
returns-clause-holds c =
    let g = c.hang.ensures in
    let h = c.file_record.ensures.holds in
    record { low = h.low; high = h.high; left = rw h.left at g.left; right = rw h.right at g.right }
