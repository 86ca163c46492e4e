-- `sets::Measures::rising_tables` meets its contract. Invariant: the tables of the mask so far have a first column that does not fall. Assumes nothing.
use Rattle.sets.specs.Promises.{RisingIn}
use Rattle.sets.proofs.Measures.rising_tables.Given as goal

abbrev pub invariant-loop-t : goal.invariant-loop-t
invariant-loop-t l = RisingIn l.tables.catalogue l.tables.cells.now l.rising
