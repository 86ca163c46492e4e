-- `sets::Layout::set` meets its contract. Invariant: the mask has the tables below u that have a row in the key. Assumes nothing.
use Rattle.keys.specs.Keys.{bits_per_row, rows_in}
use Rattle.keys.specs.TwoWords.{number_of}
use Rattle.sets.proofs.LackingLaws.{Marked}
use Rattle.sets.proofs.Layout.set.Given as goal

abbrev pub invariant-loop-u : goal.invariant-loop-u
invariant-loop-u l = Marked (rows_in bits_per_row l.self.tables.catalogue.n (number_of l.key)) l.tables l.u
