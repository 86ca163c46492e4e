-- `tables::filled` meets its contract. Invariant: the sum is the cells of the tables below t, and these are entered in both lists. Assumes nothing.
use mathlib.Core.Path.{◌≡◌}
use Rattle.tables.specs.Catalogues.{first_cell, touching_of}
use Rattle.tables.proofs.StoredLaws.{Entered}
use Rattle.tables.proofs.filled.Given as goal

abbrev pub invariant-loop-t : goal.invariant-loop-t
invariant-loop-t l =
    (l.at ≡ first_cell l.cat l.t) × Entered (first_cell l.cat) l.places l.t × Entered (touching_of l.cat) l.touching l.t
