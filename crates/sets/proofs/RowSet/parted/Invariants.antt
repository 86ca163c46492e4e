-- `sets::RowSet::parted` meets its contract. Invariant: of the tables that are not left, the mask has those whose row has to go (`Parting`). Assumes nothing.
use lib.Bits.{bit_and}
use Rattle.tables.specs.Catalogues.{mask_in}
use Rattle.rows.specs.World.{place_of}
use Rattle.sets.specs.Layouts.{rows_of}
use Rattle.sets.proofs.Dropping.{Parting}
use Rattle.sets.proofs.RowSet.parted.Given as goal

abbrev pub invariant-loop-u : goal.invariant-loop-u
invariant-loop-u l =
    let t = l.self.layout.now.tables in
    Parting t.catalogue t.cells.now (rows_of l.self) (place_of l.fn.x) (bit_and l.self.tables (mask_in t.catalogue l.fn.x.table)) l.gone l.u-iterator.rest
