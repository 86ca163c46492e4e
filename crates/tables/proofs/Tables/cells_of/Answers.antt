-- `tables::Tables::cells_of` meets its contract: the place that a lawful catalogue stores of a table is where its cells begin. Assumes nothing.
use native.Mathlib.Omega.{arith}
use Rattle.tables.proofs.CatalogueLaws.{table-ends}
use Rattle.tables.proofs.Tables.cells_of.Goals as goal

pub slice_bounds-result-end : goal.slice_bounds-result-end
slice_bounds-result-end c =
    let a = c.args in
    let L = a.self.now.lawful in
    rw (c.from-start.ensures, c.width.ensures, c.from.ensures) (omega (arith, L.places a.t c.requires, table-ends a.self.now.catalogue a.t c.requires, L.room))
