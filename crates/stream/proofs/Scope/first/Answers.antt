-- `Scope::first` meets its contract: the first row is there, and so is the one that is asked for. Assumes nothing.
use Rattle.std.proofs.Common.{sym}
use Rattle.rows.proofs.NamedLaws.{place-there}
use Rattle.rows.proofs.WorldLaws.{row-place}
use Rattle.stream.proofs.Scope.first.Goals as goal

pub returns-in-Every-clause-first : goal.returns-in-Every-clause-first
returns-in-Every-clause-first c =
    let t = c.args.tables.now in
    rw (c.in-Every.is, c.row_at.ensures) (sym (row-place t.catalogue t.cells.now 0 c.requires.1))

pub returns-in-Every-clause-there : goal.returns-in-Every-clause-there
returns-in-Every-clause-there c =
    let t = c.args.tables.now in
    rw c.row_at.ensures (place-there t.catalogue t.cells.now 0 c.requires.1)
