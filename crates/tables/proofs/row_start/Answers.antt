-- `tables::row_start` meets its contract: a row of a lawful catalogue begins inside its cells. Assumes nothing.
use Rattle.tables.specs.Catalogues.{row_start}
use Rattle.tables.proofs.row_start.Goals as goal

pub returns : goal.returns
unfolding row_start
returns c = rw (c.width.ensures, c.requires.0.places c.args.table c.requires.1)
