-- `tables::Tables::row_start` meets its contract: what is lawful among the lent cells is so among as many as there can be. Assumes nothing.
use native.Mathlib.Omega.{arith}
use Rattle.tables.proofs.CatalogueLaws.{lawful-all}
use Rattle.tables.proofs.Tables.row_start.Goals as goal

pub row_start-requires : goal.row_start-requires
row_start-requires c = (lawful-all _ _ c.args.self.now.lawful, c.requires.table, omega (arith, c.requires.low, c.requires.high), omega (arith, c.requires.low))
