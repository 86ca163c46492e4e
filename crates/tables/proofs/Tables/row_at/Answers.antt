-- `tables::Tables::row_at` meets its contract: what is lawful among the lent cells is so among as many as there can be. Assumes nothing.
use native.Mathlib.Omega.{arith}
use Rattle.tables.proofs.CatalogueLaws.{lawful-all}
use Rattle.tables.proofs.Tables.row_at.Goals as goal

pub row_at-requires : goal.row_at-requires
row_at-requires c = (lawful-all _ _ c.args.self.now.lawful, omega (arith, c.requires))
