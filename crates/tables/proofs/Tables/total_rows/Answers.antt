-- `tables::Tables::total_rows` meets its contract: what is lawful among the lent cells is so among as many as there can be. Assumes nothing.
use Rattle.tables.proofs.CatalogueLaws.{lawful-all}
use Rattle.tables.proofs.Tables.total_rows.Goals as goal

pub total_rows-requires : goal.total_rows-requires
total_rows-requires c = lawful-all _ _ c.args.self.now.lawful
