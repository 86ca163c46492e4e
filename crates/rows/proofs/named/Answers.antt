-- `rows::named` meets its contract: what is lawful among the lent cells is so among as many as there can be. Assumes nothing.
use Rattle.tables.proofs.CatalogueLaws.{lawful-all}
use Rattle.rows.proofs.named.Goals as goal

pub key_named-requires : goal.key_named-requires
key_named-requires c = lawful-all _ _ c.args.tables.now.lawful
