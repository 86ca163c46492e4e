-- `tables::rank` meets its contract: the mask of the attributes below a, and its ones. Assumes nothing.
use lib.Pow.{pow_pos}
use Rattle.tables.proofs.CatalogueLaws.{one_shl, rank-none}
use Rattle.tables.proofs.rank.Goals as goal

pub nonzero_rem-below : goal.nonzero_rem-below
nonzero_rem-below c = rw (one_shl c.args.a c.requires) (pow_pos _)

pub returns-then-below-eq0 : goal.returns-then-below-eq0
returns-then-below-eq0 c = rank-none _ _ (rw (one_shl c.args.a c.requires) at c.if-below-eq0.true)

pub returns : goal.returns
returns c = rw (← one_shl c.args.a c.requires) c.width.ensures
