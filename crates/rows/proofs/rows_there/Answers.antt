-- `rows::rows_there` meets its contract, by one law for each side of n. Assumes nothing.
use Rattle.std.proofs.Common.{sym, ◌∙◌, arith}
use Rattle.rows.proofs.NamedLaws.{there-in, there_out}
use Rattle.rows.proofs.rows_there.Goals as goal

pub returns-then-t-cat : goal.returns-then-t-cat
returns-then-t-cat c = c.from.ensures ∙ sym (there-in c.args.cat _ c.if-t-cat.true)

pub returns-else-t-cat : goal.returns-else-t-cat
returns-else-t-cat c = sym (there_out c.args.cat _ (omega arith))
