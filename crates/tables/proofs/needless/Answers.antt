-- `tables::needless` meets its contract: one law for version 2, and one for any other. Assumes nothing.
use Rattle.std.proofs.Common.{sym, ◌∙◌}
use borrow.Author.Tests.{ne_eqb}
use Rattle.tables.specs.Sizes.{version_two}
use Rattle.tables.proofs.VersionLaws.{needless-other, needless-two}
use Rattle.tables.proofs.needless.Goals as goal

pub returns-then-version-eq2 : goal.returns-then-version-eq2
returns-then-version-eq2 c =
    rw (c.from.ensures, c.version.ensures) (sym (needless-two c.args.cat c.args.version c.if-version-eq2.true))

pub returns-else-version-eq2 : goal.returns-else-version-eq2
returns-else-version-eq2 c =
    let h = c.if-version-eq2.false in
    ne_eqb c.args.version version_two h ∙ sym (needless-other c.args.cat c.args.version h)
