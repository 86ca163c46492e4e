-- `importer::liner::cell` meets its contract: one law for each way it goes. Assumes nothing.
use Rattle.std.proofs.Common.{sym}
use Rattle.importer.proofs.LineSteps.{cell-good, cell-bad}
use Rattle.importer.proofs.liner.cell.Goals as goal

pub returns-then-code-lt-NO_CODE : goal.returns-then-code-lt-NO_CODE
returns-then-code-lt-NO_CODE c = sym (cell-good c.args.field c.args.code c.if-code-lt-NO_CODE.true)

pub returns : goal.returns
returns c = rw c.new.ensures (sym (cell-bad c.args.field c.args.code c.requires c.if-code-lt-NO_CODE.false))
