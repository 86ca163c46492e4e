-- `exporter::putter::put_cell` meets its contract: nothing for null, else the digits of the value. Assumes nothing.
use native.Mathlib.Omega.{arith}
use mathlib.Core.Path.{sym, ap}
use lib.ListN.{length}
use Rattle.laws.proofs.ListLaws.{put-nil}
use Rattle.exporter.proofs.TextLaws.{cell-null, cell-some}
use Rattle.exporter.proofs.putter.put_cell.Goals as goal

pub decimal-requires : goal.decimal-requires
decimal-requires c =
    omega (arith, c.requires, ap length (cell-some c.args.code c.if-code-ne0.true))

pub returns-then-code-ne0-clause-puts : goal.returns-then-code-ne0-clause-puts
returns-then-code-ne0-clause-puts c = rw (cell-some c.args.code c.if-code-ne0.true) c.decimal.ensures.puts

pub returns-else-code-ne0-clause-puts : goal.returns-else-code-ne0-clause-puts
returns-else-code-ne0-clause-puts c =
    let to = c.args.to.now in
    rw (cell-null c.args.code c.if-code-ne0.false) (record { next = omega arith; bytes = sym (put-nil to.out.now to.at) })
