-- `importer::liner::Lines::ended` meets its contract: one law for each way it goes. Assumes nothing.
use Rattle.std.proofs.Common.{◌≡◌, arith, rules}
use Rattle.std.specs.Prelude.{Err}
use Rattle.importer.proofs.LineSteps.{ends-short, ends-bad, ends-row}
use Rattle.importer.proofs.liner.Lines.ended.Goals as goal

pub returns-then-field-self : goal.returns-then-field-self
returns-then-field-self c =
    rw c.new.ensures (ends-short c.args.self.now.width c.args.field c.args.next c.args.cells c.if-field-self.true)

pub returns-in_err-cells : goal.returns-in_err-cells
returns-in_err-cells c =
    let e : c.from_residual.result ≡ Err c.in_err-cells.field-0.0 = search rules in
    rw e (ends-bad c.args.self.now.width c.args.field c.args.next c.args.cells _ (omega arith) c.in_err-cells.was)

pub returns : goal.returns
returns c =
    ends-row c.args.self.now.width c.args.field c.args.next c.args.cells _ (omega arith) c.in_ok-cells.was
