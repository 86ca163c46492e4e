-- `exporter::sizer::cell_length` meets its contract: nothing for null, else the digits of the value. Assumes nothing.
use mathlib.Core.Path.{sym, ap, ◌∙◌}
use lib.ListN.{length}
use Rattle.exporter.proofs.TextLaws.{cell-null, cell-some}
use Rattle.exporter.proofs.sizer.cell_length.Goals as goal

pub returns-then-code-eq0 : goal.returns-then-code-eq0
returns-then-code-eq0 c =
    sym (ap length (cell-null c.args.code c.if-code-eq0.true))

pub returns : goal.returns
returns c =
    let a = c.args in
    c.places.ensures ∙ sym (ap length (cell-some a.code (λ e. c.if-code-eq0.false e)))
