-- `importer::liner::Lines::fill_row` meets its contract. Invariant: what is left of the line, from the cell on, makes the whole. Assumes nothing.
use Rattle.std.proofs.Common.{arith, refl}
use Rattle.text.proofs.Fieldwise.{length-codes-at}
use Rattle.importer.proofs.liner.Lines.fill_row.Goals as goal

pub loop-code-init : goal.loop-code-init
loop-code-init c =
    let s = c.args.self.now in
    let e = c.codes-code-items.ensures in
    rw (c.into_iter-code-iterator.ensures.into_iter_gives, e.0, e.1, e.2) (omega (arith, length-codes-at s.width s.text.now c.args.at), refl, refl)
