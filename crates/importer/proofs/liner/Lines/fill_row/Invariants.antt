-- `importer::liner::Lines::fill_row` meets its contract. Invariant: what is left of the line, from the cell on, makes the whole. Assumes nothing.
use Rattle.std.proofs.Common.{◌≡◌, ◌+◌, length}
use Rattle.laws.specs.Lists.{over}
use Rattle.text.specs.Fields.{codes_at}
use Rattle.importer.proofs.liner.Lines.fill_row.Given as goal

abbrev pub invariant-loop-code : goal.invariant-loop-code
invariant-loop-code l =
    let left = codes_at l.code-iterator.left l.code-iterator.text.now l.code-iterator.at in
    (l.k + length left ≡ l.start + l.self.width)
    × (length l.cells ≡ length l.initial.cells)
    × (over l.start (codes_at l.self.width l.self.text.now l.at) l.initial.cells ≡ over l.k left l.cells)
