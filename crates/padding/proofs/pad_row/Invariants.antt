-- `padding::pad_row` meets its contract. Invariant: the codes below a are those of the padded row. Assumes nothing.
use Rattle.std.proofs.Common.{ℕ, ◌<◌, ◌≡◌, get_or}
use Rattle.keys.specs.TwoWords.{number_of}
use Rattle.disjunction.specs.Cells.{code_below}
use Rattle.rows.specs.World.{cells_in, set_of}
use Rattle.padding.proofs.pad_row.Given as goal

abbrev pub invariant-loop-a : goal.invariant-loop-a
invariant-loop-a l =
    let cat = l.tables.catalogue in
    (k : ℕ) → k < l.a → get_or l.code-items k 0 ≡ code_below (cells_in cat l.tables.cells.now) (set_of cat (number_of l.key)) k cat.n
