-- `exporter::sizer::rows_length` meets its contract. Invariant: the sum and the length of the lines that are left make the whole. Assumes nothing.
use native.Mathlib.Omega.{arith}
use native.Mathlib.Nat.{div-mul-le_self}
use Prim.Native.Nat.{ℕ, ◌+◌, ◌/◌}
use mathlib.Core.Path.{◌≡◌, ap, ◌∙◌}
use mathlib.Core.List.{List}
use lib.ListN.{length}
use Rattle.std.specs.Slice.Iter.{chunks_exact_rest}
use Rattle.text.specs.Writing.{line_text}
use Rattle.exporter.proofs.TextLaws.{lines_in, lines-length, lines-end, lines-by_cell}
use Rattle.exporter.proofs.sizer.rows_length.Goals.{In-Some}
use Rattle.exporter.proofs.sizer.rows_length.Goals as goal

-- The line of the row at hand, and the lines behind it.
here : (c : In-Some)
    → c.loop-row.sum + length (line_text c.in-Some.row.now) + length (lines_in c.args.width (chunks_exact_rest c.next.new.self)) ≡ length (lines_in c.args.width c.args.cells.now)
here c =
    let a = c.args in
    let s = c.in-Some.ensures.steps in
    let l = c.loop-row.invariant in
    omega (arith, l.left, ap (λ (xs : List ℕ). length (lines_in a.width xs)) s.1.0, lines-length a.width c.in-Some.row.now (chunks_exact_rest c.next.new.self) c.requires.0 (s.1.1 ∙ l.size))

pub overflow_add-sum : goal.overflow_add-sum
overflow_add-sum c =
    let a = c.args in
    let few = lines-by_cell (length a.cells.now / a.width) a.width a.cells.now c.requires.0 in
    omega (arith, here (goal.at.overflow_add-sum c).In-Some, c.line_length-sum.ensures, few, div-mul-le_self (length a.cells.now) a.width, c.requires.1)

pub loop-row-preserved : goal.loop-row-preserved
loop-row-preserved c =
    record {
      size = c.in-Some.ensures.steps.0 ∙ c.loop-row.invariant.size;
      left = rw c.line_length-sum.ensures (here (goal.at.loop-row-preserved c).In-Some);
    }

pub returns : goal.returns
returns c =
    let l = c.loop-row.invariant in
    omega (arith, l.left, ap length (lines-end c.args.width (chunks_exact_rest c.loop-row.row-iterator) (omega (arith, c.in-None.ensures.steps.1.0, l.size))))
