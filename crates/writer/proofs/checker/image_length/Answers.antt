-- `writer::checker::image_length` meets its contract. Invariant: the sum and the length of the tables that are left make the whole length. Assumes nothing.
use native.Mathlib.Omega.{arith}
use Prim.Native.Nat.{◌+◌, ◌-◌, ◌*◌, ◌≤◌}
use mathlib.Core.Path.{◌≡◌, ap}
use lib.ListN.{length}
use Rattle.numbers.specs.Numbers.{most_bytes}
use Rattle.tables.specs.Sizes.{most_tables, most_cells}
use Rattle.writer.specs.Write.{tables_image, image_of}
use Rattle.writer.proofs.WriteLaws.{Table, head-low, table-good, head-length, image-none, image-few}
use Rattle.writer.proofs.checker.image_length.Goals.{In-loop-t, After-run_size-in-loop-t}
use Rattle.writer.proofs.checker.image_length.Goals as goal

-- What the table at hand has.
here : (c : In-loop-t) → Table c.args.tables.now.catalogue c.args.tables.now.cells.now c.loop-t.t
here c = table-good _ _ c.requires c.loop-t.t c.loop-t-test.true

pub run_size-sum-requires : goal.run_size-sum-requires
run_size-sum-requires c =
    let L = c.args.tables.now.lawful in
    rw c.head.ensures (omega arith, head-low c.args.tables.now.catalogue L.attributes L.tables)

pub loop-t-init : goal.loop-t-init
loop-t-init c =
    let T = c.args.tables.now in
    let e : T.catalogue.n - 0 ≡ T.catalogue.n = omega arith in
    rw (e, c.run_size-sum.ensures, c.head.ensures) (omega (arith, head-length T.catalogue T.cells.now))

pub run_size-requires : goal.run_size-requires
run_size-requires c = rw c.table_head.ensures (omega arith, (here (goal.at.run_size-requires c).In-loop-t).head_low)

pub run_size-requires-in-loop-t : goal.run_size-requires-in-loop-t
run_size-requires-in-loop-t c =
    let g = here (goal.at.run_size-requires-in-loop-t c).In-loop-t in
    rw c.cells_of.ensures (g.few, g.low)

-- How many bytes are left, with the table at hand and behind it, in the words of the code; and the whole is short.
left : (c : After-run_size-in-loop-t)
    → (let T = c.args.tables.now in
    (c.loop-t.sum + (c.run_size.result + c.run_size-in-loop-t.result) + length (tables_image (T.catalogue.n - (c.loop-t.t + 1)) T.catalogue T.cells.now (c.loop-t.t + 1))
    ≡ length (image_of T.catalogue T.cells.now))
    × (length (image_of T.catalogue T.cells.now) ≤ most_bytes * (3 + 2 * most_tables + most_cells)))
left c =
    let T = c.args.tables.now in (
      rw (c.run_size.ensures, c.table_head.ensures, c.run_size-in-loop-t.ensures, c.cells_of.ensures)
          (omega (arith, c.loop-t.invariant, (here (goal.at-After-run_size-in-loop-t c).In-loop-t).size)),
      image-few T.catalogue T.cells.now c.requires,
    )

pub overflow_add-sum : goal.overflow_add-sum
overflow_add-sum c = omega (arith, left (goal.at.overflow_add-sum c).After-run_size-in-loop-t)

pub overflow_add-sum-in-loop-t : goal.overflow_add-sum-in-loop-t
overflow_add-sum-in-loop-t c = omega (arith, left (goal.at.overflow_add-sum-in-loop-t c).After-run_size-in-loop-t)

pub loop-t-preserved : goal.loop-t-preserved
loop-t-preserved c = (left (goal.at.loop-t-preserved c).After-run_size-in-loop-t).0

pub returns : goal.returns
returns c =
    let T = c.args.tables.now in
    omega (arith, c.loop-t.invariant, ap length (image-none T.catalogue T.cells.now (T.catalogue.n - c.loop-t.t) c.loop-t.t (omega (arith, c.loop-t-test.false))))
