-- `writer::putter::put_image` meets its contract. Invariant: the tables that are left, from the cursor on, make the whole answer. Assumes nothing.
use native.Mathlib.Omega.{arith}
use Prim.Native.Nat.{◌+◌, ◌-◌, ◌≤◌}
use mathlib.Core.Path.{◌≡◌, sym, ◌∙◌}
use lib.ListN.{length}
use Rattle.laws.specs.Lists.{Placed}
use Rattle.laws.proofs.ListLaws.{put-nil}
use Rattle.laws.proofs.PlacedLaws.{placed-length, placed-rest}
use Rattle.writer.specs.Write.{encodes, cells_of, tables_image}
use Rattle.writer.proofs.WriteLaws.{head_run, table_run, Table, head-low, table-good, head-length, image-none, image-head}
use Rattle.writer.proofs.putter.put_image.Goals.{In-loop-t, After-put_run-at-in-loop-t}
use Rattle.writer.proofs.putter.put_image.Goals as goal

-- What the table at hand has.
here : (c : In-loop-t) → Table c.args.tables.now.catalogue c.args.tables.now.cells.now c.loop-t.t
here c = table-good _ _ c.requires.0 c.loop-t.t c.loop-t-test.true

pub put_run-at-requires : goal.put_run-at-requires
put_run-at-requires c =
    let T = c.args.tables.now in
    rw c.head.ensures (head-low T.catalogue T.lawful.attributes T.lawful.tables, omega (arith, head-length T.catalogue T.cells.now, c.requires.1))

pub loop-t-init : goal.loop-t-init
loop-t-init c =
    let T = c.args.tables.now in
    let e : T.catalogue.n - 0 ≡ T.catalogue.n = omega arith in
    let p = rw c.head.ensures at c.put_run-at.ensures in
    let room : 0 + length (encodes (head_run T.catalogue)) ≤ length c.args.out.now = omega (arith, head-length T.catalogue T.cells.now, c.requires.1) in
    record {
      left = rw e (omega (arith, p.next, head-length T.catalogue T.cells.now));
      bytes = rw (e, image-head T.catalogue T.cells.now) (placed-rest room p (tables_image T.catalogue.n T.catalogue T.cells.now 0));
    }

-- The numbers before the table's cells stand where they belong, and there is room for them.
before_cells : (c : After-put_run-at-in-loop-t)
    → (let head = table_run c.args.tables.now.catalogue c.loop-t.t in
    (c.loop-t.at + length (encodes head) ≤ length c.loop-t.out) × Placed (encodes head) c.loop-t.at c.loop-t.out c.put_run-at-in-loop-t.result c.put_run-at-in-loop-t.new.out)
before_cells c = (
  omega (arith, (here (goal.at-After-put_run-at-in-loop-t c).In-loop-t).size, c.loop-t.invariant.left, c.loop-t.auto, c.put_run-at.auto, c.requires.1),
  rw c.table_head.ensures at c.put_run-at-in-loop-t.ensures,
)

pub put_run-at-requires-in-loop-t : goal.put_run-at-requires-in-loop-t
put_run-at-requires-in-loop-t c =
    let g = here (goal.at.put_run-at-requires-in-loop-t c).In-loop-t in
    rw c.table_head.ensures (g.head_low, omega (arith, g.size, c.loop-t.invariant.left, c.loop-t.auto, c.put_run-at.auto, c.requires.1))

pub put_run-at-requires-in-loop-t-2 : goal.put_run-at-requires-in-loop-t-2
put_run-at-requires-in-loop-t-2 c =
    let g = here (goal.at.put_run-at-requires-in-loop-t-2 c).In-loop-t in
    let (room, p) = before_cells (goal.at.put_run-at-requires-in-loop-t-2 c).After-put_run-at-in-loop-t in
    rw c.cells_of.ensures (g.low, omega (arith, p.next, placed-length room p, g.size, c.loop-t.invariant.left, c.loop-t.auto, c.put_run-at.auto, c.requires.1))

pub loop-t-preserved : goal.loop-t-preserved
loop-t-preserved c =
    let l = c.loop-t in
    let g = here (goal.at.loop-t-preserved c).In-loop-t in
    let (room, p) = before_cells (goal.at.loop-t-preserved c).After-put_run-at-in-loop-t in
    let q = rw c.cells_of.ensures at c.put_run-at-in-loop-t-2.ensures in
    let more : c.put_run-at-in-loop-t.result + length (encodes (cells_of c.args.tables.now.catalogue c.args.tables.now.cells.now l.t)) ≤ length c.put_run-at-in-loop-t.new.out
    = omega (arith, p.next, placed-length room p, g.size, l.invariant.left, l.auto, c.put_run-at.auto, c.requires.1) in
    record {
      left = omega (arith, p.next, q.next, g.size, l.invariant.left);
      bytes = l.invariant.bytes ∙ rw g.bytes (placed-rest room p _ ∙ placed-rest more q _);
    }

pub returns : goal.returns
returns c =
    let l = c.loop-t in
    let T = c.args.tables.now in
    sym (l.invariant.bytes ∙ rw (image-none T.catalogue T.cells.now (T.catalogue.n - l.t) l.t (omega (arith, c.loop-t-test.false))) (put-nil l.out l.at))
