-- `writer::putter::put_image` meets its contract. Invariant: the tables that are left, from the cursor on, make the whole answer. Assumes nothing.
use Prim.Native.Nat.{◌+◌, ◌-◌}
use mathlib.Core.Path.{◌≡◌}
use lib.ListN.{length}
use Rattle.laws.specs.Lists.{put, over}
use Rattle.writer.specs.Write.{tables_image, image_of}
use Rattle.writer.proofs.putter.put_image.Given as goal

abbrev pub invariant-loop-t : goal.invariant-loop-t
invariant-loop-t l =
    record {
      left : l.at + length (tables_image (l.tables.catalogue.n - l.t) l.tables.catalogue l.tables.cells.now l.t) ≡ length (image_of l.tables.catalogue l.tables.cells.now);
      bytes : put (image_of l.tables.catalogue l.tables.cells.now) l.fn.out ≡ over l.at (tables_image (l.tables.catalogue.n - l.t) l.tables.catalogue l.tables.cells.now l.t) l.out;
    }
