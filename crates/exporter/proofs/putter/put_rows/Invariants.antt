-- `exporter::putter::put_rows` meets its contract. Invariant: the lines that are left, from the cursor on, make the whole. Assumes nothing.
use Prim.Native.Nat.{◌+◌}
use mathlib.Core.Path.{◌≡◌}
use lib.ListN.{length}
use Rattle.std.specs.Slice.Iter.{chunks_exact_rest, chunks_exact_size}
use Rattle.laws.specs.Lists.{over}
use Rattle.lines.specs.Cursors.{SameBuffer}
use Rattle.exporter.proofs.TextLaws.{lines_in}
use Rattle.exporter.proofs.putter.put_rows.Given as goal

abbrev pub invariant-loop-row : goal.invariant-loop-row
invariant-loop-row l =
    record {
      size : chunks_exact_size l.row-iterator ≡ l.width;
      left : l.to.at + length (lines_in l.width (chunks_exact_rest l.row-iterator)) ≡ l.initial.to.at + length (lines_in l.width l.cells);
      bytes : over l.initial.to.at (lines_in l.width l.cells) l.initial.to.out.now ≡ over l.to.at (lines_in l.width (chunks_exact_rest l.row-iterator)) l.to.out.now;
      same : SameBuffer l.initial.to l.to;
    }
