-- `exporter::sizer::rows_length` meets its contract. Invariant: the sum and the length of the lines that are left make the whole. Assumes nothing.
use Prim.Native.Nat.{◌+◌}
use mathlib.Core.Path.{◌≡◌}
use lib.ListN.{length}
use Rattle.std.specs.Slice.Iter.{chunks_exact_rest, chunks_exact_size}
use Rattle.exporter.proofs.TextLaws.{lines_in}
use Rattle.exporter.proofs.sizer.rows_length.Given as goal

abbrev pub invariant-loop-row : goal.invariant-loop-row
invariant-loop-row l =
    record {
      size : chunks_exact_size l.row-iterator ≡ l.width;
      left : l.sum + length (lines_in l.width (chunks_exact_rest l.row-iterator)) ≡ length (lines_in l.width l.cells);
    }
