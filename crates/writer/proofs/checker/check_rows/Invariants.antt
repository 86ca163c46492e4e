-- `writer::checker::check_rows` meets its contract. Invariant: the rows passed meet no refusal, so the whole answer is the answer of the rows that are left. Assumes nothing.
use Prim.Native.Nat.{◌/◌}
use mathlib.Core.Path.{◌≡◌}
use mathlib.Core.Bool.{true}
use lib.ListN.{length}
use Rattle.std.specs.Slice.Iter.{chunks_exact_rest, chunks_exact_size}
use Rattle.tables.specs.Versions.{version_number}
use Rattle.writer.specs.Write.{rows_fault}
use Rattle.writer.proofs.WriteLaws.{rows_behind}
use Rattle.writer.proofs.checker.check_rows.Given as goal

abbrev pub invariant-loop-row : goal.invariant-loop-row
invariant-loop-row l =
    record {
      size : chunks_exact_size l.row-iterator ≡ l.width;
      so_far : rows_fault (length l.cells / l.width) l.width l.cells (version_number l.version) true 0 0
          ≡ rows_behind (length (chunks_exact_rest l.row-iterator) / l.width) l.width (version_number l.version) l.before (chunks_exact_rest l.row-iterator);
    }
