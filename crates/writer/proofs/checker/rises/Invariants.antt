-- `writer::checker::rises` meets its contract. Invariant: what is left of the two rows decides. Assumes nothing.
use Prim.Native.Nat.{◌≤◌, min}
use mathlib.Core.Path.{◌≡◌}
use lib.ListN.{length, drop}
use Rattle.std.specs.Ordering.{nat_cmp, is_lt}
use Rattle.std.specs.Cmp.Lexicographic.{slice_cmp}
use Rattle.writer.proofs.checker.rises.Given as goal

abbrev pub invariant-loop-i : goal.invariant-loop-i
invariant-loop-i l =
    record {
      end : l.i-end ≡ min (length l.before) (length l.row);
      inside : l.i ≤ l.i-end;
      left : is_lt (slice_cmp nat_cmp l.before l.row) ≡ is_lt (slice_cmp nat_cmp (drop l.i l.before) (drop l.i l.row));
    }
