-- `writer::putter::put_run` meets its contract. Invariant: the numbers that are left, from the cursor on, make the whole answer. Assumes nothing.
use Prim.Native.Nat.{◌+◌}
use mathlib.Core.Path.{◌≡◌}
use lib.ListN.{length, drop}
use Rattle.laws.specs.Lists.{over}
use Rattle.writer.specs.Write.{encodes}
use Rattle.writer.proofs.putter.put_run.Given as goal

abbrev pub invariant-loop-x : goal.invariant-loop-x
invariant-loop-x l =
    record {
      left : l.at + length (encodes (drop l.x-index l.numbers)) ≡ l.start + length (encodes l.numbers);
      bytes : over l.start (encodes l.numbers) l.initial.out ≡ over l.at (encodes (drop l.x-index l.numbers)) l.out;
    }
