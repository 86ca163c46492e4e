-- `exporter::putter::put_line` meets its contract. Invariant: the cells that are left and the line's end, from the cursor on, make the whole. Assumes nothing.
use Prim.Native.Nat.{◌+◌}
use mathlib.Core.Path.{◌≡◌}
use lib.ListN.{length, drop}
use Rattle.laws.specs.Lists.{over}
use Rattle.lines.specs.Cursors.{SameBuffer}
use Rattle.text.specs.Writing.{line_text, rest_text}
use Rattle.exporter.proofs.putter.put_line.Given as goal

abbrev pub invariant-loop-code : goal.invariant-loop-code
invariant-loop-code l =
    record {
      left : l.to.at + length (rest_text (drop (l.code-index + 1) l.row)) ≡ l.fn.to.at + length (line_text l.row);
      bytes : over l.fn.to.at (line_text l.row) l.fn.to.out.now ≡ over l.to.at (rest_text (drop (l.code-index + 1) l.row)) l.to.out.now;
      same : SameBuffer l.fn.to l.to;
    }
