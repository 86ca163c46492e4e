-- `loader::filler::copy_codes` meets its contract. Invariant: what is left to read and to copy from here on makes the whole answer. Assumes nothing.
use Rattle.std.proofs.Common.{◌≡◌, ◌-◌, length}
use Rattle.laws.specs.Lists.{put, over}
use Rattle.loader.specs.Reading.{run_end, codes}
use Rattle.loader.proofs.filler.copy_codes.Given as goal

abbrev pub invariant-loop-cell : goal.invariant-loop-cell
invariant-loop-cell l =
    let n = length l.initial.out in
    let k = n - l.cell-index in
    record {
      end : run_end n l.s l.at ≡ run_end k l.s l.i;
      cells : put (codes n l.s l.at) l.initial.out ≡ over l.cell-index (codes k l.s l.i) l.out;
    }
