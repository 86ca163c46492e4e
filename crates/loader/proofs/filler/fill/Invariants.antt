-- `loader::filler::fill` meets its contract. Invariant: what is left to fill from here on makes the whole answer, and the tables left are good. Assumes nothing.
use Rattle.std.proofs.Common.{◌≡◌, ◌-◌, ◌≤◌, length}
use Rattle.laws.specs.Lists.{put, over}
use Rattle.loader.specs.Load.{first_table, tables_codes, Fillable}
use Rattle.loader.proofs.filler.fill.Given as goal

abbrev pub invariant-loop : goal.invariant-loop
invariant-loop l =
    let k = l.n - l.counter in
    record {
      good : Fillable l.s (length l.initial.cells) k l.used l.i;
      within : l.used ≤ length l.initial.cells;
      cells : put (tables_codes l.n l.s first_table) l.initial.cells ≡ over l.used (tables_codes k l.s l.i) l.cells;
    }
