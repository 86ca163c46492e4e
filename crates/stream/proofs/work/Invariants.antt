-- `stream::work` meets its contract. Invariant: the whole call is the counts so far, and what is left of it from here; the stream fits. Assumes nothing.
use Rattle.std.proofs.Common.{◌-◌, ◌≡◌, ◌≤◌}
use Rattle.store.specs.Lent.{SameSlices}
use Rattle.machine.specs.Machine.{Fit, work, piled}
use Rattle.stream.specs.Promises.{asked_of}
use Rattle.stream.specs.Parts.{stream_in}
use Rattle.stream.proofs.work.Given as goal

abbrev pub invariant-loop-next_row : goal.invariant-loop-next_row
invariant-loop-next_row l =
    let cat = l.layout.tables.catalogue in
    let cells = l.layout.tables.cells.now in
    let asked = asked_of l.scope in
    record {
      place : l.stream.next_row ≡ l.next_row;
      fit : Fit cat (stream_in asked l.stream l.store);
      spent : l.counts.trials ≤ l.budget;
      whole : work cat cells l.budget (stream_in asked l.initial.stream l.initial.store) l.padded
          ≡ piled l.counts.trials l.counts.tests l.counts.looks (work cat cells (l.budget - l.counts.trials) (stream_in asked l.stream l.store) l.padded);
      same : SameSlices l.initial.store l.store;
    }
