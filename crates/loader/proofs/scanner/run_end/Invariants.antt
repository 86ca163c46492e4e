-- `loader::scanner::run_end` meets its contract. Invariant: the whole answer is the answer from here. Assumes nothing.
use Rattle.std.proofs.Common.{◌≡◌, ◌-◌}
use Rattle.loader.specs.Reading.{run_end}
use Rattle.loader.proofs.scanner.run_end.Given as goal

abbrev pub invariant-loop : goal.invariant-loop
invariant-loop l = run_end l.count l.s l.at ≡ run_end (l.count - l.counter) l.s l.i
