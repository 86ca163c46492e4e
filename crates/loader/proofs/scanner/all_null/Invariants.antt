-- `loader::scanner::all_null` meets its contract. Invariant: every code passed is 0, so what is left of the row decides. Assumes nothing.
use Rattle.std.proofs.Common.{◌≡◌, ◌-◌}
use Rattle.tables.specs.Rows.{all_null}
use Rattle.loader.specs.Reading.{codes}
use Rattle.loader.proofs.scanner.all_null.Given as goal

abbrev pub invariant-loop : goal.invariant-loop
invariant-loop l = all_null (codes l.width l.s l.at) ≡ all_null (codes (l.width - l.counter) l.s l.i)
