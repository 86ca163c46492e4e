-- `loader::scanner::rises` meets its contract. Invariant: the comparison of the rows is that of what is left of them. Assumes nothing.
use Rattle.std.proofs.Common.{◌≡◌, ◌-◌}
use Rattle.tables.specs.Rows.{below}
use Rattle.loader.specs.Reading.{codes}
use Rattle.loader.proofs.scanner.rises.Given as goal

abbrev pub invariant-loop : goal.invariant-loop
invariant-loop l = below (codes l.width l.s l.p) (codes l.width l.s l.q) ≡ below (codes (l.width - l.counter) l.s l.i) (codes (l.width - l.counter) l.s l.j)
