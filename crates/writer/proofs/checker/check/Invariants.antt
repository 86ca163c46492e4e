-- `writer::checker::check` meets its contract. Invariant: the rows of no table below t meet a refusal, so the whole answer is the answer from table t
-- on. Assumes nothing.
use Prim.Native.Nat.{◌-◌}
use mathlib.Core.Path.{◌≡◌}
use Rattle.writer.specs.Write.{cells_fault, write_fault}
use Rattle.writer.proofs.checker.check.Given as goal

abbrev pub invariant-loop-t : goal.invariant-loop-t
invariant-loop-t l = write_fault l.cat l.cells ≡ cells_fault (l.cat.n - l.t) l.cat l.cells l.t
