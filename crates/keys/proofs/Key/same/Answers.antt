-- `Key::same` meets its contract: two pairs of words are the same where their numbers are (`key-same`). Assumes nothing.
use native.Mathlib.Omega.{arith}
use borrow.Author.Tests.{eq-eqb, ne_eqb}
use Rattle.keys.proofs.TwoWordLaws.{key-same}
use Rattle.keys.proofs.Key.same.Goals as goal

pub returns-then-self-other : goal.returns-then-self-other
returns-then-self-other c =
    let s = key-same c.args.self c.args.other (omega arith) (omega arith) in
    rw (eq-eqb c.args.self.low c.args.other.low c.if-self-other.true) at s

pub returns-else-self-other : goal.returns-else-self-other
returns-else-self-other c =
    let s = key-same c.args.self c.args.other (omega arith) (omega arith) in
    let e = ne_eqb c.args.self.low c.args.other.low c.if-self-other.false in
    rw e (rw e at s)
