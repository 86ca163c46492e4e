-- `text::Codes::next` meets its contract: nothing is left, or the next field's code is the first of what is left. Assumes nothing.
use Rattle.std.proofs.Common.{◌-◌, ◌<◌, length, arith}
use Rattle.text.specs.Fields.{codes_at}
use Rattle.text.proofs.Fieldwise.{codes-none, codes-read, length-codes-at}
use Rattle.text.proofs.CodesIterator.next.Goals as goal

pub returns-then-self-eq0-clause-steps : goal.returns-then-self-eq0-clause-steps
returns-then-self-eq0-clause-steps c =
    let e = codes-none c.args.self.now.left c.args.self.now.text.now c.args.self.now.at (omega (arith, c.if-self-eq0.true)) in
    (e, e)

pub returns-clause-steps : goal.returns-clause-steps
returns-clause-steps c =
    let k : 0 < c.args.self.now.left = omega (arith, c.if-self-eq0.false) in
    codes-read c.args.self.now.left c.args.self.now.text.now c.args.self.now.at _ k c.code_at-field.ensures

pub returns-clause-goes : goal.returns-clause-goes
returns-clause-goes c =
    let s = c.args.self.now in
    let p = length-codes-at s.left s.text.now s.at in
    let q = length-codes-at (s.left - 1) s.text.now c.code_at-field.result.next in
    let l : length (codes_at (s.left - 1) s.text.now c.code_at-field.result.next) < length (codes_at s.left s.text.now s.at) =
    omega (arith, p, q, c.if-self-eq0.false) in
    record { on = λ f. (tt, tt, l); keeps = tt; rests = λ f. tt }
