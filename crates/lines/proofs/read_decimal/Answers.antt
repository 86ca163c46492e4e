-- `lines::read_decimal` meets its contract. Invariant: what the word says is what the bytes from here on say behind the digits so far. Assumes nothing.
use Rattle.std.proofs.Common.{◌≡◌, ◌+◌, ◌-◌, ◌*◌, get_or, arith, rules, sym, ◌∙◌}
use Rattle.std.specs.Prelude.{None}
use Rattle.lines.proofs.DecimalLaws.{gone_none, gone_some, word-goes, word-stops, word-ends}
use Rattle.lines.proofs.read_decimal.Goals as goal

pub returns-in_err-v : goal.returns-in_err-v
returns-in_err-v c =
    let l = c.loop-b in
    let w = c.args.word.now in
    let b = get_or w l.b-index 0 in
    let e : c.from_residual.result ≡ None = search rules in
    rw e (sym (l.invariant ∙ word-stops w l.v l.b-index c.loop-b-test.true (gone_none l.v b (l.v * 10 + (b - 48)) c.go_on.result c.go_on.ensures c.in_err-v.was)))

pub loop-b-preserved : goal.loop-b-preserved
loop-b-preserved c =
    let l = c.loop-b in
    let w = c.args.word.now in
    let b = get_or w l.b-index 0 in
    let (e, p) = gone_some l.v b (l.v * 10 + (b - 48)) c.in_ok-v.v c.go_on.result c.go_on.ensures c.in_ok-v.was in
    rw p (l.invariant ∙ word-goes w l.v l.b-index c.loop-b-test.true e)

pub returns : goal.returns
returns c =
    let l = c.loop-b in
    sym (l.invariant ∙ word-ends c.args.word.now l.v l.b-index (omega (arith, c.loop-b-test.false)))
