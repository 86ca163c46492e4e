-- `importer::header::read_header` meets its contract. Invariant: the header is known so far. Assumes nothing.
use Rattle.std.proofs.Common.{◌≡◌, arith, rules, sym, ◌∙◌, ap, inl, inr}
use Rattle.std.specs.Prelude.{Err}
use Rattle.text.proofs.Fieldwise.{comma-next}
use Rattle.importer.proofs.HeadSteps.{held-start, held-fits, held-on, held-rows, held-fault, head-none, head-outside, Ended}
use Rattle.importer.proofs.header.read_header.Goals as goal
use Rattle.importer.proofs.header.read_header.Goals.{in-ToLine, in-Nothing-2}

pub loop-code-init : goal.loop-code-init
loop-code-init c = held-start c.args.m c.args.text.now

pub with_attribute-scheme-requires : goal.with_attribute-scheme-requires
with_attribute-scheme-requires c =
    let l = c.loop-code in
    (c.requires.1, omega arith, held-fits c.args.m c.args.text.now l.at l.width l.before l.scheme l.invariant)

pub loop-code-smaller : goal.loop-code-smaller
loop-code-smaller c =
    let l = c.loop-code in
    let e = sym c.field_at.ensures ∙ c.in-ToComma.is in
    omega (arith, comma-next c.args.text.now l.at _ _ l.invariant.so.most e)

pub loop-code-preserved : goal.loop-code-preserved
loop-code-preserved c =
    let l = c.loop-code in
    let e = sym c.field_at.ensures ∙ c.in-ToComma.is in
    held-on c.args.m c.args.text.now l.at l.width l.before l.scheme l.invariant _ _ c.with_attribute-scheme.ensures _ e

pub returns-in-Nothing : goal.returns-in-Nothing
returns-in-Nothing c =
    let l = c.loop-code in
    let e = sym c.field_at.ensures ∙ c.in-Nothing.is in
    rw c.new.ensures (head-none c.args.m c.args.text.now l.at l.width l.before _ _ l.invariant.so _ (omega (arith, c.if-width-eq1.true)) e)

pub returns-in-OutsideHere : goal.returns-in-OutsideHere
returns-in-OutsideHere c =
    let l = c.loop-code in
    let e = sym c.field_at.ensures ∙ c.in-OutsideHere.is in
    rw c.new-in-OutsideHere.ensures (head-outside c.args.m c.args.text.now l.at l.width l.before _ _ l.invariant.so e)

pub with_attribute-requires : goal.with_attribute-requires
with_attribute-requires c =
    let l = c.loop-code in
    (c.requires.1, omega arith, held-fits c.args.m c.args.text.now l.at l.width l.before l.scheme l.invariant)

pub returns-in_err-scheme : goal.returns-in_err-scheme
returns-in_err-scheme c =
    let l = c.loop-code in
    let e : c.from_residual.result ≡ Err c.in_err-scheme.field-0.0 = search rules in
    let h : Ended c.args.text.now l.at l.width c.match-field_at.code.0 c.match-field_at.code.1 =
    elim c.match-field_at.branch [
      | in-ToLine w ↦ inl (rw w.code-is (sym c.field_at.ensures ∙ w.in-ToLine.is))
      | in-Nothing-2 w ↦ inr (omega (arith, w.if-width-eq1.false), ap (λ p. p.1) w.code-is, rw w.code-is (sym c.field_at.ensures ∙ w.in-Nothing.is))
    ] in
    rw e (held-fault c.args.m c.args.text.now l.at l.width l.before l.scheme l.invariant _ _ c.with_attribute.ensures _ _ h c.in_err-scheme.was)

pub returns-in-loop-code : goal.returns-in-loop-code
returns-in-loop-code c =
    let l = c.loop-code in
    let h : Ended c.args.text.now l.at l.width c.match-field_at.code.0 c.match-field_at.code.1 =
    elim c.match-field_at.branch [
      | in-ToLine w ↦ inl (rw w.code-is (sym c.field_at.ensures ∙ w.in-ToLine.is))
      | in-Nothing-2 w ↦ inr (omega (arith, w.if-width-eq1.false), ap (λ p. p.1) w.code-is, rw w.code-is (sym c.field_at.ensures ∙ w.in-Nothing.is))
    ] in
    held-rows c.args.m c.args.text.now l.at l.width l.before l.scheme l.invariant _ _ c.with_attribute.ensures _ _ h c.in_ok-scheme.was
