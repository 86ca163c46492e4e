-- `importer::liner::Lines::read` meets its contract. Invariant: the line is known so far. Assumes nothing.
use Rattle.std.proofs.Common.{arith, sym, ◌∙◌, ap}
use Rattle.std.specs.Result.{result_and}
use Rattle.importer.proofs.LineSteps.{held-start, held-on, held-ends, held-last, line-none, line-outside, line-surplus}
use Rattle.importer.proofs.liner.Lines.read.Goals as goal

pub loop-k-init : goal.loop-k-init
loop-k-init c = held-start c.args.self.now.width c.args.self.now.text.now c.args.at c.requires

pub returns-in-ToLine : goal.returns-in-ToLine
returns-in-ToLine c =
    let l = c.loop-k in
    let s = c.args.self.now in
    let e = sym c.field_at.ensures ∙ c.in-ToLine.is in
    held-ends s.width s.text.now c.args.at l.place l.k l.cells l.invariant c.loop-k-test.true _ _
    (c.and.ensures ∙ ap (result_and l.cells) c.cell-in-ToLine.ensures) _ _ e c.ended.ensures

pub returns-in-Nothing : goal.returns-in-Nothing
returns-in-Nothing c =
    let l = c.loop-k in
    let s = c.args.self.now in
    let e = sym c.field_at.ensures ∙ c.in-Nothing.is in
    line-none s.width s.text.now c.args.at l.place l.k _ l.invariant.so c.loop-k-test.true _ c.if-k-eq0.true e

pub returns-in-Nothing-2 : goal.returns-in-Nothing-2
returns-in-Nothing-2 c =
    let l = c.loop-k in
    let s = c.args.self.now in
    let e = sym c.field_at.ensures ∙ c.in-Nothing.is in
    held-last s.width s.text.now c.args.at l.place l.k l.cells l.invariant c.loop-k-test.true _ _
    (c.and-in-Nothing-2.ensures ∙ ap (result_and l.cells) c.cell-in-Nothing-2.ensures) _ (omega (arith, c.if-k-eq0.false)) e c.ended-in-Nothing-2.ensures

pub returns-in-OutsideHere : goal.returns-in-OutsideHere
returns-in-OutsideHere c =
    let l = c.loop-k in
    let s = c.args.self.now in
    let e = sym c.field_at.ensures ∙ c.in-OutsideHere.is in
    rw c.new.ensures (line-outside s.width s.text.now c.args.at l.place l.k _ l.invariant.so c.loop-k-test.true e)

pub loop-k-preserved : goal.loop-k-preserved
loop-k-preserved c =
    let l = c.loop-k in
    let s = c.args.self.now in
    let e = sym c.field_at.ensures ∙ c.in-ToComma.is in
    held-on s.width s.text.now c.args.at l.place l.k l.cells l.invariant c.loop-k-test.true _ _
    (c.and-cells.ensures ∙ ap (result_and l.cells) c.cell.ensures) _ e

pub returns : goal.returns
returns c =
    let l = c.loop-k in
    let s = c.args.self.now in
    rw c.new-2.ensures (line-surplus s.width s.text.now c.args.at l.place l.k _ l.invariant.so s.some (omega arith))
