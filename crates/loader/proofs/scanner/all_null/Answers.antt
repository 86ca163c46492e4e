-- `loader::scanner::all_null` meets its contract: one law for each way. Assumes nothing.
use Rattle.std.proofs.Common.{◌≡◌, ◌+◌, ◌-◌, ◌∷◌, sym, ◌∙◌, arith}
use native.Mathlib.Nat.{sub-add-eq}
use Rattle.tables.specs.Rows.{all_null}
use Rattle.tables.proofs.RowLaws.{null-none, null-more, null-value}
use Rattle.loader.specs.Reading.{codes}
use Rattle.loader.proofs.ReadingLaws.{codes-none, codes-more, codes-bad}
use Rattle.loader.proofs.scanner.all_null.Goals.{In-Ok}
use Rattle.loader.proofs.scanner.all_null.Goals as goal

-- Where a number is read: the answer is that of the row with this number in front.
front : (c : In-Ok) →
    let l = c.loop in
    let a = c.args in
    all_null (codes a.width a.s.now a.at) ≡ all_null (c.in-Ok.x.value ∷ codes (a.width - (l.counter + 1)) a.s.now c.in-Ok.x.next)
front c =
    let l = c.loop in
    let a = c.args in
    l.invariant ∙ rw (sub-add-eq, codes-more (a.width - l.counter) a.s.now l.i _ _ (omega arith) c.in-Ok.ensures)

pub returns-in_default : goal.returns-in_default
returns-in_default c =
    let l = c.loop in
    let a = c.args in
    sym (l.invariant ∙ rw (codes-bad (a.width - l.counter) a.s.now l.i _ c.in_default.ensures) null-none)

pub returns-then-x-ne0 : goal.returns-then-x-ne0
returns-then-x-ne0 c = sym (front (goal.at.returns-then-x-ne0 c).In-Ok ∙ null-value _ _ c.if-x-ne0.true)

pub loop-preserved : goal.loop-preserved
loop-preserved c = front (goal.at.loop-preserved c).In-Ok ∙ null-more _ _ c.if-x-ne0.false

pub returns : goal.returns
returns c =
    let l = c.loop in
    let a = c.args in
    sym (l.invariant ∙ rw (codes-none (a.width - l.counter) a.s.now l.i (omega arith)) null-none)
