-- `loader::scanner::rises` meets its contract: one law for each way. Assumes nothing.
use Rattle.std.proofs.Common.{ℕ, ◌≡◌, ◌-◌, ◌+◌, List, ◌∷◌, sym, ◌∙◌, arith}
use native.Mathlib.Nat.{sub-add-eq}
use native.Mathlib.Decide.{dec_lt}
use lib.Dec.{ltb}
use borrow.Author.Tests.{lt-ltb, le-ltb}
use Rattle.tables.specs.Rows.{below}
use Rattle.tables.proofs.RowLaws.{below_none, below-bad, below-lt, below-gt, below_eq}
use Rattle.loader.specs.Reading.{codes}
use Rattle.loader.proofs.ReadingLaws.{codes-none, codes-more, codes-bad}
use Rattle.loader.proofs.scanner.rises.Goals.{In-Ok-number_at}
use Rattle.loader.proofs.scanner.rises.Goals as goal

-- where both numbers are read: the answer is that of the two rows with these numbers in front
both : (c : In-Ok-number_at) →
    let l = c.loop in
    let a = c.args in
    let k = a.width - (l.counter + 1) in
    below (codes a.width a.s.now a.p) (codes a.width a.s.now a.q) ≡
    below (c.in-Ok.x.value ∷ codes k a.s.now c.in-Ok.x.next) (c.in-Ok-number_at.y.value ∷ codes k a.s.now c.in-Ok-number_at.y.next)
both c =
    let l = c.loop in
    let a = c.args in
    let k = a.width - l.counter in
    l.invariant ∙ rw (
      sub-add-eq,
      codes-more k a.s.now l.i _ _ (omega arith) c.in-Ok.ensures,
      codes-more k a.s.now l.j _ _ (omega arith) c.in-Ok-number_at.ensures,
    )

-- two numbers that differ decide
differ : (x y : ℕ) (xs ys : List ℕ) → (x ≡ y → ⊥) → below (x ∷ xs) (y ∷ ys) ≡ ltb x y
differ x y xs ys h =
    elim (dec_lt x y) [
      | yes l ↦ below-lt x y xs ys l ∙ sym (lt-ltb x y l)
      | no l ↦ below-gt x y xs ys (omega arith) ∙ sym (le-ltb x y (omega arith))
    ]

pub returns-in_default : goal.returns-in_default
returns-in_default c =
    let l = c.loop in
    let a = c.args in
    let k = a.width - l.counter in
    sym (l.invariant ∙ rw (codes-bad k a.s.now l.i _ c.in_default.ensures) (below_none (codes k a.s.now l.j)))

pub returns-in_default-number_at : goal.returns-in_default-number_at
returns-in_default-number_at c =
    let l = c.loop in
    let a = c.args in
    let k = a.width - l.counter in
    sym (l.invariant ∙ rw (codes-bad k a.s.now l.j _ c.in_default-number_at.ensures) (below-bad (codes k a.s.now l.i)))

pub returns-then-x-y : goal.returns-then-x-y
returns-then-x-y c = sym (both (goal.at.returns-then-x-y c).In-Ok-number_at ∙ differ _ _ _ _ c.if-x-y.true)

pub loop-preserved : goal.loop-preserved
loop-preserved c = both (goal.at.loop-preserved c).In-Ok-number_at ∙ below_eq _ _ _ _ (omega arith) (omega arith)

pub returns : goal.returns
returns c =
    let l = c.loop in
    let a = c.args in
    let k = a.width - l.counter in
    sym (l.invariant ∙ rw (codes-none k a.s.now l.i (omega arith)) (below_none (codes k a.s.now l.j)))
