-- `Keys::find` meets its contract. The loop's invariant: what a search from here says is what the whole search says. Each way that a look can go has its
-- law in LookLaws. Assumes nothing.
use Prim.Native.Nat.{ℕ, ◌+◌, ◌-◌}
use mathlib.Core.Bool.{Bool}
use mathlib.Core.List.{List}
use mathlib.Core.Path.{◌≡◌, sym, ap, ◌∙◌}
use native.Mathlib.Nat.{sub-zero}
use native.Mathlib.Omega.{arith}
use Rattle.words.specs.Words.{bit_of}
use Rattle.keys.specs.TwoWords.{number_of}
use Rattle.store.specs.Looks.{Found, Absent, Damaged}
use Rattle.store.specs.Store.{store_in, link_of, walk_in, search_of}
use Rattle.store.proofs.LookLaws.{walk-hit, walk-last, walk-absent, walk-past, walk-on}
use Rattle.store.proofs.Keys.find.Goals as goal

pub loop-d-init : goal.loop-d-init
unfolding search_of
loop-d-init c = (omega arith, rw sub-zero)

pub returns-then-same : goal.returns-then-same
returns-then-same c =
    let s = rw c.at.ensures at c.same.ensures in
    sym (c.loop-d.invariant.1 ∙ walk-hit _ _ _ _ _ _ _ (sym s ∙ c.if-same.true))

-- The link on the side of the sought key's bit.
side : (l r : List ℕ) (p : ℕ) {s t : Bool} → s ≡ t → link_of l r s p ≡ link_of l r t p
side l r p e = rw e

pub returns-in_default : goal.returns-in_default
returns-in_default c =
    let s = rw c.at.ensures at c.same.ensures in
    let n = rw c.in_default.is at c.named.ensures in
    let l = side c.args.links.left.now c.args.links.right.now c.loop-d.p c.bit.ensures in
    ap (λ (x : Bool). Absent c.loop-d.p x (c.loop-d.d + 1)) c.bit.ensures
    ∙ sym (c.loop-d.invariant.1 ∙ walk-absent _ _ _ _ _ _ _ (omega arith) (sym s ∙ c.if-same.false) (omega (arith, n, l)))

pub returns-then-found-next : goal.returns-then-found-next
returns-then-found-next c =
    let s = rw c.at.ensures at c.same.ensures in
    let n = rw c.in-Some.is at c.named.ensures in
    let l = side c.args.links.left.now c.args.links.right.now c.loop-d.p c.bit.ensures in
    sym
    (c.loop-d.invariant.1
    ∙ walk-past _ _ _ _ _ _ _ (omega arith) (sym s ∙ c.if-same.false) (λ z. omega (arith, n, l, z)) (omega (arith, n, l)))

pub loop-d-preserved : goal.loop-d-preserved
loop-d-preserved c =
    let g = c.args in
    let q = store_in g.self.low.now g.self.high.now g.links.left.now g.links.right.now g.found in
    let k = number_of g.sought in
    let d = c.loop-d.d in
    let s = rw c.at.ensures at c.same.ensures in
    let n = rw c.in-Some.is at c.named.ensures in
    let l = side g.links.left.now g.links.right.now c.loop-d.p c.bit.ensures in
    let e : link_of q.left q.right (bit_of k d) c.loop-d.p - 1 ≡ c.in-Some.next = omega (arith, n, l) in (
      c.if-found-next.false,
      c.loop-d.invariant.1
          ∙ walk-on _ _ _ _ (g.deepest - d) (g.deepest - (d + 1)) _ _ (omega arith) (sym s ∙ c.if-same.false) (λ z. omega (arith, n, l, z)) (omega (arith, n, l))
          ∙ ap (walk_in q k (g.deepest - (d + 1)) (d + 1)) e,
    )

pub returns-then-same-2 : goal.returns-then-same-2
returns-then-same-2 c =
    let s = rw c.at-2.ensures at c.same-2.ensures in
    let d : c.loop-d.d ≡ c.args.deepest = omega arith in
    ap (λ (x : ℕ). Found c.loop-d.p (x + 1)) (sym d) ∙ sym (c.loop-d.invariant.1 ∙ walk-hit _ _ _ _ _ _ _ (sym s ∙ c.if-same-2.true))

pub returns-else-same-2 : goal.returns-else-same-2
returns-else-same-2 c =
    let s = rw c.at-2.ensures at c.same-2.ensures in
    let d : c.loop-d.d ≡ c.args.deepest = omega arith in
    ap (λ (x : ℕ). Damaged (x + 1)) (sym d) ∙ sym (c.loop-d.invariant.1 ∙ walk-last _ _ _ _ _ _ _ (omega arith) (sym s ∙ c.if-same-2.false))
