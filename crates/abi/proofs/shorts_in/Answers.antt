-- `abi::shorts_in` meets its contract. Invariant: the front of the array is the words so far. Assumes nothing.
use native.Mathlib.Omega.{arith}
use Prim.Native.Nat.{ℕ, ◌+◌}
use mathlib.Core.Path.{◌≡◌, refl, sym, ◌∙◌}
use lib.ListN.{length-set}
use lib.Seq.{take_all}
use Rattle.laws.specs.Lists.{tab}
use Rattle.laws.proofs.ListLaws.{take_next, tab-next}
use Rattle.tables.specs.Sizes.{most_tables}
use Rattle.abi.specs.Words.{short_in, shorts_in}
use Rattle.abi.proofs.shorts_in.Goals as goal

pub loop-t-init : goal.loop-t-init
unfolding tab
loop-t-init c = (refl, refl)

pub loop-t-preserved : goal.loop-t-preserved
loop-t-preserved c =
    let l = c.loop-t in
    let a = c.args in
    let f : ℕ → ℕ = λ u. short_in a.words.now (a.from + u) in (
      simp length-set l.invariant.0,
      take_next l.shorts (tab l.t f) l.t _ (omega (arith, c.loop-t-test.true, l.invariant.0)) l.invariant.1
          ∙ rw c.short_in.ensures (sym (tab-next l.t f)),
    )

pub returns : goal.returns
unfolding shorts_in
returns c =
    let l = c.loop-t in
    let e : l.t ≡ most_tables = omega (arith, c.loop-t-test.false, l.auto.t-end) in
    sym (take_all most_tables l.shorts (omega (arith, l.invariant.0))) ∙ (rw e at l.invariant.1)
