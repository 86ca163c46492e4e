-- `tables::check_stored` meets its contract. Invariant: what is stored of the tables below t is right, and the sum is their cells. Assumes nothing.
use native.Mathlib.Decide.{ℕ_discrete}
use Rattle.std.proofs.Common.{ℕ, ◌+◌, ◌≡◌, refl, sym, ◌∙◌, false, arith}
use Rattle.tables.specs.declared.Catalogue.{Catalogue}
use Rattle.tables.specs.Catalogues.{first_cell}
use Rattle.tables.specs.Checks.{misstored}
use Rattle.tables.proofs.CatalogueLaws.{cells-next, table-ends}
use Rattle.tables.proofs.CheckLaws.{place-wrong, mask-wrong, stored-right, stored-bad, stored-good}
use Rattle.tables.proofs.check_stored.Invariants.{Right}
use Rattle.tables.proofs.check_stored.Goals.{In-loop-t, then-cat-t-via-then-cat-t, then-cat-t-via-else-cat-t+then-cat-t-2}
use Rattle.tables.proofs.check_stored.Goals as goal

right-next : (cat : Catalogue) (t : ℕ) → Right cat t → misstored cat t ≡ false → Right cat (t + 1)
right-next cat t R e u l = go (ℕ_discrete u t)
  where
    go : Dec (u ≡ t) → misstored cat u ≡ false
    go (yes q) = rw q e
    go (no g) = R u (omega (arith, l, g))

pub loop-t-init : goal.loop-t-init
unfolding first_cell
loop-t-init c = (refl, λ u l. absurd (omega arith))

pub returns-then-cat-t : goal.returns-then-cat-t
returns-then-cat-t c =
    let l = c.loop-t in
    sym (stored-bad _ l.t c.loop-t-test.true
    (elim c.then-cat-t.branch [
      | then-cat-t-via-then-cat-t w ↦ place-wrong _ _ (λ e. w.if-cat-t.true (e ∙ sym l.invariant.0))
      | then-cat-t-via-else-cat-t+then-cat-t-2 w ↦ mask-wrong _ _ (λ e. w.if-cat-t-2.true (e ∙ sym w.touching_of.ensures))
    ]))

pub overflow_add-at : goal.overflow_add-at
overflow_add-at c =
    rw c.width.ensures (omega (arith, c.loop-t.invariant.0, table-ends c.args.cat c.loop-t.t c.loop-t-test.true, c.requires.1))

pub loop-t-preserved : goal.loop-t-preserved
loop-t-preserved c =
    let v = c.loop-t.invariant in (
      rw (c.width.ensures, cells-next c.args.cat c.loop-t.t, ← v.0) refl,
      right-next c.args.cat c.loop-t.t v.1
          (stored-right _ _ (c.if-cat-t.false ∙ v.0)
          (c.if-cat-t-2.false ∙ c.touching_of.ensures)),
    )

pub returns : goal.returns
returns c =
    let l = c.loop-t in
    sym (stored-good _ (λ t h. l.invariant.1 t (omega (arith, h, c.loop-t-test.false))))
