-- `Scope::is_stray` meets its contract: row 0, a table from n on, or a number past the table's rows. Assumes nothing.
use Rattle.std.proofs.Common.{◌≡◌, ◌≤◌, ℕ, true, refl, ◌∙◌}
use mathlib.Core.Logic.{◌⊎◌, inl, inr, ⊎_elim}
use native.Mathlib.Omega.{arith}
use Rattle.std.proofs.lemmas.Bool.{le-leb}
use borrow.Author.Tests.{lt-ltb, eq-eqb, ne_eqb}
use Rattle.tables.specs.declared.Catalogue.{Catalogue}
use Rattle.disjunction.specs.Asked.{every_with}
use Rattle.machine.specs.Machine.{stray}
use Rattle.rows.specs.Named.{rows_there}
use Rattle.rows.proofs.NamedLaws.{there_out}
use Rattle.stream.proofs.Scope.is_stray.Goals.{then-x-eq0, else-x-eq0}
use Rattle.stream.proofs.Scope.is_stray.Goals as goal

-- There is no row 0, and no row of a table from n on.
met : (cat : Catalogue) (t r : ℕ) → (r ≡ 0) ⊎ ((r ≡ 0 → ⊥) × (cat.n ≤ t)) → true ≡ stray cat (every_with (record { table = t; row = r }))
met cat t r (inl z) = rw (eq-eqb r 0 z)
met cat t r (inr (h, o)) = rw (ne_eqb r 0 h, there_out cat t o, lt-ltb 0 r (omega (arith, h)))

pub returns-then-cat-x : goal.returns-then-cat-x
returns-then-cat-x c =
    let m = met c.args.tables.now.catalogue c.in-With.x.table c.in-With.x.row c.if-cat-x.either in
    rw c.in-With.is
    (elim c.if-x-eq0.branch [
      | then-x-eq0 w ↦ w.t-8-is ∙ eq-eqb _ _ w.if-x-eq0.true ∙ m
      | else-x-eq0 w ↦ w.t-8-is ∙ le-leb _ _ (⊎_elim (λ z. absurd (w.if-x-eq0.false z)) (λ p. p.1) c.if-cat-x.either) ∙ m
    ])

pub returns-else-cat-x : goal.returns-else-cat-x
unfolding rows_there
returns-else-cat-x c =
    let h = c.if-cat-x.false in
    rw (c.in-With.is, ne_eqb c.in-With.x.row 0 h.0, lt-ltb c.in-With.x.table c.args.tables.now.catalogue.n h.1) refl
