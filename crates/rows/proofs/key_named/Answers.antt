-- `rows::key_named` meets its contract. Invariant: the key names no missing row of the tables passed. Before the loop it was seen that some bit of it
-- is set and none is spare. Assumes nothing.
use Rattle.std.proofs.Common.{◌≡◌, eqb, sym, ap, ◌∙◌, arith, eqb-true, leb-true, leb-false}
use Rattle.std.proofs.lemmas.Bool.{eqb-false}
use Rattle.keys.specs.TwoWords.{number_of}
use Rattle.rows.proofs.NamedLaws.{named-zero, named-spare, named-bad, named-good}
use Rattle.rows.proofs.key_named.Goals.{After-same, then-same-via-then-same, then-same-via-else-same+then-has_spare}
use Rattle.rows.proofs.key_named.Goals as goal

-- The key of no row is the number 0.
empty : (c : After-same) → c.same.result ≡ eqb (number_of c.args.key) 0
empty c = c.same.ensures ∙ ap (eqb (number_of c.args.key)) c.none.ensures

pub returns-then-same : goal.returns-then-same
returns-then-same c =
    let cat = c.args.cat in
    elim c.then-same.branch [
      | then-same-via-then-same w ↦ sym (named-zero cat _ (eqb-true _ _ (sym (empty (goal.at.returns-then-same c).After-same) ∙ w.if-same.true)))
      | then-same-via-else-same+then-has_spare w ↦
          sym (named-spare cat _ c.requires.tables (leb-true _ _ (sym w.has_spare.ensures ∙ w.if-has_spare.true)))
    ]

pub returns-then-rows_there-row : goal.returns-then-rows_there-row
returns-then-rows_there-row c =
    sym (named-bad c.args.cat _ c.loop-t.t (rw (← c.rows_there.ensures, ← c.row.ensures) c.if-rows_there-row.true))

pub returns : goal.returns
returns c =
    let some = eqb-false _ _ (sym (empty (goal.at.returns c).After-same) ∙ c.if-same.false) in
    sym
    (named-good c.args.cat _ (omega (arith, some)) (leb-false _ _ (sym c.has_spare.ensures ∙ c.if-has_spare.false)) c.requires.tables
    (λ u b. c.loop-t.invariant u (omega arith)))
