-- `hub::gives_back` meets its contract: the trial of the row comes to the key again, or it does not. Assumes nothing.
use borrow.Author.Tests.{eq-eqb}
use native.Mathlib.Omega.{arith}
use mathlib.Core.Path.{refl, sym, ◌∙◌}
use Rattle.store.proofs.LentLaws.{same-as}
use Rattle.hub.proofs.JudgingLaws.{gives_none, gives-tried}
use Rattle.hub.proofs.gives_back.Goals as goal

pub returns-then-row-eq0 : goal.returns-then-row-eq0
returns-then-row-eq0 c =
    let z = c.if-row-eq0.true in
    eq-eqb _ _ z ∙ sym (gives_none _ _ _ c.args.layout.now.tables.lawful _ _ c.requires.1 (sym c.row-row.ensures ∙ z))

pub trial-requires : goal.trial-requires
trial-requires c =
    let p = c.requires in
    let e = c.row-row.ensures in
    (p.0, record { table = p.1; low = omega (arith, c.if-row-eq0.false); high = rw e (p.0.rows _ p.1) })

pub returns-else-row-eq0 : goal.returns-else-row-eq0
returns-else-row-eq0 c =
    let p = c.requires in
    let e = c.row-row.ensures in
    same-as c.trial.result.key c.args.key (omega arith) (omega arith) refl c.eq.ensures
    ∙ sym (gives-tried _ _ _ c.args.layout.now.tables.lawful _ _ p.0 p.1 _ _ (rw e at c.trial.ensures) (omega (arith, e, c.if-row-eq0.false)))
