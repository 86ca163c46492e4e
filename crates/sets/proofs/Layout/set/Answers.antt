-- `sets::Layout::set` meets its contract. Invariant: the mask has the tables below u that have a row in the key. Assumes nothing.
use native.Mathlib.Omega.{arith}
use mathlib.Core.Path.{sym, ◌∙◌}
use Rattle.keys.specs.Keys.{bits_per_row}
use Rattle.keys.specs.TwoWords.{number_of}
use Rattle.keys.proofs.SetLaws.{in-at, in-past}
use Rattle.tables.proofs.CatalogueLaws.{one_shl}
use Rattle.sets.proofs.LackingLaws.{marked-none, marked_row, marked-skip, marked-end}
use Rattle.sets.proofs.Layout.set.Goals.{then-row-ne0, else-row-ne0}
use Rattle.sets.proofs.Layout.set.Goals as goal

pub loop-u-init : goal.loop-u-init
loop-u-init c = marked-none _

pub loop-u-preserved : goal.loop-u-preserved
loop-u-preserved c =
    let t = c.args.self.now.tables in
    let b = c.loop-u-test.true in
    let own = in-at bits_per_row t.catalogue.n (number_of c.args.key) c.loop-u.u b ∙ sym c.row.ensures in
    elim c.if-row-ne0.branch [
      | then-row-ne0 w ↦
          rw w.tables-is
          (marked_row _ _ c.loop-u.u c.loop-u.invariant (omega (arith, own, w.if-row-ne0.true)) _ (one_shl c.loop-u.u (omega (arith, b, t.lawful.tables))))
      | else-row-ne0 w ↦ rw w.tables-is (marked-skip _ _ c.loop-u.u c.loop-u.invariant (own ∙ w.if-row-ne0.false))
    ]

pub invariant_of-result : goal.invariant_of-result
invariant_of-result c =
    let n = c.args.self.now.tables.catalogue.n in
    record {
      named = c.requires;
      members = marked-end _ _ c.loop-u.u c.loop-u.invariant (λ v h. in-past bits_per_row n (number_of c.args.key) v (omega (arith, h)));
    }
