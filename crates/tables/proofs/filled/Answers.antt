-- `tables::filled` meets its contract. Invariant: the sum is the cells of the tables below t, and these are entered in both lists. Assumes nothing.
use native.Mathlib.Omega.{arith}
use Prim.Native.Nat.{ℕ, ◌<◌}
use mathlib.Core.Path.{◌≡◌, refl, ap₂}
use mathlib.Core.List.{List}
use Rattle.tables.specs.declared.Catalogue.{Catalogue}
use Rattle.tables.specs.Sizes.{most_tables}
use Rattle.tables.specs.Catalogues.{first_cell, touching_of}
use Rattle.tables.proofs.CatalogueLaws.{cells-next, cells-mono, table-ends}
use Rattle.tables.proofs.StoredLaws.{entered-none, entered-next, entered_all}
use Rattle.tables.proofs.filled.Goals.{In-loop-t}
use Rattle.tables.proofs.filled.Goals as goal

-- The table is one of eight.
few : (c : In-loop-t) → c.loop-t.t < most_tables
few c = omega (arith, c.loop-t-test.true, c.requires.0)

pub loop-t-init : goal.loop-t-init
unfolding first_cell
loop-t-init c = (refl, entered-none _, entered-none _)

pub overflow_cast-places : goal.overflow_cast-places
overflow_cast-places c =
    let l = c.loop-t in
    omega (arith, l.invariant.0, cells-mono c.args.cat l.t c.args.cat.n (omega (arith, c.loop-t-test.true)), c.requires.1)

pub overflow_add-at : goal.overflow_add-at
overflow_add-at c =
    rw c.width.ensures (omega (arith, c.loop-t.invariant.0, table-ends c.args.cat c.loop-t.t c.loop-t-test.true, c.requires.1))

pub loop-t-preserved : goal.loop-t-preserved
loop-t-preserved c =
    let v = c.loop-t.invariant in
    let h = few (goal.at.loop-t-preserved c).In-loop-t in (
      rw (c.width.ensures, cells-next c.args.cat c.loop-t.t, ← v.0),
      entered-next (first_cell c.args.cat) c.loop-t.places c.loop-t.t c.loop-t.at h v.0 v.1,
      entered-next (touching_of c.args.cat) c.loop-t.touching c.loop-t.t _ h c.touching_of.ensures v.2,
    )

-- The catalogue with these two lists.
abbrev storing : Catalogue → List ℕ → List ℕ → Catalogue
storing cat places touching =
    record { m = cat.m; n = cat.n; schemes = cat.schemes; rows = cat.rows; places = places; touching = touching }

pub returns : goal.returns
returns c =
    let e : c.loop-t.t ≡ c.args.cat.n = omega arith in
    ap₂ (storing c.args.cat)
    (entered_all _ _ _ c.requires.0 (rw e at c.loop-t.invariant.1))
    (entered_all _ _ _ c.requires.0 (rw e at c.loop-t.invariant.2))
