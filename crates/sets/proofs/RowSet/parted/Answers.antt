-- `sets::RowSet::parted` meets its contract. Invariant: of the tables that are not left, the mask has those whose row has to go (`Parting`). Assumes nothing.
use native.Mathlib.Omega.{arith}
use Prim.Native.Nat.{◌-◌, ◌*◌, ◌%◌, ◌^◌, ◌<◌}
use mathlib.Core.Path.{◌≡◌, sym, ap, ◌∙◌}
use mathlib.Core.Bool.{true, not}
use lib.ListN.{length}
use lib.Bits.{bit_and}
use Rattle.laws.proofs.TestLaws.{and_split}
use Rattle.words.specs.Words.{bit_of}
use Rattle.words.proofs.WordLaws.{bit-and}
use Rattle.keys.specs.Keys.{bits_per_row}
use Rattle.keys.specs.TwoWords.{number_of}
use Rattle.keys.proofs.SetLaws.{in-length}
use Rattle.tables.specs.Catalogues.{scheme_of, row_start, mask_in}
use Rattle.tables.proofs.CatalogueLaws.{one_shl}
use Rattle.disjunction.specs.Sets.{at}
use Rattle.rows.specs.World.{place_of}
use Rattle.walks.specs.Merged.{Merged, matches, row_in, only}
use Rattle.sets.specs.Layouts.{rows_of}
use Rattle.sets.proofs.RowTestLaws.{start_of}
use Rattle.sets.proofs.Dropping.{merged-one, near-table, parting-start, parting-goes, parting-stays, parting-end}
use Rattle.sets.proofs.RowSet.parted.Goals.{After-fits, In-Some, Start}
use Rattle.sets.proofs.RowSet.parted.Goals as goal

-- how long the set is
long : (s : Start) → length (rows_of s.args.self.now) ≡ s.args.self.now.layout.now.tables.catalogue.n
long s = in-length bits_per_row _ (number_of s.args.self.now.key)

pub loop-u-init : goal.loop-u-init
loop-u-init c =
    let s = c.args.self.now in
    let t = s.layout.now.tables in
    rw (c.into_iter-u-iterator.ensures.into_iter_gives, c.bits-u-items.ensures)
    (parting-start _ _ _ t.lawful (rows_of s) (long (goal.at.loop-u-init c).Start) (place_of c.args.x) c.requires _ s.members)

-- the table that is asked is one of the set's
near : (a : In-Some) → bit_of (bit_and a.args.self.now.tables (mask_in a.args.self.now.layout.now.tables.catalogue a.args.x.table)) a.in-Some.u ≡ true
near a = a.loop-u.invariant.under _ a.in-Some.ensures.steps.0.itself

turn : (a : In-Some) → a.in-Some.u < a.args.self.now.layout.now.tables.catalogue.n
turn a =
    let s = a.args.self.now in
    let t = s.layout.now.tables in
    near-table t.catalogue t.cells.now _ t.lawful (rows_of s) (long (goal.at-In-Some a).Start) (place_of a.args.x) a.requires _ s.members _ (near a)

pub rows-requires-in-loop-u : goal.rows-requires-in-loop-u
rows-requires-in-loop-u c = turn c

pub row-requires : goal.row-requires
row-requires c = (and_split _ _ (sym (bit-and _ _ c.in-Some.u) ∙ near (goal.at.row-requires c).In-Some)).0

-- the bit of the table
bit : (a : In-Some) → 1 * 2 ^ a.in-Some.u % 2 ^ 64 ≡ 2 ^ a.in-Some.u
bit a = one_shl _ (omega (arith, turn a, a.args.self.now.layout.now.tables.lawful.tables))

-- what the comparison says of its row
fitted : (f : After-fits) → f.fits.result
    ≡ matches f.args.self.now.layout.now.tables.cells.now (scheme_of f.args.self.now.layout.now.tables.catalogue f.in-Some.u)
    (row_in f.rows-in-loop-u.result.base (scheme_of f.args.self.now.layout.now.tables.catalogue f.in-Some.u) (f.row.result.row - 1))
    (bit_and (scheme_of f.args.self.now.layout.now.tables.catalogue f.in-Some.u) f.add.new.self.attrs) f.add.new.self.codes
fitted f = rw (f.rows-in-loop-u.ensures.cells, f.rows-in-loop-u.ensures.scheme) at f.fits.ensures

begins : (f : After-fits) → row_in f.rows-in-loop-u.result.base (scheme_of f.args.self.now.layout.now.tables.catalogue f.in-Some.u) (f.row.result.row - 1)
    ≡ row_start f.args.self.now.layout.now.tables.catalogue f.in-Some.u (at (rows_of f.args.self.now) f.in-Some.u)
begins f =
    let cat = f.args.self.now.layout.now.tables.catalogue in
    start_of cat f.in-Some.u f.row.result.row _ f.rows-in-loop-u.ensures.base ∙ ap (row_start cat f.in-Some.u) f.row.ensures.1

-- the merged row is that of x alone
alone : (f : After-fits) → Merged f.args.self.now.layout.now.tables.catalogue f.args.self.now.layout.now.tables.cells.now (only f.args.x.table f.args.x.row)
    f.add.new.self.codes f.add.new.self.attrs
alone f =
    let t = f.args.self.now.layout.now.tables in
    let r = f.rows.ensures in
    merged-one t.catalogue t.cells.now _ t.lawful f.args.x.table f.args.x.row _ _ _ f.requires f.empty-merged.result.long
    (rw (r.cells, r.scheme, start_of t.catalogue f.args.x.table f.args.x.row _ r.base, f.empty-merged.ensures) at f.add.ensures)

pub loop-u-preserved-then-not-fits : goal.loop-u-preserved-then-not-fits
loop-u-preserved-then-not-fits c =
    let s = c.args.self.now in
    let f = (goal.at.loop-u-preserved-then-not-fits c).After-fits in
    rw c.in-Some.ensures.steps.1
    (parting-goes _ _ _ s.layout.now.tables.lawful (rows_of s) (long (goal.at.loop-u-preserved-then-not-fits c).Start) (place_of c.args.x) c.requires _ s.members _ _
    c.loop-u.invariant _ c.in-Some.ensures.steps.0.itself _ _ (alone f) _ (begins f) (ap not (sym (fitted f) ∙ c.if-not-fits.true)) _
    (bit (goal.at.loop-u-preserved-then-not-fits c).In-Some))

pub loop-u-preserved : goal.loop-u-preserved
loop-u-preserved c =
    let s = c.args.self.now in
    let f = (goal.at.loop-u-preserved c).After-fits in
    rw c.in-Some.ensures.steps.1
    (parting-stays _ _ _ s.layout.now.tables.lawful (rows_of s) (long (goal.at.loop-u-preserved c).Start) (place_of c.args.x) c.requires _ s.members _ _
    c.loop-u.invariant _ c.in-Some.ensures.steps.0.itself _ _ (alone f) _ (begins f) (ap not (sym (fitted f) ∙ c.if-not-fits.false)))

pub returns : goal.returns
returns c =
    let s = c.args.self.now in
    let t = s.layout.now.tables in
    parting-end t.catalogue t.cells.now _ t.lawful (rows_of s) (long (goal.at.returns c).Start) (place_of c.args.x) c.requires _ s.members _
    (rw c.in-None.ensures.steps.0 at c.loop-u.invariant)
