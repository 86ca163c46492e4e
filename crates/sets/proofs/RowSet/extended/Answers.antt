-- `sets::RowSet::extended` meets its contract. Round loop: what is left to do from here is the whole extension (`Growing`), no row of a table that is not
-- live is ever added (`Shut`), and the tables that touch the set are in reach (`Reach`). Row walk: `Shut` while tables leave the live ones, so that fewer are
-- live with each table that is walked, and with each round. Assumes nothing.
use native.Mathlib.Omega.{arith}
use native.Mathlib.Numerals.{add-one}
use Prim.Native.Nat.{ℕ, suc, ◌+◌, ◌-◌, ◌*◌, ◌%◌, ◌^◌, ◌≤◌, ◌<◌}
use mathlib.Core.Path.{◌≡◌, sym, subst, ◌∙◌}
use mathlib.Core.Bool.{true}
use lib.ListN.{get_or}
use Rattle.std.proofs.Common.{unwrap_or}
use Rattle.laws.proofs.TestLaws.{and_split}
use Rattle.words.specs.Words.{bit_of}
use Rattle.words.proofs.WordLaws.{bit-and, less-lt, less-bit}
use Rattle.keys.specs.TwoWords.{number_of}
use Rattle.tables.specs.Catalogues.{count_of, rows_before}
use Rattle.tables.proofs.CatalogueLaws.{one_shl, rows_few}
use Rattle.disjunction.specs.Rule.{extension}
use Rattle.rows.specs.Named.{There}
use Rattle.rows.proofs.NamedLaws.{row_small}
use Rattle.walks.specs.Firsts.{FirstIn}
use Rattle.sets.specs.Promises.{Comes}
use Rattle.sets.specs.Layouts.{world, rows_of}
use Rattle.sets.proofs.MergedLaws.{gathered-add}
use Rattle.sets.proofs.LayoutLaws.{laid-small}
use Rattle.sets.proofs.ClosedLaws.{tested, shut-start, shut-walked, shut_grown, open-shares, open-first}
use Rattle.sets.proofs.Rounds.{most_tests, round-passed, round-over, growing-start, growing-few, one_more, growing-hit, growing-end}
use Rattle.sets.proofs.RowSet.extended.Goals.{After-first_fit, After-lowest-table, At-loop-live, In-Some, After-with_row-key}
use Rattle.sets.proofs.RowSet.extended.Goals as goal

-- the table is live and in reach
both : (a : After-lowest-table)
    → (bit_of a.loop-live.live a.lowest-table.result ≡ true) × (bit_of a.rounds.touch.reach a.lowest-table.result ≡ true)
both a =
    and_split _ _ (sym (bit-and a.loop-live.live a.rounds.touch.reach a.lowest-table.result) ∙ a.lowest-table.ensures.itself)

turn : (a : After-lowest-table) → a.lowest-table.result < a.args.self.now.layout.now.tables.catalogue.n
turn a = a.loop-live.invariant.0.tables _ (both a).0

-- the bit of the table
bit : (a : After-lowest-table) → 1 * 2 ^ a.lowest-table.result % 2 ^ 64 ≡ 2 ^ a.lowest-table.result
bit a = one_shl a.lowest-table.result (omega (arith, turn a, a.args.self.now.layout.now.tables.lawful.tables))

-- without it fewer are live
fewer : (a : After-lowest-table) → a.loop-live.live - 1 * 2 ^ a.lowest-table.result % 2 ^ 64 < a.loop-live.live
fewer a = rw (bit a) (less-lt _ _ (both a).0)

-- the tests of the rounds so far
few : (l : At-loop-live) → l.rounds.tests ≤ most_tests
few l =
    let t = l.args.self.now.layout.now.tables in
    growing-few t.catalogue t.cells.now _ t.lawful _ l.args.self.now.named _ _ _ _ l.rounds.invariant.growing

-- the answer is the first of its rows that the row test admits
looked : (f : After-first_fit)
    → FirstIn (count_of f.args.self.now.layout.now.tables.catalogue f.lowest-table.result)
    (tested f.args.self.now.layout.now.tables.catalogue f.args.self.now.layout.now.tables.cells.now (number_of f.rounds.key) f.lowest-table.result)
    (unwrap_or f.first_fit.result (count_of f.args.self.now.layout.now.tables.catalogue f.lowest-table.result))
looked f =
    let t = f.args.self.now.layout.now.tables in
    let v = f.rounds.invariant in
    let b = both (goal.at-After-first_fit f).After-lowest-table in
    let r = f.rows.ensures in
    open-first t.catalogue t.cells.now _ _ f.loop-live.invariant.0 _ t.lawful _ _ b.0 b.1 v.reach _ _ v.growing.merged _ _ r.base
    (rw (r.cells, r.scheme, r.count) at f.first_fit.ensures.first)

-- a row that was found is the first, and it is there
found : (i : In-Some)
    → FirstIn (count_of i.args.self.now.layout.now.tables.catalogue i.lowest-table.result)
    (tested i.args.self.now.layout.now.tables.catalogue i.args.self.now.layout.now.tables.cells.now (number_of i.rounds.key) i.lowest-table.result) i.in-Some.i
found i = rw i.in-Some.is at (looked (goal.at-In-Some i).After-first_fit)

high : (i : In-Some) → i.in-Some.i < count_of i.args.self.now.layout.now.tables.catalogue i.lowest-table.result
high i = omega (arith, i.in-Some.ensures.there, i.rows.ensures.count)

there : (i : In-Some) → There i.args.self.now.layout.now.tables.catalogue i.lowest-table.result (i.in-Some.i + 1)
there i = record { table = turn (goal.at-In-Some i).After-lowest-table; low = omega arith; high = omega (arith, high i) }

pub rounds-init : goal.rounds-init
rounds-init c =
    let s = c.args.self.now in
    let t = s.layout.now.tables in
    record {
      growing = growing-start _ _ _ t.lawful _ s.named _ _ c.share.ensures.merged;
      shut = shut-start _ _ _ _ _ (one_shl _ (omega (arith, t.lawful.tables))) s.members;
      reach = c.share.ensures.reach;
    }

pub overflow_sub-live-in-loop-live : goal.overflow_sub-live-in-loop-live
overflow_sub-live-in-loop-live c = rw (bit (goal.at.overflow_sub-live-in-loop-live c).After-lowest-table) (less-bit _ _ (both (goal.at.overflow_sub-live-in-loop-live c).After-lowest-table).0).0

pub rows-requires : goal.rows-requires
rows-requires c = turn (goal.at.rows-requires c).After-lowest-table

pub first_fit-requires : goal.first_fit-requires
first_fit-requires c =
    let t = c.args.self.now.layout.now.tables in
    let v = c.rounds.invariant in
    let b = both (goal.at.first_fit-requires c).After-lowest-table in
    let n = open-shares t.catalogue t.cells.now _ _ c.loop-live.invariant.0 _ t.lawful _ _ b.0 b.1 v.reach _ _ v.growing.merged in
    rw c.rows.ensures.scheme (omega (arith, n))

pub loop-live-preserved : goal.loop-live-preserved
loop-live-preserved c =
    let t = c.args.self.now.layout.now.tables in
    let a = (goal.at.loop-live-preserved c).After-lowest-table in
    let b = both a in (
      shut-walked t.catalogue t.cells.now _ _ c.loop-live.invariant.0 _ t.lawful _ _ _ c.rounds.invariant.reach b.0 b.1
          (rw c.in_default.is at (looked (goal.at.loop-live-preserved c).After-first_fit)) (omega arith) _ (bit a),
      omega (arith, fewer a, c.loop-live.invariant.1),
    )

pub add-requires : goal.add-requires
add-requires c = there (goal.at.add-requires c).In-Some

pub with_row-key-requires : goal.with_row-key-requires
with_row-key-requires c =
    let t = c.args.self.now.layout.now.tables in
    (omega (arith, turn (goal.at.with_row-key-requires c).After-lowest-table, t.lawful.tables), row_small _ _ t.lawful _ _ (there (goal.at.with_row-key-requires c).In-Some))

pub overflow_add-tests-in-rounds : goal.overflow_add-tests-in-rounds
overflow_add-tests-in-rounds c =
    let s = c.args.self.now.layout.now in
    let t = s.tables in
    omega (
      arith,
      few (goal.at.overflow_add-tests-in-rounds c).At-loop-live,
      laid-small t.catalogue _ t.lawful t.cells.now _ s.laid_out _ (turn (goal.at.overflow_add-tests-in-rounds c).After-lowest-table),
      high (goal.at.overflow_add-tests-in-rounds c).In-Some,
      t.lawful.rows _ (turn (goal.at.overflow_add-tests-in-rounds c).After-lowest-table),
    )

pub rounds-preserved : goal.rounds-preserved
rounds-preserved c =
    let s = c.args.self.now in
    let t = s.layout.now.tables in
    let v = c.rounds.invariant in
    let a = (goal.at.rounds-preserved c).After-lowest-table in
    let w = (goal.at.rounds-preserved c).In-Some in
    let S = c.loop-live.invariant.0 in
    let o = add-one c.in-Some.i in
    let z : c.rounds.tests + (get_or s.layout.now.measures.before c.lowest-table.result 0 + suc c.in-Some.i)
    ≡ c.rounds.tests + (rows_before t.catalogue c.lowest-table.result + suc c.in-Some.i) = omega (arith, s.layout.now.laid_out.before _ (turn a)) in
    let n = one_more _ t.cells.now _ t.lawful _ s.named _ _ _ _ _ _ v.growing (turn a) (found w) (high w) in
    rw (c.with_row-key.ensures, c.add.ensures.reach, o, z)
    (record {
      growing = growing-hit _ t.cells.now _ t.lawful _ s.named _ _ _ _ _ _ v.growing (turn a) (found w) (high w) _
          (round-passed _ _ _ t.lawful _ _ _ S v.reach _ _ (turn a) c.lowest-table.ensures) _ _ (rw o at c.add.ensures.merged);
      shut = shut_grown t.catalogue t.cells.now _ _ S _ _ (both a).0 n _ (bit a);
      reach = gathered-add _ _ _ _ _ _ n v.reach;
    })

pub overflow_add-result : goal.overflow_add-result
overflow_add-result c =
    let s = c.args.self.now.layout.now in
    let t = s.tables in
    omega (arith, few (goal.at.overflow_add-result c).At-loop-live, s.laid_out.all, rows_few t.catalogue _ t.lawful t.catalogue.n (omega arith))

pub returns : goal.returns
returns c =
    let s = c.args.self.now in
    let t = s.layout.now.tables in
    let r = c.rounds in
    let z : r.tests + rows_before t.catalogue t.catalogue.n ≡ r.tests + s.layout.now.measures.total = omega (arith, s.layout.now.laid_out.all) in
    subst (λ (x : ℕ). Comes t.catalogue (extension (world s.layout.now) (rows_of s)) (number_of r.key) x) z
    (growing-end _ _ _ t.lawful _ s.named _ _ _ _ _ r.invariant.growing
    (round-over _ _ _ t.lawful _ _ _ c.loop-live.invariant.0 r.invariant.reach c.if-live-touch-eq0.true))
