-- `sets::RowSet::piece` meets its contract. Invariant: the set without the tables that are left is a connected part of it that holds the row (`Joining`);
-- each turn takes a table from those that are left. Assumes nothing.
use native.Mathlib.Omega.{arith}
use Prim.Native.Nat.{◌*◌, ◌%◌, ◌^◌, ◌<◌}
use mathlib.Core.Path.{◌≡◌, refl, sym, ◌∙◌}
use mathlib.Core.Logic.{⊎_elim}
use mathlib.Core.Bool.{true}
use mathlib.Core.List.{[]}
use lib.ListN.{length}
use Rattle.laws.proofs.TestLaws.{which, and_split}
use Rattle.words.specs.Words.{bit_of}
use Rattle.words.proofs.WordLaws.{bit-and, less-lt, less-bit}
use Rattle.keys.specs.Keys.{bits_per_row}
use Rattle.keys.specs.TwoWords.{number_of}
use Rattle.keys.proofs.SetLaws.{in-length}
use Rattle.tables.proofs.CatalogueLaws.{one_shl}
use Rattle.disjunction.specs.Sets.{at}
use Rattle.disjunction.proofs.RowSets.{member-table}
use Rattle.rows.specs.World.{world_of}
use Rattle.rows.specs.Named.{There}
use Rattle.sets.specs.Layouts.{rows_of}
use Rattle.sets.proofs.LackingLaws.{tables-of, lacking-out}
use Rattle.sets.proofs.Joining.{join-start, join-next, join-end}
use Rattle.sets.proofs.RowSet.piece.Goals.{After-lowest-u, After-loop-left, Start}
use Rattle.sets.proofs.RowSet.piece.Goals as goal

-- the row of x's table is in the set
has : (s : Start) → bit_of s.args.self.now.tables s.args.x.table ≡ true
has s = let set = s.args.self.now in tables-of (rows_of set) _ set.members _ (rw s.requires.here s.requires.there.low)

-- and its bit is there
bit : (s : Start) → 1 * 2 ^ s.args.x.table % 2 ^ 64 ≡ 2 ^ s.args.x.table
bit s = one_shl s.args.x.table (omega (arith, s.requires.there.table, s.args.self.now.layout.now.tables.lawful.tables))

long : (s : Start) → length (rows_of s.args.self.now) ≡ s.args.self.now.layout.now.tables.catalogue.n
long s = in-length bits_per_row _ (number_of s.args.self.now.key)

-- x is there, as the set has it
there : (s : Start) → There s.args.self.now.layout.now.tables.catalogue s.args.x.table (at (rows_of s.args.self.now) s.args.x.table)
there s = rw s.requires.here s.requires.there

pub overflow_sub-left : goal.overflow_sub-left
overflow_sub-left c = rw (bit (goal.at.overflow_sub-left c).Start) (less-bit _ _ (has (goal.at.overflow_sub-left c).Start)).0

pub loop-left-init : goal.loop-left-init
loop-left-init c =
    let s = c.args.self.now in
    join-start _ _ s.layout.now.tables.lawful (rows_of s) (long (goal.at.loop-left-init c).Start) _ (there (goal.at.loop-left-init c).Start) refl _ s.members _ (bit (goal.at.loop-left-init c).Start)

-- the table that joins is one of those left
left : (a : After-lowest-u) → bit_of a.loop-left.left a.lowest-u.result ≡ true
left a = (and_split _ _ (sym (bit-and a.loop-left.left a.loop-left.reach a.lowest-u.result) ∙ a.lowest-u.ensures.itself)).0

turn : (a : After-lowest-u) → a.lowest-u.result < a.args.self.now.layout.now.tables.catalogue.n
turn a =
    let s = a.args.self.now in
    member-table (world_of s.layout.now.tables.catalogue []) (rows_of s) (long (goal.at-After-lowest-u a).Start) _ (a.loop-left.invariant.within _ (left a))

bit-2 : (a : After-lowest-u) → 1 * 2 ^ a.lowest-u.result % 2 ^ 64 ≡ 2 ^ a.lowest-u.result
bit-2 a = one_shl _ (omega (arith, turn a, a.args.self.now.layout.now.tables.lawful.tables))

pub overflow_shl-left-in-loop-left : goal.overflow_shl-left-in-loop-left
overflow_shl-left-in-loop-left c = omega (arith, turn c, c.args.self.now.layout.now.tables.lawful.tables)

pub overflow_sub-left-in-loop-left : goal.overflow_sub-left-in-loop-left
overflow_sub-left-in-loop-left c = rw (bit-2 c) (less-bit _ _ (left c)).0

pub bounds-touching-u : goal.bounds-touching-u
bounds-touching-u c = let a = (goal.at.bounds-touching-u c).After-lowest-u in omega (arith, turn a, a.args.self.now.layout.now.tables.lawful.tables)

pub loop-left-smaller : goal.loop-left-smaller
loop-left-smaller c = rw (bit-2 (goal.at.loop-left-smaller c).After-lowest-u) (less-lt _ _ (left (goal.at.loop-left-smaller c).After-lowest-u))

pub loop-left-preserved : goal.loop-left-preserved
loop-left-preserved c =
    let s = c.args.self.now in
    join-next _ _ s.layout.now.tables.lawful (rows_of s) (long (goal.at.loop-left-preserved c).Start) _ (there (goal.at.loop-left-preserved c).Start) refl _ _ c.loop-left.invariant _ _ c.lowest-u.ensures.itself (bit-2 (goal.at.loop-left-preserved c).After-lowest-u)

-- what is left are tables of the set
pub without-requires-clause-own : goal.without-requires-clause-own
without-requires-clause-own c u b = let s = c.args.self.now in tables-of (rows_of s) _ s.members _ (c.loop-left.invariant.within u b)

-- and the row of x stays
pub without-requires-clause-stays : goal.without-requires-clause-stays
without-requires-clause-stays c =
    let x = c.args.x.table in (
      x,
      has (goal.at.without-requires-clause-stays c).Start,
      ⊎_elim
          (λ b. absurd (omega (arith, (c.loop-left.invariant.share []).has, lacking-out (rows_of c.args.self.now) c.loop-left.left x b)))
          (λ f. f)
          (which (bit_of c.loop-left.left x)),
    )

pub returns-clause-rows : goal.returns-clause-rows
returns-clause-rows c =
    let s = c.args.self.now in
    let t = s.layout.now.tables in
    rw (← c.requires.here)
    (c.without.ensures.rows
    ∙ join-end _ _ t.lawful (rows_of s) (long (goal.at.returns-clause-rows c).Start) _ (there (goal.at.returns-clause-rows c).Start) refl _ _ c.loop-left.invariant c.loop-left-test.false t.cells.now)
