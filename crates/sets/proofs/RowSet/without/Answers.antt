-- `sets::RowSet::without` meets its contract. Invariant: the key has no row of the tables passed, and the others as they were (`Leaving`). Assumes nothing.
use native.Mathlib.Omega.{arith}
use Prim.Native.Nat.{ℕ, ◌<◌}
use mathlib.Core.Path.{◌≡◌, refl}
use mathlib.Core.Bool.{true}
use lib.Bits.{bit_xor}
use lib.Pow.{pow_pos}
use Rattle.words.specs.Words.{bit_of}
use Rattle.keys.specs.Keys.{bits_per_row}
use Rattle.keys.specs.TwoWords.{number_of}
use Rattle.keys.proofs.SetLaws.{in-length}
use Rattle.sets.specs.Promises.{SetFor, lacking}
use Rattle.sets.proofs.LackingLaws.{tables-has, tables-lt}
use Rattle.sets.specs.Layouts.{rows_of}
use Rattle.sets.proofs.Leavings.{leaving-start, leaving-next, leaving-end, left-named}
use Rattle.sets.proofs.MaskLaws.{without-under}
use Rattle.sets.proofs.RowSet.without.Goals.{Start, In-None}
use Rattle.sets.proofs.RowSet.without.Goals as goal

-- the set as it is
own : (s : Start) → SetFor s.args.self.now.layout.now.tables.catalogue (rows_of s.args.self.now) (number_of s.args.self.now.key) s.args.self.now.tables
own s = record { low = s.args.self.now.named.low; rows = refl; tables = s.args.self.now.members }

-- a table of the mask is there
turn : (s : Start) (u : ℕ) → bit_of s.args.self.now.tables u ≡ true → u < s.args.self.now.layout.now.tables.catalogue.n
turn s u b =
    let set = s.args.self.now in
    rw (in-length bits_per_row set.layout.now.tables.catalogue.n (number_of set.key)) at (tables-lt (rows_of set) _ set.members u b)

pub loop-u-init : goal.loop-u-init
loop-u-init c =
    rw (c.into_iter-u-iterator.ensures.into_iter_gives, c.bits-u-items.ensures)
    (λ u b. b, leaving-start _ _ _ _ (own (goal.at.loop-u-init c).Start) _)

pub with_row-key-requires : goal.with_row-key-requires
with_row-key-requires c =
    (omega (arith, turn (goal.at.with_row-key-requires c).Start _ (c.requires.own _ (c.loop-u.invariant.0 _ c.in-Some.ensures.steps.0.itself)), c.args.self.now.layout.now.tables.lawful.tables), pow_pos bits_per_row)

pub loop-u-preserved : goal.loop-u-preserved
loop-u-preserved c =
    let b = c.in-Some.ensures.steps.0.itself in
    rw (c.in-Some.ensures.steps.1) (
      λ u d. c.loop-u.invariant.0 u (without-under _ _ b u d),
      leaving-next _ _ _ _ (own (goal.at.loop-u-preserved c).Start) _ c.requires.own _ _ c.loop-u.invariant.1 _ (c.loop-u.invariant.0 _ b) b _ c.with_row-key.ensures,
    )

-- what is left
less : (c : In-None) → SetFor c.args.self.now.layout.now.tables.catalogue (lacking (rows_of c.args.self.now) c.args.gone) (number_of c.loop-u.key)
    (bit_xor c.args.self.now.tables c.args.gone)
less c =
    leaving-end _ _ _ _ (own (goal.at-In-None c).Start) _ c.requires.own _ _ c.loop-u.invariant.1 c.in-None.ensures.steps.0

pub invariant_of-result : goal.invariant_of-result
invariant_of-result c =
    let s = c.args.self.now in
    let S = less c in
    let (u, b, f) = c.requires.stays in
    record {
      named = left-named _ _ _ c.args.gone _ s.named S u (turn (goal.at.invariant_of-result c).Start u b) (tables-has (rows_of s) _ s.members u b) f;
      members = rw S.rows S.tables;
    }

pub returns-clause-rows : goal.returns-clause-rows
returns-clause-rows c = (less (goal.at.returns-clause-rows c).In-None).rows
