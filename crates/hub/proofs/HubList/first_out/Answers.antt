-- `hub::HubList::first_out` meets its contract: each trial leads to a listed set (`tries-on`) or out of the list (`tries-out`). Assumes nothing.
use native.Mathlib.Omega.{arith}
use Prim.Native.Nat.{ℕ, ◌<◌}
use mathlib.Core.Path.{◌≡◌, sym, ap, ◌∙◌}
use mathlib.Core.Bool.{Bool, true, false}
use lib.ListN.{length}
use Rattle.keys.specs.Keys.{bits_per_row, key_of}
use Rattle.keys.specs.TwoWords.{number_of}
use Rattle.tables.specs.Catalogues.{total}
use Rattle.disjunction.specs.Rule.{Place, row_at, trial}
use Rattle.rows.specs.World.{set_of}
use Rattle.rows.proofs.WorldLaws.{row-place}
use Rattle.rows.proofs.NamedLaws.{place-there}
use Rattle.hub.specs.Answers.{Missing}
use Rattle.hub.specs.Promises.{answer_of}
use Rattle.hub.specs.Searching.{world_in, listed_in, among}
use Rattle.hub.proofs.JudgingLaws.{number-whole, row_low, tries-on, tries-out, tries-end}
use Rattle.hub.proofs.HubList.first_out.Goals.{After-reached_by-to}
use Rattle.hub.proofs.HubList.first_out.Goals as goal

pub reached_by-to-requires : goal.reached_by-to-requires
reached_by-to-requires c =
    let t = c.args.self.now.layout.now.tables in
    let l : c.loop-j.j < total t.catalogue = omega (arith, c.args.self.now.layout.now.laid_out.all, c.loop-j-test.true) in
    (c.requires.1, rw c.row_at-row.ensures (place-there t.catalogue t.cells.now _ l), c.requires.2)

-- The row at place j is there,
low : (c : After-reached_by-to) → c.loop-j.j < total c.args.self.now.layout.now.tables.catalogue
low c = omega (arith, c.args.self.now.layout.now.laid_out.all, c.loop-j-test.true)

-- and its trial comes to this key.
comes : (c : After-reached_by-to)
    → let l = c.args.self.now.layout.now in
    number_of c.reached_by-to.result ≡ key_of bits_per_row (trial (world_in l) (set_of l.tables.catalogue (number_of c.args.key)) (row_at (world_in l) c.loop-j.j)).rows
comes c =
    let l = c.args.self.now.layout.now in
    (rw c.row_at-row.ensures at c.reached_by-to.ensures)
    ∙ ap (λ (p : Place). key_of bits_per_row (trial (world_in l) (set_of l.tables.catalogue (number_of c.args.key)) p).rows) (sym (row-place l.tables.catalogue l.tables.cells.now _ (low c)))

pub has-requires : goal.has-requires
has-requires c =
    let s = c.args.self.now in
    let b = (goal.at.has-requires c).After-reached_by-to in
    row_low s.layout.now.tables.catalogue s.layout.now.tables.cells.now _ s.layout.now.tables.lawful (listed_in s.keys) c.requires.3 _ c.requires.2 _ _ (low b) (comes b)

-- It is sought among all entries.
sought : (c : After-reached_by-to) (r : Bool) → r ≡ among (listed_in c.args.self.now.keys) c.args.self.now.entered (number_of c.reached_by-to.result)
    → among (listed_in c.args.self.now.keys) (length (listed_in c.args.self.now.keys)) (number_of c.reached_by-to.result) ≡ r
sought c r e =
    let s = c.args.self.now in
    ap (λ (k : ℕ). among (listed_in s.keys) k (number_of c.reached_by-to.result)) (sym (c.requires.0 ∙ s.counted)) ∙ sym e

pub returns-then-not-has : goal.returns-then-not-has
returns-then-not-has c =
    let s = c.args.self.now in
    let t = s.layout.now.tables in
    let b = (goal.at.returns-then-not-has c).After-reached_by-to in
    sym
    (ap answer_of c.loop-j.invariant
    ∙ tries-out t.catalogue t.cells.now _ t.lawful (listed_in s.keys) c.requires.3 _ c.requires.2 _ _ (low b) (comes b)
    (sought b false (sym c.if-not-has.true ∙ c.has.ensures))
    ∙ ap Missing (number-whole c.reached_by-to.result (omega arith)))

pub loop-j-preserved : goal.loop-j-preserved
loop-j-preserved c =
    let s = c.args.self.now in
    let t = s.layout.now.tables in
    let b = (goal.at.loop-j-preserved c).After-reached_by-to in
    c.loop-j.invariant
    ∙ tries-on t.catalogue t.cells.now _ t.lawful (listed_in s.keys) c.requires.3 _ c.requires.2 _ _ (low b) (comes b)
    (sought b true (sym c.if-not-has.false ∙ c.has.ensures))

pub returns : goal.returns
returns c =
    let s = c.args.self.now in
    let t = s.layout.now.tables in
    let n = s.layout.now.laid_out.all in
    sym
    (ap answer_of
    (c.loop-j.invariant
    ∙ tries-end t.catalogue t.cells.now _ t.lawful (listed_in s.keys) c.requires.3 (set_of t.catalogue (number_of c.args.key)) c.requires.2 c.loop-j.j (omega (arith, n, c.loop-j-test.false)) (omega (arith, n, c.loop-j.auto.j-end))))
