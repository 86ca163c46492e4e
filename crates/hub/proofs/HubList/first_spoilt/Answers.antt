-- `hub::HubList::first_spoilt` meets its contract: an entry is spoilt where its set is not maximal or it repeats an earlier one. Assumes nothing.
use borrow.Author.Count.{below_more}
use native.Mathlib.Omega.{arith}
use Prim.Native.Nat.{ℕ, ◌+◌, ◌<◌}
use mathlib.Core.Bool.{Bool, true, false}
use mathlib.Core.Path.{◌≡◌, sym, ap, ◌∙◌}
use lib.ListN.{length, get_or}
use Rattle.keys.specs.TwoWords.{number_of}
use Rattle.store.specs.declared.Keys.{Keys}
use Rattle.disjunction.specs.Standing.{standing}
use Rattle.laws.proofs.TestLaws.{lowest-none, lowest-at}
use Rattle.hub.specs.declared.HubList.{HubList}
use Rattle.hub.specs.Verdicts.{spoilt}
use Rattle.hub.specs.Promises.{word_set}
use Rattle.hub.specs.Searching.{world_in, listed_in, sets_in, among}
use Rattle.hub.proofs.TreeLaws.{key-own, keys-both}
use Rattle.hub.proofs.JudgingLaws.{standing-named, spoilt-lost, spoilt-new}
use Rattle.hub.proofs.HubList.first_spoilt.Goals.{After-is_maximal, then-not-is_maximal-via-then-not-is_maximal, then-not-is_maximal-via-else-not-is_maximal+then-enter}
use Rattle.hub.proofs.HubList.first_spoilt.Goals as goal

-- The same list has the same length.
count : (s t : HubList) → s.keys ≡ t.keys → s.count ≡ t.count
count s t e = s.counted ∙ ap (λ (k : Keys). length (listed_in k)) e ∙ sym t.counted

pub at-requires : goal.at-requires
at-requires c =
    keys-both _ _ _ (omega (arith, c.loop-i-test.true, c.loop-i.self.counted, count c.loop-i.self c.args.self.now c.loop-i.invariant.keys))

-- The entry at hand is listed, and its key is the list's.
there : (c : After-is_maximal) → c.loop-i.i < length (listed_in c.args.self.now.keys)
there c = omega (arith, c.loop-i-test.true, c.args.self.now.counted)

own : (c : After-is_maximal) → number_of c.at.result ≡ get_or (listed_in c.args.self.now.keys) c.loop-i.i 0
own c =
    key-own c.args.self.now.keys.low.now c.args.self.now.keys.high.now c.loop-i.i (there c) (rw c.loop-i.invariant.keys at c.at.ensures)

-- Whether its set is maximal,
stands : (c : After-is_maximal) → c.is_maximal.result
    ≡ standing (world_in c.args.self.now.layout.now) (word_set c.args.self.now.layout.now.tables.catalogue (get_or (listed_in c.args.self.now.keys) c.loop-i.i 0))
stands c = rw (c.loop-i.invariant.layout, own c) at c.is_maximal.ensures

pub enter-requires : goal.enter-requires
enter-requires c =
    let s = c.loop-i.self in
    let t = s.layout.now.tables in
    let i = c.loop-i.invariant.entered in (
      omega (arith, c.loop-i-test.true, i, count s c.args.self.now c.loop-i.invariant.keys),
      rw (i, c.loop-i.invariant.keys, ← own (goal.at.enter-requires c).After-is_maximal)
          (standing-named t.catalogue t.cells.now _ t.lawful _ (sym c.is_maximal.ensures ∙ c.if-not-is_maximal.false)).low,
    )

-- and then whether it repeats an earlier one.
repeats : (c : After-is_maximal) (r : Bool) → c.is_maximal.result ≡ true
    → r ≡ among (listed_in c.loop-i.self.keys) c.loop-i.self.entered (get_or (listed_in c.loop-i.self.keys) c.loop-i.self.entered 0)
    → spoilt (world_in c.args.self.now.layout.now) (sets_in c.args.self.now.layout.now c.args.self.now.keys) c.loop-i.i ≡ r
repeats c r y e =
    let s = c.args.self.now in
    let t = s.layout.now.tables in
    spoilt-new t.catalogue t.cells.now _ t.lawful (listed_in s.keys) c.loop-i.i (sym (stands c) ∙ y) ∙ sym (rw (c.loop-i.invariant.entered, c.loop-i.invariant.keys) at e)

pub returns-then-not-is_maximal-clause-first : goal.returns-then-not-is_maximal-clause-first
returns-then-not-is_maximal-clause-first c =
    let s = c.args.self.now in
    let t = s.layout.now.tables in
    let b = (goal.at.returns-then-not-is_maximal-clause-first c).After-is_maximal in
    let spoilt-here : spoilt (world_in s.layout.now) (sets_in s.layout.now s.keys) c.loop-i.i ≡ true =
    elim c.then-not-is_maximal.branch [
      | then-not-is_maximal-via-then-not-is_maximal w ↦ spoilt-lost t.catalogue t.cells.now _ t.lawful (listed_in s.keys) c.loop-i.i (sym (stands b) ∙ w.if-not-is_maximal.true)
      | then-not-is_maximal-via-else-not-is_maximal+then-enter w ↦ repeats b true w.if-not-is_maximal.false (sym w.if-enter.true ∙ w.enter.ensures.repeats)
    ] in
    sym (lowest-at (length (listed_in s.keys)) (spoilt (world_in s.layout.now) (sets_in s.layout.now s.keys)) c.loop-i.i (there b) spoilt-here c.loop-i.invariant.clean)

pub loop-i-preserved : goal.loop-i-preserved
loop-i-preserved c =
    let v = c.loop-i.invariant in
    let e = c.enter.ensures in
    record {
      entered = e.entered c.if-enter.false ∙ ap (λ (k : ℕ). k + 1) v.entered;
      layout = e.same.0 ∙ v.layout;
      keys = e.same.1 ∙ v.keys;
      clean = below_more _ _ v.clean (repeats (goal.at.loop-i-preserved c).After-is_maximal false c.if-not-is_maximal.false (sym c.if-enter.false ∙ e.repeats));
    }

pub returns-clause-first : goal.returns-clause-first
returns-clause-first c =
    let s = c.args.self.now in
    sym (lowest-none (length (listed_in s.keys)) (spoilt (world_in s.layout.now) (sets_in s.layout.now s.keys)) (λ u b. c.loop-i.invariant.clean u (omega (arith, b, s.counted, c.loop-i-test.false))))
