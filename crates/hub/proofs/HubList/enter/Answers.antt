-- `hub::HubList::enter` meets its contract: the first entry is new, one past the last record is looked for, and of another a search tells. Assumes nothing.
use native.Mathlib.Omega.{arith}
use Prim.Native.Nat.{◌<◌}
use mathlib.Core.Path.{◌≡◌, sym, ap, ◌∙◌}
use mathlib.Core.Logic.{⊎_elim, ∥∥₁_map}
use lib.ListN.{length, get_or}
use Rattle.keys.specs.TwoWords.{number_of}
use Rattle.store.specs.Store.{store_in}
use Rattle.store.proofs.StoreLaws.{absent-place}
use Rattle.hub.specs.Searching.{among, listed_in, records_of}
use Rattle.hub.proofs.TreeLaws.{key-own, keys-both, enters-first, enters-late, enters-new}
use Rattle.hub.proofs.HubList.enter.Goals.{After-at-key}
use Rattle.hub.proofs.HubList.enter.Goals as goal

pub at-key-requires : goal.at-key-requires
at-key-requires c = keys-both _ _ _ (omega (arith, c.requires.0, c.args.self.now.counted))

-- The entry's key is the list's.
own : (c : After-at-key) → number_of c.at-key.result ≡ get_or (listed_in c.args.self.now.keys) c.args.self.now.entered 0
own c = key-own c.args.self.now.keys.low.now c.args.self.now.keys.high.now c.args.self.now.entered (omega (arith, c.requires.0, c.args.self.now.counted)) c.at-key.ensures

pub has-requires : goal.has-requires
has-requires c = rw (own (goal.at.has-requires c).After-at-key) c.requires.1

pub returns-then-has-clause-repeats : goal.returns-then-has-clause-repeats
returns-then-has-clause-repeats c =
    sym c.if-has.true ∙ c.has.ensures ∙ ap (among (listed_in c.args.self.now.keys) c.args.self.now.entered) (own (goal.at.returns-then-has-clause-repeats c).After-at-key)

pub overflow_add-self : goal.overflow_add-self
overflow_add-self c = omega (arith, c.requires.0)

pub invariant_of-self : goal.invariant_of-self
invariant_of-self c =
    let s = c.args.self.now in
    let b : s.entered < length (listed_in s.keys) = omega (arith, c.requires.0, s.counted) in
    record {
      counted = s.counted;
      within = omega (arith, c.requires.0);
      linked = ∥∥₁_map s.linked
          (λ l.
          ⊎_elim
          (λ z. enters-first s.layout.now.tables.catalogue.n s.keys.low.now s.keys.high.now s.left s.right s.entered l b c.requires.1 z)
          (λ z. enters-late s.layout.now.tables.catalogue.n s.keys.low.now s.keys.high.now s.left s.right s.entered l b c.requires.1 z.1) c.then-i-eq0.either);
    }

pub returns-then-i-eq0-clause-repeats : goal.returns-then-i-eq0-clause-repeats
returns-then-i-eq0-clause-repeats c =
    sym c.if-has.false ∙ c.has.ensures ∙ ap (among (listed_in c.args.self.now.keys) c.args.self.now.entered) (own (goal.at.returns-then-i-eq0-clause-repeats c).After-at-key)

pub link_for-requires : goal.link_for-requires
link_for-requires c = (omega (arith, c.if-i-eq0.false), rw (own (goal.at.link_for-requires c).After-at-key) c.requires.1)

pub returns-in_default-clause-repeats : goal.returns-in_default-clause-repeats
returns-in_default-clause-repeats c =
    let e : records_of c.args.self.now.entered ≡ c.args.self.now.entered = omega (arith, c.if-i-ge-MOST_RECORDS.false) in
    sym (rw (own (goal.at.returns-in_default-clause-repeats c).After-at-key, e) at c.in_default.ensures)

pub hang-requires : goal.hang-requires
hang-requires c =
    let s = c.args.self.now in
    let e : records_of s.entered ≡ s.entered = omega (arith, c.if-i-ge-MOST_RECORDS.false) in
    let h = absent-place (store_in s.keys.low.now s.keys.high.now s.left s.right (records_of s.entered)) _ _ (omega (arith, e, c.if-i-eq0.false)) c.in-Some.ensures.search in
    (omega (arith, h, e, c.if-i-ge-MOST_RECORDS.false), omega (arith, h, e, c.if-i-ge-MOST_RECORDS.false), omega (arith, c.if-i-ge-MOST_RECORDS.false))

pub invariant_of-self-2 : goal.invariant_of-self-2
invariant_of-self-2 c =
    let s = c.args.self.now in
    let b : s.entered < length (listed_in s.keys) = omega (arith, c.requires.0, s.counted) in
    let e = c.in-Some.ensures in
    record {
      counted = s.counted;
      within = omega (arith, c.requires.0);
      linked = ∥∥₁_map s.linked
          (λ l.
          enters-new s.layout.now.tables.catalogue.n s.keys.low.now s.keys.high.now s.left s.right s.entered l b c.requires.1 (omega (arith, c.if-i-eq0.false)) c.if-i-ge-MOST_RECORDS.false
          c.in-Some.link.place c.in-Some.link.right e.looks c.hang.new.left c.hang.new.right
          (rw (own (goal.at.invariant_of-self-2 c).After-at-key) at e.search) c.hang.ensures);
    }

pub returns-clause-repeats : goal.returns-clause-repeats
returns-clause-repeats c =
    let e : records_of c.args.self.now.entered ≡ c.args.self.now.entered = omega (arith, c.if-i-ge-MOST_RECORDS.false) in
    sym (rw (own (goal.at.returns-clause-repeats c).After-at-key, e) at c.in-Some.ensures.new)
