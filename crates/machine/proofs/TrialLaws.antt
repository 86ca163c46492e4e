-- One trial, of any store, a damaged one too: what the code has at hand gives it (`trial-lost`, `trial-known`, `trial-added`, `trial-full`,
-- `trial-broken`), and what is known of the stream and the counts after it (`trial-fit`). Assumes nothing.
use Prim.Native.Nat.{ℕ, ◌+◌, ◌-◌, ◌*◌, ◌≤◌, ◌<◌}
use native.Mathlib.Omega.{arith}
use mathlib.Core.Path.{◌≡◌, refl, sym, ap, ap₂, subst, ◌∙◌}
use mathlib.Core.Logic.{◌⊎◌, inl, inr, ⊎_elim}
use mathlib.Core.Bool.{Bool, true, false, cond}
use mathlib.Core.List.{List}
use lib.Dec.{ltb}
use borrow.Author.Tests.{ltb-true}
use Rattle.keys.specs.Keys.{bits_per_row, key_of}
use Rattle.tables.specs.declared.Catalogue.{Catalogue}
use Rattle.tables.specs.Catalogues as catalogues
use Rattle.tables.specs.Catalogues.{total}
use Rattle.disjunction.specs.Rule.{Place, row_at, Grown, extension, alone, trial}
use Rattle.disjunction.specs.Asked.{every_set, wanted}
use Rattle.disjunction.proofs.RowOrder.{row_at-row}
use Rattle.disjunction.proofs.Completeness.{trial-around}
use Rattle.rows.specs.World.{world_of, set_of, place_of}
use Rattle.rows.specs.Named.{named}
use Rattle.rows.proofs.WorldLaws.{world-symmetric, rows-total, row-place}
use Rattle.rows.proofs.NamedLaws.{named-iff, named-valid}
use Rattle.store.specs.Store.{Store, store_in, room_in, search_of, added, filed, answer_of, store_after, Holds, OfferPost}
use Rattle.store.specs.Looks.{Looked, Found, Absent, Damaged, Placed, Known, Added, Full, Broken}
use Rattle.store.proofs.LookLaws.{Inside}
use Rattle.store.proofs.StoreLaws.{search-inside, refused-stays, room-added}
use Rattle.machine.specs.Machine.{State, state_for, key_at, Trial, done, full, damaged, raised, placed, offered, offered_if, deepest, trial_due, trial_on, Fit, first_grown}

-- ---- from what the code has at hand

-- How many records are used after an offer.
abbrev pub found_after : ℕ → Placed → ℕ
found_after found (Known looks) = found
found_after found (Added looks) = found + 1
found_after found Full = found
found_after found Broken = found

found_after_lem : (q : Store) (key : ℕ) (a : Looked) → (store_after q key a).found ≡ found_after q.found (answer_of q a)
unfolding store_after answer_of added filed
found_after_lem q key (Found p n) = refl
found_after_lem q key (Damaged n) = refl
found_after_lem q key (Absent p s n) = by (ltb q.found (room_in q))
  where
    by : (b : Bool) → (cond b (added q key p s) q).found ≡ found_after q.found (cond b (Added n) Full)
    by true = refl
    by false = refl

-- The store's promise of an offer gives the trial's end.
offer-placed : (deepest : ℕ) (q : State) (key tests : ℕ) (r : Placed) (ks hs ls rs : List ℕ) → OfferPost q.store key deepest r ks hs ls rs
    → offered deepest q key tests ≡ placed q tests r (store_in ks hs ls rs (found_after q.store.found r))
unfolding offered
offer-placed deepest q key tests r ks hs ls rs o =
    let a = search_of q.store key deepest in
    rw (o.answer, o.after.low, o.after.high, o.after.left, o.after.right, sym (found_after_lem q.store key a)) refl

-- A refused offer has left the four lists as they were.
offer-stays : (q : Store) (key deepest : ℕ) (r : Placed) (ks hs ls rs : List ℕ) → OfferPost q key deepest r ks hs ls rs → (r ≡ Full) ⊎ (r ≡ Broken)
    → Holds ks hs ls rs q
offer-stays q key deepest r ks hs ls rs o f =
    let a = search_of q key deepest in
    subst (Holds ks hs ls rs) (refused-stays q key a (⊎_elim (λ e. inl (sym o.answer ∙ e)) (λ e. inr (sym o.answer ∙ e)) f)) o.after

module _ (cat : Catalogue) (cells : List ℕ) where
  -- The set that the trial comes to, from the row that the code has.
  abbrev pub trial_had : State → Grown
  trial_had q = trial (world_of cat cells) (set_of cat (key_at q (q.taken - 1))) (place_of (catalogues.row_at cat q.next))

  -- The key of the set tried on fails 14's test.
  pub trial-lost : (q : State) → named cat (key_at q (q.taken - 1)) ≡ false → trial_on cat cells q ≡ damaged
  unfolding trial_on
  trial-lost q e = rw e

  -- It passes, and the set that the trial came to is not wanted.
  pub trial-unsought : (q : State) (tests : ℕ) → q.next < total cat → named cat (key_at q (q.taken - 1)) ≡ true
      → wanted q.asked (trial_had q).rows ≡ false
      → tests ≡ (trial_had q).tests
      → trial_on cat cells q ≡ done (raised q q.store) tests 0
  unfolding trial_on
  trial-unsought q tests h e w t = rw (e, row-place cat cells q.next h, w) (ap (λ (y : ℕ). done (raised q q.store) y 0) (sym t))

  -- It is: the code has the row at place next row, the key of what the trial came to, its row tests, and the offer's promise.
  pub offer-trial : (q : State) (key tests : ℕ) (r : Placed) (ks hs ls rs : List ℕ) → q.next < total cat → named cat (key_at q (q.taken - 1)) ≡ true
      → wanted q.asked (trial_had q).rows ≡ true
      → key ≡ key_of bits_per_row (trial_had q).rows
      → tests ≡ (trial_had q).tests
      → OfferPost q.store key (deepest cat) r ks hs ls rs
      → trial_on cat cells q ≡ placed q tests r (store_in ks hs ls rs (found_after q.store.found r))
  unfolding trial_on
  offer-trial q key tests r ks hs ls rs h e w k t o =
      rw (e, row-place cat cells q.next h, w)
      (ap₂ (λ (x y : ℕ). offered (deepest cat) q x y) (sym k) (sym t) ∙ offer-placed (deepest cat) q key tests r ks hs ls rs o)

  -- The same by what the offer came to. A refused one has left the store as it was.
  module _ (q : State) (key tests : ℕ) (h : q.next < total cat) (e : named cat (key_at q (q.taken - 1)) ≡ true)
      (w : wanted q.asked (trial_had q).rows ≡ true)
      (k : key ≡ key_of bits_per_row (trial_had q).rows) (t : tests ≡ (trial_had q).tests)
      (r : Placed) (ks hs ls rs : List ℕ) (o : OfferPost q.store key (deepest cat) r ks hs ls rs) where
    by-placed : (a : Placed) → r ≡ a → trial_on cat cells q ≡ placed q tests a (store_in ks hs ls rs (found_after q.store.found a))
    by-placed a f =
        offer-trial q key tests r ks hs ls rs h e w k t o
        ∙ ap (λ (x : Placed). placed q tests x (store_in ks hs ls rs (found_after q.store.found x))) f

    pub trial-known : (n : ℕ) → r ≡ Known n
        → trial_on cat cells q ≡ done (state_for q.asked ks hs ls rs q.store.found q.taken (q.next + 1)) tests n
    unfolding placed
    trial-known n f = by-placed (Known n) f

    pub trial-added : (n : ℕ) → r ≡ Added n
        → trial_on cat cells q ≡ done (state_for q.asked ks hs ls rs (q.store.found + 1) q.taken (q.next + 1)) tests n
    unfolding placed
    trial-added n f = by-placed (Added n) f

    pub trial-full : r ≡ Full → (trial_on cat cells q ≡ full) × Holds ks hs ls rs q.store
    unfolding placed
    trial-full f = (by-placed Full f, offer-stays q.store key (deepest cat) r ks hs ls rs o (inl f))

    pub trial-broken : r ≡ Broken → (trial_on cat cells q ≡ damaged) × Holds ks hs ls rs q.store
    unfolding placed
    trial-broken f = (by-placed Broken f, offer-stays q.store key (deepest cat) r ks hs ls rs o (inr f))

  -- Open's first set, from the row that the code has.
  pub first-row : 0 < total cat
      → first_grown cat cells every_set ≡ extension (world_of cat cells) (alone (world_of cat cells) (place_of (catalogues.row_at cat 0)))
  first-row h = ap (λ (s : Place). extension (world_of cat cells) (alone (world_of cat cells) s)) (row-place cat cells 0 h)

-- ---- what is known after it

-- A trial that was done: the stream has gone on by a row, and its counts are small.
pub record Bound (cat : Catalogue) (q p : State) (t l : ℕ) : Type 0 where
  pub next : p.next ≡ q.next + 1
  pub taken : p.taken ≡ q.taken
  pub asked : p.asked ≡ q.asked
  pub more : q.store.found ≤ p.store.found
  pub within : q.store.found ≤ room_in q.store → p.store.found ≤ room_in p.store
  pub room : room_in p.store ≡ room_in q.store
  pub tests : t ≤ cat.n * total cat
  pub looks : l ≤ deepest cat + 1

abbrev pub Bounded : Catalogue → State → Trial → Type 0
Bounded cat q (done p t l) = Bound cat q p t l
Bounded cat q full = ◌≡◌ {A = ℕ} 0 0
Bounded cat q damaged = ◌≡◌ {A = ℕ} 0 0

module _ (cat : Catalogue) (cells : List ℕ) where
  pub trial-bounded : (q : State) → q.next < total cat → 0 < q.store.found → Bounded cat q (trial_on cat cells q)
  unfolding trial_on offered placed answer_of store_after added filed
  trial-bounded q h some = by_key (named cat k) refl
    where
      k : ℕ
      k = key_at q (q.taken - 1)

      n : ℕ
      n = (trial_due cat cells q).tests

      key : ℕ
      key = key_of bits_per_row (trial_due cat cells q).rows

      by_room : (p : ℕ) (s : Bool) (l : ℕ) → n ≤ cat.n * total cat → l ≤ deepest cat + 1 → (f : Bool) → ltb q.store.found (room_in q.store) ≡ f
          → Bounded cat q (placed q n (cond f (Added l) Full) (cond f (added q.store key p s) q.store))
      by_room p s l t x true f =
          let m : q.store.found < room_in q.store = ltb-true q.store.found (room_in q.store) f in
          let e = room-added q.store key p s in
          record { next = refl; taken = refl; asked = refl; more = omega arith; within = λ _. omega arith; room = e; tests = omega arith; looks = omega arith }
      by_room p s l t x false f = refl

      by : n ≤ cat.n * total cat → (a : Looked) → Inside q.store.found (deepest cat) a
          → Bounded cat q (placed q n (answer_of q.store a) (store_after q.store key a))
      by t (Found p l) i = record { next = refl; taken = refl; asked = refl; more = omega arith; within = λ w. w; room = refl; tests = omega arith; looks = omega (arith, i.1) }
      by t (Absent p s l) i = by_room p s l t i.1 (ltb q.store.found (room_in q.store)) refl
      by t (Damaged l) i = refl

      -- A trial without a search has no looks.
      by_want : (b : Bool) → n ≤ cat.n * total cat → Bounded cat q (offered_if b (deepest cat) q key n)
      by_want true t = by t (search_of q.store key (deepest cat)) (search-inside q.store key (deepest cat) some)
      by_want false t =
          record { next = refl; taken = refl; asked = refl; more = omega arith; within = λ w. w; room = refl; tests = t; looks = omega arith }

      by_key : (b : Bool) → named cat k ≡ b → Bounded cat q (cond b (offered_if (wanted q.asked (trial_due cat cells q).rows) (deepest cat) q key n) damaged)
      by_key false e = refl
      by_key true e =
          let W = world_of cat cells in
          let r = row_at-row W q.next (rw (rows-total cat cells) h) in
          let v = trial-around W (world-symmetric cat cells) (set_of cat k) (row_at W q.next) (named-valid cat cells k ((named-iff cat k).0 e)) r in
          by_want (wanted q.asked (trial_due cat cells q).rows) (rw (rows-total cat cells) at v.few)

  -- A trial that was done leaves a stream that fits.
  pub trial-fit : (q p : State) (t l : ℕ) → Fit cat q → q.next < total cat → trial_on cat cells q ≡ done p t l → Bound cat q p t l × Fit cat p
  trial-fit q p t l g h e =
      let x = subst (Bounded cat q) e (trial-bounded q h (g.some (omega arith))) in (
        x,
        record {
          room = x.within g.room;
          taken = omega (arith, g.taken, x.taken, x.more);
          next = omega (arith, x.next);
          begun = λ z. absurd (omega (arith, x.taken, g.begun (sym x.taken ∙ z)));
          some = λ m. omega (arith, g.some m, x.more);
          none = λ z. absurd (omega arith);
          asked = rw x.asked g.asked;
        },
      )
