-- What a trial meets, as the propositions of specs/CallRefusals say it: a search ends at an empty link, or meets one of its two kinds of damage, exactly
-- where the store's search says so; and a trial is full, or damaged, exactly where 12's, or 14's, condition holds. What carries the proof: one induction
-- over the looks of a search, and back one over those that were made. Assumes nothing.
use Prim.Native.Nat.{ℕ, ◌+◌, ◌-◌, ◌≤◌}
use native.Mathlib.Omega.{arith}
use mathlib.Core.Path.{◌≡◌, refl, ap, subst, ◌∙◌}
use mathlib.Core.Bool.{Bool, true, false, cond}
use mathlib.Core.Logic.{◌⊎◌, inl, inr, ⊎_elim, ◌↔◌}
use mathlib.Core.List.{List}
use lib.Dec.{eqb, ltb}
use borrow.Author.Tests.{eqb-true, eqb-false, eq-eqb, ne_eqb, ltb-false, le-ltb}
use Rattle.laws.proofs.TestLaws.{which, clash}
use Rattle.words.specs.Words.{bit_of}
use Rattle.tables.specs.declared.Catalogue.{Catalogue}
use Rattle.rows.specs.Named.{named, Named}
use Rattle.rows.proofs.NamedLaws.{named-iff}
use Rattle.disjunction.specs.Sets.{at}
use Rattle.disjunction.specs.Asked.{Asked, every_set, every_with, wanted}
use Rattle.store.specs.Store as stores
use Rattle.store.specs.Store.{Store, room_in, link_of, walk_in, search_of, answer_of, store_after}
use Rattle.store.specs.Looks.{Looked, Found, Absent, Damaged, Added, Full}
use Rattle.store.proofs.LookLaws.{walk-last, walk-absent, walk-past, walk-on, by-looks}
use Rattle.machine.specs.Machine.{State, key_at, deepest, Trial, done, full, damaged, placed, offered, offered_if, trial_due, trial_on}
use Rattle.claims.specs.CallRefusals.{Other, link_due, LooksAt, start, follow, EndsEmpty, LinkPasses, LooksTooOften, HoldsAsked, Searches, key_sought, NoneFree, Damage, not_named, link-passes, looks-too-often}

-- ---- a search

module _ (s : Store) (key bits : ℕ) where
  abbrev hit : ℕ → Bool
  hit p = eqb (stores.key_at s p) key

  -- What it is for a search to say a.
  abbrev Said : Looked → Type 0
  Said (Found p n) = ◌≡◌ {A = ℕ} 0 0
  Said (Absent p t n) = EndsEmpty s key bits
  Said (Damaged n) = LinkPasses s key bits ⊎ LooksTooOften s key bits

  other : (p : ℕ) → hit p ≡ false → Other s key bits p
  other p e = eqb-false (stores.key_at s p) key e

  search-said : Said (search_of s key bits)
  unfolding search_of
  search-said =
      by-looks hit (bit_of key) (link_of s.left s.right) s.found (λ f d p a. LooksAt s key bits d p → d + f ≡ bits → Said a)
      (record {
        hits = λ f d p e w h. refl;
        last = λ d p e w h. inr (p, (let z : d ≡ bits = omega arith in subst (λ (x : ℕ). LooksAt s key bits x p) z w), other p e);
        absent = λ f d p e z w h. (d, p, w, other p e, omega arith, z);
        past = λ f d p e u w h. inl (d, p, w, other p e, omega arith, u);
        on = λ f d p a e z u ih w h. ih (follow w (other p e) (omega arith) (omega arith) (omega arith)) (omega arith);
      })
      bits 0 0 start (omega arith)

  -- And back: the search from the look that it comes to is the whole search.
  looks-walk : {d p : ℕ} → LooksAt s key bits d p → (d ≤ bits) × (walk_in s key bits 0 0 ≡ walk_in s key (bits - d) d p)
  looks-walk start = (omega arith, ap (λ (x : ℕ). walk_in s key x 0 0) (let z : bits ≡ bits - 0 = omega arith in z))
  looks-walk (follow {d} {p} {r} w o h l m) =
      let (k, e) = looks-walk w in (
        omega arith,
        e
            ∙ walk-on hit (bit_of key) (link_of s.left s.right) s.found (bits - d) (bits - (d + 1)) d p (omega arith)
            (ne_eqb (stores.key_at s p) key o) (λ z. absurd (omega arith)) (omega arith)
            ∙ ap (λ (x : ℕ). walk_in s key (bits - (d + 1)) (d + 1) x) (let z : link_due s key bits d p - 1 ≡ r = omega arith in z),
      )

  empty-absent : EndsEmpty s key bits → (p : ℕ) × (t : Bool) × (n : ℕ) × (search_of s key bits ≡ Absent p t n)
  unfolding search_of
  empty-absent (d, p, w, o, h, z) = (
    p,
    bit_of key d,
    d + 1,
    (looks-walk w).1
        ∙ walk-absent hit (bit_of key) (link_of s.left s.right) s.found (bits - d) d p (omega arith) (ne_eqb (stores.key_at s p) key o) z,
  )

  passes-damaged : LinkPasses s key bits → (n : ℕ) × (search_of s key bits ≡ Damaged n)
  unfolding search_of
  passes-damaged (d, p, w, o, h, u) = (
    d + 1,
    (looks-walk w).1
        ∙ walk-past hit (bit_of key) (link_of s.left s.right) s.found (bits - d) d p (omega arith) (ne_eqb (stores.key_at s p) key o)
        (λ z. absurd (omega arith)) u,
  )

  often-damaged : LooksTooOften s key bits → (n : ℕ) × (search_of s key bits ≡ Damaged n)
  unfolding search_of
  often-damaged (p, w, o) = (
    bits + 1,
    (looks-walk w).1 ∙ walk-last hit (bit_of key) (link_of s.left s.right) s.found (bits - bits) bits p (omega arith) (ne_eqb (stores.key_at s p) key o),
  )

-- ---- what is asked for

holds-wanted : (a : Asked) (T : List ℕ) → HoldsAsked a T → wanted a T ≡ true
holds-wanted every_set T h = refl
holds-wanted (every_with s) T h = eq-eqb (at T s.table) s.row h

wanted-holds : (a : Asked) (T : List ℕ) → wanted a T ≡ true → HoldsAsked a T
wanted-holds every_set T h = tt
wanted-holds (every_with s) T h = eqb-true (at T s.table) s.row h

-- ---- a trial

module _ (cat : Catalogue) (cells : List ℕ) (q : State) where
  abbrev key : ℕ
  key = key_sought cat cells q

  -- What it is for a trial to come to x.
  abbrev Met : Trial → Type 0
  Met full = NoneFree cat cells q
  Met damaged = Damage cat cells q
  Met (done p t l) = ◌≡◌ {A = ℕ} 0 0

  trial-met : Met (trial_on cat cells q)
  unfolding trial_on offered placed answer_of store_after
  trial-met = by_named (named cat (key_at q (q.taken - 1))) refl
    where
      tests : ℕ
      tests = (trial_due cat cells q).tests

      by_room : Searches cat cells q → EndsEmpty q.store key (deepest cat) → (n : ℕ) (r u : Store) (f : Bool)
          → ltb q.store.found (room_in q.store) ≡ f → Met (placed q tests (cond f (Added n) Full) (cond f r u))
      by_room w x n r u true e = refl
      by_room w x n r u false e = record { searches = w; absent = x; full = ltb-false q.store.found (room_in q.store) e }

      by_search : Searches cat cells q → (a : Looked) → Said q.store key (deepest cat) a
          → Met (placed q tests (answer_of q.store a) (store_after q.store key a))
      by_search w (Found p n) x = refl
      by_search w (Absent p t n) x = by_room w x n _ _ (ltb q.store.found (room_in q.store)) refl
      by_search w (Damaged n) (inl x) = link-passes w x
      by_search w (Damaged n) (inr x) = looks-too-often w x

      by_wanted : Named cat (key_at q (q.taken - 1)) → (b : Bool) → wanted q.asked (trial_due cat cells q).rows ≡ b
          → Met (offered_if b (deepest cat) q key tests)
      by_wanted n true e =
          by_search (record { tried-on = n; asked = wanted-holds q.asked (trial_due cat cells q).rows e }) (search_of q.store key (deepest cat))
          (search-said q.store key (deepest cat))
      by_wanted n false e = refl

      by_named : (b : Bool) → named cat (key_at q (q.taken - 1)) ≡ b
          → Met (cond b (offered_if (wanted q.asked (trial_due cat cells q).rows) (deepest cat) q key tests) damaged)
      by_named true e = by_wanted ((named-iff cat (key_at q (q.taken - 1))).0 e) (wanted q.asked (trial_due cat cells q).rows) refl
      by_named false e = not_named (λ n. clash ((named-iff cat (key_at q (q.taken - 1))).1 n) e)

  -- And back. A trial that searches comes to what the store makes of the search.
  searching : Searches cat cells q → (a : Looked) → search_of q.store key (deepest cat) ≡ a
      → trial_on cat cells q ≡ placed q (trial_due cat cells q).tests (answer_of q.store a) (store_after q.store key a)
  unfolding trial_on offered
  searching w a e =
      rw ((named-iff cat (key_at q (q.taken - 1))).1 w.tried-on, holds-wanted q.asked (trial_due cat cells q).rows w.asked, e) refl

  none-free-full : NoneFree cat cells q → trial_on cat cells q ≡ full
  unfolding placed answer_of
  none-free-full x =
      let (p, t, n, e) = empty-absent q.store key (deepest cat) x.absent in
      searching x.searches (Absent p t n) e ∙ rw (le-ltb q.store.found (room_in q.store) x.full) refl

  damage-damaged : Damage cat cells q → trial_on cat cells q ≡ damaged
  unfolding placed answer_of trial_on
  damage-damaged (not_named n) =
      ⊎_elim (λ e. absurd (n ((named-iff cat (key_at q (q.taken - 1))).0 e))) (λ e. rw e refl) (which (named cat (key_at q (q.taken - 1))))
  damage-damaged (link-passes w x) = let (n, e) = passes-damaged q.store key (deepest cat) x in searching w (Damaged n) e
  damage-damaged (looks-too-often w x) = let (n, e) = often-damaged q.store key (deepest cat) x in searching w (Damaged n) e

  pub trial-full-iff : (trial_on cat cells q ≡ full) ↔ NoneFree cat cells q
  trial-full-iff = (λ e. subst Met e trial-met, none-free-full)

  pub trial-damaged-iff : (trial_on cat cells q ≡ damaged) ↔ Damage cat cells q
  trial-damaged-iff = (λ e. subst Met e trial-met, damage-damaged)
