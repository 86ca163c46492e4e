-- Only the records count: a trial goes alike in a stream and in a copy of it, but where only the copy has room. Assumes nothing.
use Prim.Native.Nat.{ℕ, ◌+◌, ◌-◌, ◌≤◌, ◌<◌}
use native.Mathlib.Omega.{arith}
use mathlib.Core.Path.{◌≡◌, refl, sym, ap, ap₂, subst, ◌∙◌}
use mathlib.Core.Logic.{◌⊎◌, inl, inr}
use mathlib.Core.Bool.{Bool, true, false, cond}
use mathlib.Core.List.{List}
use lib.Dec.{ltb}
use borrow.Author.Tests.{ltb-true, ltb-false}
use Rattle.keys.specs.Keys.{bits_per_row, key_of}
use Rattle.tables.specs.declared.Catalogue.{Catalogue}
use Rattle.disjunction.specs.Rule.{row_at, trial}
use Rattle.disjunction.specs.Asked.{Asked, wanted}
use Rattle.rows.specs.World.{world_of, set_of}
use Rattle.rows.specs.Named.{named}
use Rattle.store.specs.Store as Store
use Rattle.store.specs.Store.{room_in, search_of, added, answer_of, store_after}
use Rattle.store.specs.Looks.{Looked, Found, Absent, Damaged, Added, Full}
use Rattle.store.proofs.StoreLaws.{absent-place, room-added, copy_key, copy-search, copy-added}
use Rattle.machine.specs.Machine.{State, key_at, Trial, done, full, damaged, raised, placed, offered, offered_if, deepest, trial_due, trial_on}
use Rattle.claims.specs.Demands.{Copy}

pub copy-trans : (e m r : State) → Copy e m → Copy e r → Copy m r
copy-trans e m r a b =
    let f = a.store.found in
    record {
      store = record {
        found = b.store.found ∙ sym f;
        low = λ p l. b.store.low p (omega arith) ∙ sym (a.store.low p (omega arith));
        high = λ p l. b.store.high p (omega arith) ∙ sym (a.store.high p (omega arith));
        left = λ p l. b.store.left p (omega arith) ∙ sym (a.store.left p (omega arith));
        right = λ p l. b.store.right p (omega arith) ∙ sym (a.store.right p (omega arith));
      };
      taken = b.taken ∙ sym a.taken;
      next = b.next ∙ sym a.next;
      asked = b.asked ∙ sym a.asked;
    }

-- The trial on q was done and left p; that on its copy r comes to u, with the same counts: the states are copies, and neither store changed its size.
pub record Also (q r p : State) (t l : ℕ) (u : Trial) : Type 0 where
  pub state : State
  pub it : u ≡ done state t l
  pub copy : Copy p state
  pub short : room_in p.store ≡ room_in q.store
  pub long : room_in state.store ≡ room_in r.store

-- What the trial on r comes to, by what that on q does.
abbrev pub Alike : State → State → Trial → Trial → Type 0
Alike q r (done p t l) u = Also q r p t l u
Alike q r full u = (u ≡ full) ⊎ (room_in q.store < room_in r.store)
Alike q r damaged u = u ≡ damaged

module _ (q r : State) (c : Copy q r) (h : room_in q.store ≤ room_in r.store) (some : 0 < q.store.found) (key tests : ℕ) where
  raise : {s u : Store.Store} → Store.Copy s u → Copy (raised q s) (raised r u)
  raise k = record { store = k; taken = c.taken; next = ap (λ (n : ℕ). n + 1) c.next; asked = c.asked }

  by_room : (p : ℕ) (s : Bool) (n : ℕ) → p < q.store.found → (x y : Bool)
      → ltb q.store.found (room_in q.store) ≡ x → ltb r.store.found (room_in r.store) ≡ y
      → Alike q r (placed q tests (cond x (Added n) Full) (cond x (added q.store key p s) q.store))
      (placed r tests (cond y (Added n) Full) (cond y (added r.store key p s) r.store))
  unfolding placed
  by_room p s n l true true e f =
      let u = ltb-true q.store.found (room_in q.store) e in
      let v = ltb-true r.store.found (room_in r.store) f in
      record {
        state = raised r (added r.store key p s);
        it = refl;
        copy = raise (copy-added q.store r.store key p s c.store l u v);
        short = room-added q.store key p s;
        long = room-added r.store key p s;
      }
  by_room p s n l true false e f =
      absurd (omega (arith, ltb-true q.store.found (room_in q.store) e, ltb-false r.store.found (room_in r.store) f, c.store.found))
  by_room p s n l false true e f =
      inr (omega (arith, ltb-false q.store.found (room_in q.store) e, ltb-true r.store.found (room_in r.store) f, c.store.found))
  by_room p s n l false false e f = inl refl

  by_looked : (a : Looked) → ((p : ℕ) (s : Bool) (n : ℕ) → a ≡ Absent p s n → p < q.store.found)
      → Alike q r (placed q tests (answer_of q.store a) (store_after q.store key a)) (placed r tests (answer_of r.store a) (store_after r.store key a))
  unfolding placed answer_of store_after
  by_looked (Found p n) i = record { state = raised r r.store; it = refl; copy = raise c.store; short = refl; long = refl }
  by_looked (Absent p s n) i =
      by_room p s n (i p s n refl) (ltb q.store.found (room_in q.store)) (ltb r.store.found (room_in r.store)) refl refl
  by_looked (Damaged n) i = refl

  -- The same key offered to both.
  offer-copy : (deepest : ℕ) → Alike q r (offered deepest q key tests) (offered deepest r key tests)
  unfolding offered
  offer-copy deepest =
      rw (copy-search q.store r.store key deepest c.store some)
      (by_looked (search_of q.store key deepest) (λ p s n e. absent-place q.store key deepest some (sym e)))

  -- Or to neither.
  offer-copy-if : (deepest : ℕ) (b : Bool) → Alike q r (offered_if b deepest q key tests) (offered_if b deepest r key tests)
  offer-copy-if deepest true = offer-copy deepest
  offer-copy-if deepest false = record { state = raised r r.store; it = refl; copy = raise c.store; short = refl; long = refl }

module _ (cat : Catalogue) (cells : List ℕ) where
  pub trial-copy : (q r : State) → Copy q r → room_in q.store ≤ room_in r.store → 0 < q.store.found → q.taken ≤ q.store.found
      → Alike q r (trial_on cat cells q) (trial_on cat cells r)
  unfolding trial_on
  trial-copy q r c h some b = subst (Alike q r (trial_on cat cells q)) (sym same) (by (named cat k))
    where
      k : ℕ
      k = key_at q (q.taken - 1)

      -- The trial in state v, of the row at place j on the set of key x, asked for a.
      at : State → ℕ → ℕ → Asked → Trial
      at v x j a =
          let g = trial (world_of cat cells) (set_of cat x) (row_at (world_of cat cells) j) in
          offered_if (wanted a g.rows) (deepest cat) v (key_of bits_per_row g.rows) g.tests

      -- The copy is tried on the same set with the same row.
      same : trial_on cat cells r ≡ cond (named cat k) (at r k q.next q.asked) damaged
      same =
          ap₂ (λ (x j : ℕ). cond (named cat x) (at r x j r.asked) damaged)
          (ap (λ (x : ℕ). key_at r (x - 1)) c.taken ∙ copy_key q.store r.store c.store (q.taken - 1) (omega arith)) c.next
          ∙ ap (λ (a : Asked). cond (named cat k) (at r k q.next a) damaged) c.asked

      by : (y : Bool) → Alike q r (cond y (at q k q.next q.asked) damaged) (cond y (at r k q.next q.asked) damaged)
      by true =
          offer-copy-if q r c h some (key_of bits_per_row (trial_due cat cells q).rows) (trial_due cat cells q).tests (deepest cat)
          (wanted q.asked (trial_due cat cells q).rows)
      by false = refl
