-- The refusals before work, read one by one in their order, and what a call and open come to where one is met and where none is. Assumes nothing.
use Prim.Native.Nat.{ℕ, zero, suc, ◌≤◌, ◌<◌}
use native.Mathlib.Omega.{arith}
use native.Mathlib.Nat.{eq-zero-or-pos}
use mathlib.Core.Path.{◌≡◌, refl, ap}
use mathlib.Core.Logic.{◌↔◌, ◌⊎◌, inl, inr, ⊎_elim}
use mathlib.Core.Bool.{Bool, true, false, not, cond, ◌&&◌}
use mathlib.Core.List.{List}
use lib.ListN.{length}
use lib.Dec.{ltb, eqb}
use borrow.Author.Tests.{not-false, ltb-true, ltb-false, lt-ltb, le-ltb, eqb-true, eq-eqb, ne_eqb}
use Rattle.laws.proofs.TestLaws.{which, clash, or-none, none_or, and_none, none-and}
use Rattle.keys.specs.Keys.{bits_per_row, key_of}
use Rattle.tables.specs.declared.Catalogue.{Catalogue}
use Rattle.tables.specs.Catalogues.{count_of, total}
use Rattle.tables.specs.Checks.{Lawful, catalogue_fault}
use Rattle.disjunction.specs.Asked.{Asked, every_set, every_with}
use Rattle.rows.specs.Named.{There, rows_there}
use Rattle.tables.proofs.CheckLaws.{first_some, first-clear, fault-lawful, lawful-fault}
use Rattle.store.specs.Store.{Store, store_in, room_in, filed}
use Rattle.machine.specs.Machine.{State, state_for, refused, answer, stray, Askable, Fit, unfit, call_fault, unless_met, work, call, zeros, open_fault, unless_refused, first_grown, begun, opening_for}

-- ---- 19, and 13

-- The row asked for is there, or it is stray.
pub stray-iff : (cat : Catalogue) (a : Asked) → (stray cat a ≡ false) ↔ Askable cat a
unfolding rows_there
stray-iff cat every_set = (λ e. tt, λ h. refl)
stray-iff cat (every_with s) = (there, unmet)
  where
    rows_at : (b : Bool) → ltb s.table cat.n ≡ b → s.row ≤ cond b (count_of cat s.table) 0 → 0 < s.row
        → There cat s.table s.row
    rows_at true e h l = record { table = ltb-true s.table cat.n e; low = l; high = h }
    rows_at false e h l = absurd (omega arith)

    there : stray cat (every_with s) ≡ false → There cat s.table s.row
    there e =
        let (x, y) = or-none (eqb s.row 0) (ltb (rows_there cat s.table) s.row) e in
        rows_at (ltb s.table cat.n) refl (ltb-false (rows_there cat s.table) s.row y)
        (⊎_elim (λ z. absurd (clash (eq-eqb s.row 0 z) x)) (λ p. p) (eq-zero-or-pos s.row))

    unmet : There cat s.table s.row → stray cat (every_with s) ≡ false
    unmet h =
        none_or (ne_eqb s.row 0 (λ z. absurd (omega (arith, h.low))))
        (le-ltb (rows_there cat s.table) s.row (rw (lt-ltb s.table cat.n h.table) h.high))

module _ (cat : Catalogue) (q : State) where
  pub unfit-iff : (unfit cat q ≡ false) ↔ Fit cat q
  unfolding unfit
  unfit-iff = (fit, unmet)
    where
      some-row : Bool
      some-row = ltb 0 (total cat)

      fit : unfit cat q ≡ false → Fit cat q
      fit h =
          let (h5, f) = or-none _ _ h in
          let (h4, e) = or-none _ _ h5 in
          let (h3, d) = or-none _ _ h4 in
          let (h2, c) = or-none _ _ h3 in
          let (h1, b) = or-none _ _ h2 in
          let (r, a) = or-none _ _ h1 in
          record {
            room = ltb-false _ _ a;
            taken = ltb-false _ _ b;
            next = ltb-false _ _ c;
            begun = λ z. eqb-true _ _ (not-false _ (and_none _ _ d (eq-eqb _ _ z)));
            some = λ n. ⊎_elim (λ z. absurd (clash (lt-ltb _ _ n) (and_none _ _ e (eq-eqb _ _ z)))) (λ p. p) (eq-zero-or-pos q.store.found);
            none = λ z. ⊎_elim (λ y. y) (λ p. absurd (clash (eq-eqb _ _ z) (and_none _ _ f (lt-ltb _ _ p)))) (eq-zero-or-pos q.store.found);
            asked = (stray-iff cat q.asked).0 r;
          }

      unmet : Fit cat q → unfit cat q ≡ false
      unmet g =
          none_or
          (none_or
          (none_or
          (none_or
          (none_or
          (none_or ((stray-iff cat q.asked).1 g.asked) (le-ltb (room_in q.store) q.store.found g.room))
          (le-ltb q.store.found q.taken g.taken))
          (le-ltb (total cat) q.next g.next))
          (none-and (eqb q.taken 0) _ (λ e. ap not (eq-eqb q.next (total cat) (g.begun (eqb-true q.taken 0 e))))))
          (none-and (eqb q.store.found 0) some-row (λ e. le-ltb 0 (total cat) (few (eqb-true q.store.found 0 e) (eq-zero-or-pos (total cat))))))
          (none-and (ltb 0 q.store.found) (eqb (total cat) 0) (λ e. ne_eqb (total cat) 0 (λ z. absurd (omega (arith, g.none z, ltb-true 0 q.store.found e)))))
        where
          few : q.store.found ≡ 0 → (total cat ≡ 0) ⊎ (0 < total cat) → total cat ≤ 0
          few z (inl e) = omega arith
          few z (inr p) = absurd (omega (arith, g.some p))

  -- Where the row asked for is there, only the record's numbers count, whatever is asked for.
  pub unfit-beside : stray cat q.asked ≡ false
      → unfit cat q ≡ unfit cat (record { store = q.store; taken = q.taken; next = q.next; asked = every_set })
  unfolding unfit
  unfit-beside e = rw e

  -- Met, as soon as one part of fitting fails.
  pub unfit-met : (Fit cat q → ⊥) → unfit cat q ≡ true
  unfit-met h = ⊎_elim (λ e. e) (λ e. absurd (h (unfit-iff.0 e))) (which (unfit cat q))

-- ---- the refusals of a call

module _ (cat : Catalogue) (lent : ℕ) (q : State) (row : List ℕ) where
  pub call-catalogue : (catalogue_fault cat lent ≡ 0 → ⊥) → call_fault cat lent q row ≡ catalogue_fault cat lent
  unfolding call_fault
  call-catalogue h = first_some (catalogue_fault cat lent) _ h

  pub call-unfit : Lawful cat lent → unfit cat q ≡ true → call_fault cat lent q row ≡ 13
  unfolding call_fault
  call-unfit L e = rw (lawful-fault cat lent L, e)

  pub call-short : Lawful cat lent → Fit cat q → length row < cat.m → call_fault cat lent q row ≡ 11
  unfolding call_fault
  call-short L g h = rw (lawful-fault cat lent L, (unfit-iff cat q).1 g, lt-ltb (length row) cat.m h)

  pub call-free : Lawful cat lent → Fit cat q → cat.m ≤ length row → call_fault cat lent q row ≡ 0
  unfolding call_fault
  call-free L g h = rw (lawful-fault cat lent L, (unfit-iff cat q).1 g, le-ltb (length row) cat.m h)

  -- And back: where none is met, all three are in order.
  pub call-clear : call_fault cat lent q row ≡ 0 → Lawful cat lent × Fit cat q × (cat.m ≤ length row)
  unfolding call_fault
  call-clear e =
      let (a, b) = first-clear (catalogue_fault cat lent) (cond (unfit cat q) 13 (cond (ltb (length row) cat.m) 11 0)) e in
      let (f, h) = rest (unfit cat q) (ltb (length row) cat.m) refl refl b in
      (fault-lawful cat lent a, f, h)
    where
      rest : (x y : Bool) → unfit cat q ≡ x → ltb (length row) cat.m ≡ y → ◌≡◌ {A = ℕ} (cond x 13 (cond y 11 0)) 0 → Fit cat q × (cat.m ≤ length row)
      rest true y f h z = absurd (omega arith)
      rest false true f h z = absurd (omega arith)
      rest false false f h z = ((unfit-iff cat q).0 f, ltb-false (length row) cat.m h)

module _ (cat : Catalogue) (cells : List ℕ) (b : ℕ) (q : State) (row : List ℕ) where
  -- A refusal is met.
  pub call-refused : (k : ℕ) → call_fault cat (length cells) q row ≡ k → (k ≡ 0 → ⊥) → call cat cells b q row ≡ answer (refused k) q row
  unfolding call
  call-refused k e h = rw e (met k h)
    where
      met : (k : ℕ) → (k ≡ 0 → ⊥) → unless_met k q row (work cat cells b q row) ≡ answer (refused k) q row
      met zero h = absurd (h refl)
      met (suc k) h = refl

  -- None is.
  pub call-works : call_fault cat (length cells) q row ≡ 0 → call cat cells b q row ≡ work cat cells b q row
  unfolding call
  call-works e = rw e

-- ---- the refusals of open

-- Of a stream that is asked for a.
module _ (cat : Catalogue) (lent : ℕ) (a : Asked) (q : Store) where
  pub open-catalogue : (catalogue_fault cat lent ≡ 0 → ⊥) → open_fault cat lent a q ≡ catalogue_fault cat lent
  unfolding open_fault
  open-catalogue h = first_some (catalogue_fault cat lent) _ h

  pub open-stray : Lawful cat lent → stray cat a ≡ true → open_fault cat lent a q ≡ 19
  unfolding open_fault
  open-stray L e = rw (lawful-fault cat lent L, e)

  pub open_full : Lawful cat lent → Askable cat a → 0 < total cat → room_in q ≡ 0 → open_fault cat lent a q ≡ 12
  unfolding open_fault
  open_full L y h e = rw (lawful-fault cat lent L, (stray-iff cat a).1 y, lt-ltb 0 (total cat) h, eq-eqb (room_in q) 0 e)

  pub open_free : Lawful cat lent → Askable cat a → (0 < total cat → 0 < room_in q) → open_fault cat lent a q ≡ 0
  unfolding open_fault
  open_free L y h =
      rw (lawful-fault cat lent L, (stray-iff cat a).1 y, none-and (ltb 0 (total cat)) (eqb (room_in q) 0) (λ e. ne_eqb (room_in q) 0 (some (ltb-true 0 (total cat) e))))
    where
      some : 0 < total cat → room_in q ≡ 0 → ⊥
      some n z = absurd (omega (arith, h n))

  -- And back: where none is met, the catalogue is lawful, the row asked for is there, and there is a record where there is a row.
  pub open-clear : open_fault cat lent a q ≡ 0 → Lawful cat lent × Askable cat a × (0 < total cat → 0 < room_in q)
  unfolding open_fault
  open-clear e =
      let (x, b) = first-clear (catalogue_fault cat lent) (cond (stray cat a) 19 (cond (ltb 0 (total cat) && eqb (room_in q) 0) 12 0)) e in
      let (y, h) = rest (stray cat a) (ltb 0 (total cat)) (eqb (room_in q) 0) refl refl refl b in
      (fault-lawful cat lent x, y, h)
    where
      rest : (x y z : Bool) → stray cat a ≡ x → ltb 0 (total cat) ≡ y → eqb (room_in q) 0 ≡ z → ◌≡◌ {A = ℕ} (cond x 19 (cond (y && z) 12 0)) 0
          → Askable cat a × (0 < total cat → 0 < room_in q)
      rest true y z e f g r = absurd (omega arith)
      rest false true true e f g r = absurd (omega arith)
      rest false true false e f g r =
          ((stray-iff cat a).0 e, λ h. ⊎_elim (λ u. absurd (clash (eq-eqb (room_in q) 0 u) g)) (λ p. p) (eq-zero-or-pos (room_in q)))
      rest false false z e f g r = ((stray-iff cat a).0 e, λ h. absurd (clash (lt-ltb 0 (total cat) h) f))

module _ (cat : Catalogue) (cells : List ℕ) (a : Asked) (low high left right : List ℕ) where
  abbrev fault : ℕ
  fault = open_fault cat (length cells) a (store_in low high left right 0)

  pub opening-refused : (k : ℕ) → fault ≡ k → (k ≡ 0 → ⊥)
      → opening_for cat cells a low high left right ≡ record { refusal = k; after = zeros a low high left right; tests = 0 }
  unfolding opening_for
  opening-refused k e h = rw e (met k h)
    where
      met : (k : ℕ) → (k ≡ 0 → ⊥)
          → unless_refused k (zeros a low high left right) (begun cat cells a low high left right)
          ≡ record { refusal = k; after = zeros a low high left right; tests = 0 }
      met zero h = absurd (h refl)
      met (suc k) h = refl

  -- The refusal given is the first that is met.
  begun-says : (begun cat cells a low high left right).refusal ≡ 0
  unfolding begun
  begun-says = ⊎_elim (λ e. rw e) (λ e. rw e) (which (eqb (total cat) 0))

  pub opening-says : (opening_for cat cells a low high left right).refusal ≡ fault
  unfolding opening_for
  opening-says = by fault
    where
      by : (k : ℕ) → (unless_refused k (zeros a low high left right) (begun cat cells a low high left right)).refusal ≡ k
      by zero = begun-says
      by (suc k) = refl

  pub opening-empty : fault ≡ 0 → total cat ≡ 0
      → opening_for cat cells a low high left right ≡ record { refusal = 0; after = state_for a low high left right 0 0 0; tests = 0 }
  unfolding opening_for begun
  opening-empty e z = rw (e, eq-eqb (total cat) 0 z)

  pub opening-begun : fault ≡ 0 → 0 < total cat
      → opening_for cat cells a low high left right
      ≡ record {
        refusal = 0;
        after = record {
          store = filed (store_in low high left right 0) (key_of bits_per_row (first_grown cat cells a).rows);
          taken = 0;
          next = total cat;
          asked = a;
        };
        tests = (first_grown cat cells a).tests;
      }
  unfolding opening_for begun
  opening-begun e h = rw (e, ne_eqb (total cat) 0 (λ z. absurd (omega arith)))
