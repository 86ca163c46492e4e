-- What open gives: where it refuses, and a sound stream to begin with where it does not. Assumes nothing.
use Prim.Native.Nat.{ℕ, ◌<◌}
use native.Mathlib.Omega.{arith}
use native.Mathlib.Nat.{eq-zero-or-pos}
use mathlib.Core.Path.{◌≡◌, refl, sym, subst, ◌∙◌}
use mathlib.Core.Bool.{true, false}
use mathlib.Core.Logic.{◌⊎◌, inl, inr, ⊎_elim, ◌↔◌}
use mathlib.Core.List.Memᴰ
use mathlib.Core.List.{List, [], ◌∷◌}
use lib.ListN.{length}
use borrow.Author.Tests.{eq-eqb, ne_eqb}
use Rattle.laws.proofs.TestLaws.{which}
use Rattle.keys.specs.Keys.{bits_per_row, key_of}
use Rattle.tables.specs.declared.Catalogue.{Catalogue}
use Rattle.tables.specs.Catalogues.{total}
use Rattle.tables.specs.Checks.{Lawful}
use Rattle.disjunction.specs.Sets.{MoreOf}
use Rattle.disjunction.specs.Rule.{rows}
use Rattle.disjunction.specs.Asked.{Asked, Sought, first_for}
use Rattle.disjunction.specs.Keeping as Sets
use Rattle.disjunction.specs.Keeping.{list_open}
use Rattle.disjunction.proofs.KeepingLaws.{Going, going-sought, going-open, none-jcc}
use Rattle.disjunction.proofs.AskedLaws.{sought-maximal, first-there, first-wanted}
use Rattle.rows.proofs.WorldLaws.{world-symmetric, rows-total}
use Rattle.store.specs.Store.{store_in, room_in, filed}
use Rattle.store.proofs.StoreLaws.{filed-key, started, room-filed}
use Rattle.machine.proofs.CountLaws.{able-there}
use Rattle.machine.specs.Machine.{State, state_for, stray, Askable, open_fault, first_grown, opening_for}
use Rattle.machine.proofs.RefusalLaws.{stray-iff, open-stray, open_full, open_free, open-clear, opening-says, opening-empty, opening-begun}
use Rattle.claims.specs.Demands.{OpenFull}
use Rattle.claims.proofs.Live.{W, Live, maximal-named}
use Rattle.claims.proofs.Calls.{Sound, list_of}

-- `a` is what the stream is asked for.
module _ (cat : Catalogue) (cells : List ℕ) (a : Asked) where
  -- What open gives in a store of c records.
  pub record Begins (c : ℕ) (q : State) : Type 0 where
    pub sound : Sound cat cells a c q
    pub list : list_of cat cells a c q sound ≡ list_open (W cat cells) a
    pub taken : q.taken ≡ 0
    pub next : q.next ≡ total cat
    pub room : room_in q.store ≡ c

  -- The first row's set is maximal and wanted, and the rule goes on from it.
  abbrev opened : ℕ → Sets.State
  opened n = record { sets = (first_grown cat cells a).rows ∷ []; taken = 0; next = n }

  first-going : Askable cat a → 0 < total cat → Going (W cat cells) a (opened (total cat))
  first-going y h =
      let there = able-there cat cells a y in
      let r = first-there (W cat cells) a there (rw (rows-total cat cells) h) in
      let w = first-wanted (W cat cells) (world-symmetric cat cells) a there in
      subst (λ (n : ℕ). Going (W cat cells) a (opened n)) (rows-total cat cells)
      (going-open (W cat cells) a (world-symmetric cat cells) (first_for (W cat cells) a) r w)

module _ (cat : Catalogue) (cells : List ℕ) (a : Asked) (low high left right : List ℕ) where
  abbrev fault : ℕ
  fault = open_fault cat (length cells) a (store_in low high left right 0)

  abbrev room : ℕ
  room = room_in (store_in low high left right 0)

  says : (opening_for cat cells a low high left right).refusal ≡ fault
  says = opening-says cat cells a low high left right

  -- Open's refusal is the first one met, so what is said of that is said of open.
  pub opens-iff : ((opening_for cat cells a low high left right).refusal ≡ 0) ↔ (Lawful cat (length cells) × Askable cat a × (0 < total cat → 0 < room))
  opens-iff = (
    λ e. open-clear cat (length cells) a (store_in low high left right 0) (sym says ∙ e),
    λ h. says ∙ open_free cat (length cells) a (store_in low high left right 0) h.0 h.1 h.2,
  )

  pub stray-met : Lawful cat (length cells) → stray cat a ≡ true → (opening_for cat cells a low high left right).refusal ≡ 19
  stray-met L e = says ∙ open-stray cat (length cells) a (store_in low high left right 0) L e

  -- 19 and 12, behind a lawful catalogue.
  pub stray-met-iff : Lawful cat (length cells) → ((opening_for cat cells a low high left right).refusal ≡ 19) ↔ (Askable cat a → ⊥)
  stray-met-iff L = (
    λ e y. absurd (under (eq-zero-or-pos (total cat)) (eq-zero-or-pos room) y e),
    λ n. ⊎_elim (stray-met L)
        (λ f. absurd (n ((stray-iff cat a).0 f))) (which (stray cat a)),
  )
    where
      under : (total cat ≡ 0) ⊎ (0 < total cat) → (room ≡ 0) ⊎ (0 < room) → Askable cat a → (opening_for cat cells a low high left right).refusal ≡ 19 → ⊥
      under (inr h) (inl z) y e =
          let d : ◌≡◌ {A = ℕ} 12 19 = sym (says ∙ open_full cat (length cells) a (store_in low high left right 0) L y h z) ∙ e in omega arith
      under (inr h) (inr p) y e = let d : ◌≡◌ {A = ℕ} 0 19 = sym (opens-iff.1 (L, y, λ n. p)) ∙ e in omega arith
      under (inl z) r y e = let d : ◌≡◌ {A = ℕ} 0 19 = sym (opens-iff.1 (L, y, λ n. absurd (omega arith))) ∙ e in omega arith

  pub full-iff : Lawful cat (length cells)
      → ((opening_for cat cells a low high left right).refusal ≡ 12) ↔ (Askable cat a × (0 < total cat) × (room ≡ 0))
  full-iff L = (
    λ e. by (which (stray cat a)) (eq-zero-or-pos (total cat)) (eq-zero-or-pos room) e,
    λ h. says ∙ open_full cat (length cells) a (store_in low high left right 0) L h.0 h.1 h.2,
  )
    where
      free : Askable cat a → (0 < total cat → 0 < room) → (opening_for cat cells a low high left right).refusal ≡ 12 → ⊥
      free y h e = let z : ◌≡◌ {A = ℕ} 0 12 = sym (opens-iff.1 (L, y, h)) ∙ e in omega arith

      by : (stray cat a ≡ true) ⊎ (stray cat a ≡ false) → (total cat ≡ 0) ⊎ (0 < total cat) → (room ≡ 0) ⊎ (0 < room)
          → (opening_for cat cells a low high left right).refusal ≡ 12 → Askable cat a × (0 < total cat) × (room ≡ 0)
      by (inl s) n r e = let z : ◌≡◌ {A = ℕ} 19 12 = sym (stray-met L s) ∙ e in absurd (omega arith)
      by (inr s) (inr h) (inl z) e = ((stray-iff cat a).0 s, h, z)
      by (inr s) (inr h) (inr p) e = absurd (free ((stray-iff cat a).0 s) (λ n. p) e)
      by (inr s) (inl z) r e = absurd (free ((stray-iff cat a).0 s) (λ n. absurd (omega arith)) e)

  -- ---- the stream to begin with

  begins-empty : Askable cat a → total cat ≡ 0 → Begins cat cells a room (state_for a low high left right 0 0 0)
  unfolding list_open
  begins-empty y z =
      record {
        sound = inr (record { none = z; found = refl; taken = refl; next = refl; asked = refl; able = y });
        list = rw (eq-eqb (length (rows (W cat cells))) 0 (rows-total cat cells ∙ z)) refl;
        taken = refl;
        next = sym z;
        room = refl;
      }

  module _ (L : Lawful cat (length cells)) (y : Askable cat a) (h : 0 < total cat) (p : 0 < room) where
    abbrev key : ℕ
    key = key_of bits_per_row (first_grown cat cells a).rows

    abbrev first : State
    first = record { store = filed (store_in low high left right 0) key; taken = 0; next = total cat; asked = a }

    first_live : Live cat cells a room first
    unfolding filed
    first_live =
        let g = first-going cat cells a y h in
        let x = g.maximal (first_grown cat cells a).rows (Memᴰ.head refl) in
        record {
          sets = (first_grown cat cells a).rows ∷ [];
          tree = started bits_per_row cat.n (store_in low high left right 0) key refl p (maximal-named cat cells L (first_grown cat cells a).rows x).low;
          long = refl;
          keyed = λ i l. let z : i ≡ 0 = omega arith in rw z (filed-key (store_in low high left right 0) key p);
          going = g;
          size = room-filed (store_in low high left right 0) key;
          within = omega arith;
          begun = λ z. refl;
          some = h;
          asked = refl;
          able = y;
        }

    begins-live : Begins cat cells a room first
    unfolding list_open first_live
    begins-live =
        record {
          sound = inl first_live;
          list = rw (ne_eqb (length (rows (W cat cells))) 0 (λ z. absurd (omega (arith, rows-total cat cells))), rows-total cat cells) refl;
          taken = refl;
          next = refl;
          room = room-filed (store_in low high left right 0) key;
        }

  pub begins : (opening_for cat cells a low high left right).refusal ≡ 0
      → Lawful cat (length cells) × Begins cat cells a room (opening_for cat cells a low high left right).after
  begins e = let (L, y, s) = opens-iff.0 e in (L, by L y s (eq-zero-or-pos (total cat)))
    where
      free : fault ≡ 0
      free = sym says ∙ e

      by : Lawful cat (length cells) → Askable cat a → (0 < total cat → 0 < room) → (total cat ≡ 0) ⊎ (0 < total cat)
          → Begins cat cells a room (opening_for cat cells a low high left right).after
      by L y s (inl z) = rw (opening-empty cat cells a low high left right free z) (begins-empty y z)
      by L y s (inr h) = rw (opening-begun cat cells a low high left right free h) (begins-live L y h (s h))

-- ---- 12

module _ (cat : Catalogue) (cells : List ℕ) (a : Asked) where
  -- There is a set that is asked for exactly where there is a row.
  some-set : Askable cat a → (0 < total cat) ↔ MoreOf (Sought (W cat cells) a) 0
  some-set y = (
    λ h.
        let g = first-going cat cells a y h in
        ((first_grown cat cells a).rows ∷ [], g.distinct, going-sought (W cat cells) a (opened cat cells a (total cat)) g, omega arith),
    λ m. ⊎_elim (λ z. absurd (none z m)) (λ h. h) (eq-zero-or-pos (total cat)),
  )
    where
      none : total cat ≡ 0 → MoreOf (Sought (W cat cells) a) 0 → ⊥
      none z (x ∷ l, d, m, h) =
          none-jcc (W cat cells) (rows-total cat cells ∙ z) x (sought-maximal (W cat cells) a x (m x (Memᴰ.head refl))).jcc
      none z ([], d, m, h) = absurd (omega arith)

  pub open-full-more : OpenFull cat cells a
  open-full-more k u l r L y = (
    λ e. let (_, h, z) = (full-iff cat cells a k u l r L).0 e in (z, (some-set y).0 h),
    λ x. (full-iff cat cells a k u l r L).1 (y, (some-set y).1 x.1, x.0),
  )
