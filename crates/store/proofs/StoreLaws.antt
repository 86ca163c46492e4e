-- The store of row sets' keys in four lists, at w bits for each of n rows: what holds of every store, of a copy of one, and the laws of Tree for a
-- good one. `offered` is what the proof of a stream cites. Assumes nothing.
use Prim.Native.Nat.{ℕ, ◌+◌, ◌*◌, ◌<◌}
use mathlib.Core.Bool.{Bool, true, false, not, cond, Bool-discrete}
use mathlib.Core.List.{List}
use mathlib.Core.Logic.{◌⊎◌, inl, inr, ⊎_elim}
use mathlib.Core.Path.{◌≡◌, refl, sym, ap, ap₂, ◌∙◌, subst}
use native.Mathlib.Decide.{ℕ_discrete}
use native.Mathlib.Nat.{eq-or-lt_of_le}
use native.Mathlib.Omega.{arith}
use lib.Dec.{eqb, ltb}
use lib.ListN.{length, get_or, set, length-set}
use lib.Seq.{get_or-set_same, get_or-set_other}
use borrow.Author.Tests.{eqb-true, eqb-false, ltb-true, not-true}
use Rattle.words.specs.Words.{bit_of}
use Rattle.words.proofs.WordLaws.{bits-eq}
use Rattle.keys.specs.TwoWords.{number_in, low_of, high_of}
use Rattle.keys.proofs.TwoWordLaws.{number-words}
use Rattle.store.specs.Store.{Store, room_in, link_of, search_of, filed, named, added, answer_of, store_after, Copy}
use Rattle.store.specs.Looks.{Looked, Found, Absent, Damaged, Added, Full, Broken}
pub use Rattle.store.specs.Store.{key_at}
pub use Rattle.store.specs.Good.{link_at, Key, StoreTree, GoodStore, Stored}
use Rattle.store.specs.Good.{Tree}
use Rattle.store.proofs.LookLaws.{Inside, walk_inside, walk-copy}
use Rattle.store.proofs.Tree.{Telling, New, Outcome, Grown, single, moved, searched, grown, deepen}

-- ---- every store

pub search-inside : (q : Store) (k deepest : ℕ) → 0 < q.found → Inside q.found deepest (search_of q k deepest)
unfolding search_of
search-inside q k deepest l = walk_inside (λ p. eqb (key_at q p) k) (bit_of k) (link_at q) q.found deepest deepest 0 0 (omega arith) l

-- The record whose empty link ended a search is one of the store's.
pub absent-place : (q : Store) (k deepest : ℕ) {p : ℕ} {s : Bool} {n : ℕ} → 0 < q.found → Absent p s n ≡ search_of q k deepest → p < q.found
absent-place q k deepest l e = (subst (Inside q.found deepest) (sym e) (search-inside q k deepest l)).0

-- A refused offer leaves the store as it was.
pub refused-stays : (q : Store) (k : ℕ) (a : Looked) → (answer_of q a ≡ Full) ⊎ (answer_of q a ≡ Broken) → store_after q k a ≡ q
unfolding answer_of store_after
refused-stays q k (Found p n) h = refl
refused-stays q k (Damaged n) h = refl
refused-stays q k (Absent p s n) h = by (ltb q.found (room_in q)) h
  where
    by : (b : Bool) → (cond b (Added n) Full ≡ Full) ⊎ (cond b (Added n) Full ≡ Broken) → cond b (added q k p s) q ≡ q
    by true (inl e) = let z : ◌≡◌ {A = ℕ} 0 1 = cc in absurd (omega arith)
    by true (inr e) = let z : ◌≡◌ {A = ℕ} 0 1 = cc in absurd (omega arith)
    by false x = refl

-- No offer changes how many records there is room for.
named-length : (b : Bool) (l : List ℕ) (p v : ℕ) → length (named b l p v) ≡ length l
unfolding named
named-length true l p v = length-set l p v
named-length false l p v = refl

pub room-filed : (q : Store) (k : ℕ) → room_in (filed q k) ≡ room_in q
unfolding filed
room-filed q k = simp length-set

pub room-added : (q : Store) (k p : ℕ) (s : Bool) → room_in (added q k p s) ≡ room_in q
unfolding added filed
room-added q k p s = simp (named-length, length-set)

pub room_after : (q : Store) (k : ℕ) (a : Looked) → room_in (store_after q k a) ≡ room_in q
unfolding store_after
room_after q k (Found p n) = refl
room_after q k (Damaged n) = refl
room_after q k (Absent p s n) = by (ltb q.found (room_in q))
  where
    by : (b : Bool) → room_in (cond b (added q k p s) q) ≡ room_in q
    by true = room-added q k p s
    by false = refl

-- ---- an added record, cell by cell

module _ (l : List ℕ) (found p v : ℕ) (hp : p < found) (hf : found < length l) where
  named-same : get_or (named true (set l found 0) p v) p 0 ≡ v
  unfolding named
  named-same = get_or-set_same (set l found 0) p v 0 (simp length-set (omega arith))

  named_new : (b : Bool) → get_or (named b (set l found 0) p v) found 0 ≡ 0
  unfolding named
  named_new true = get_or-set_other (set l found 0) p found v 0 (λ e. omega arith) ∙ get_or-set_same l found 0 0 hf
  named_new false = get_or-set_same l found 0 0 hf

  named_other : (b : Bool) (q : ℕ) → q < found → (q ≡ p → b ≡ true → ⊥) → get_or (named b (set l found 0) p v) q 0 ≡ get_or l q 0
  unfolding named
  named_other true q h m = get_or-set_other (set l found 0) p q v 0 (λ e. m e refl) ∙ get_or-set_other l found q 0 0 (λ e. omega arith)
  named_other false q h m = get_or-set_other l found q 0 0 (λ e. omega arith)

-- The key of a filed record is the key that was filed.
pub filed-key : (q : Store) (k : ℕ) → q.found < room_in q → key_at (filed q k) q.found ≡ k
unfolding filed
filed-key q k h =
    ap₂ number_in (get_or-set_same q.low q.found (low_of k) 0 (omega arith)) (get_or-set_same q.high q.found (high_of k) 0 (omega arith))
    ∙ number-words k

pub added-cells : (q : Store) (k p : ℕ) (s : Bool) → p < q.found → q.found < room_in q
    → Grown bit_of q.found (key_at q) (key_at (added q k p s)) (link_at q) (link_at (added q k p s)) k p s
unfolding added filed link_of
added-cells q k p s hp hr =
    record {
      old-key = λ i l. old-key i l;
      new-key = filed-key q k hr;
      hung = hung s;
      bare = bare;
      old-link = old-link;
    }
  where
    old-key : (i : ℕ) → i < q.found → key_at (added q k p s) i ≡ key_at q i
    old-key i l =
        ap₂ number_in (get_or-set_other q.low q.found i (low_of k) 0 (λ x. omega arith))
        (get_or-set_other q.high q.found i (high_of k) 0 (λ x. omega arith))

    hl : q.found < length q.left
    hl = omega arith

    hr' : q.found < length q.right
    hr' = omega arith

    hung : (b : Bool)
        → link_of (named (not b) (set q.left q.found 0) p (q.found + 1)) (named b (set q.right q.found 0) p (q.found + 1)) b p ≡ q.found + 1
    hung true = named-same q.right q.found p (q.found + 1) hp hr'
    hung false = named-same q.left q.found p (q.found + 1) hp hl

    bare : (b : Bool) → link_at (added q k p s) b q.found ≡ 0
    bare true = named_new q.right q.found p (q.found + 1) hp hr' s
    bare false = named_new q.left q.found p (q.found + 1) hp hl (not s)

    old-link : (b : Bool) (i : ℕ) → i < q.found → ((i ≡ p) × (b ≡ s) → ⊥) → link_at (added q k p s) b i ≡ link_at q b i
    old-link true i l m = named_other q.right q.found p (q.found + 1) hp hr' s i l (λ x y. m (x, sym y))
    old-link false i l m = named_other q.left q.found p (q.found + 1) hp hl (not s) i l (λ x y. m (x, sym (not-true s y)))

-- ---- a copy

-- A copy has the keys and the links of the store.
pub copy_key : (q r : Store) → Copy q r → (p : ℕ) → p < q.found → key_at r p ≡ key_at q p
copy_key q r c p l = ap₂ number_in (c.low p l) (c.high p l)

copy-link : (q r : Store) → Copy q r → (s : Bool) (p : ℕ) → p < q.found → link_at r s p ≡ link_at q s p
unfolding link_of
copy-link q r c true p l = c.right p l
copy-link q r c false p l = c.left p l

-- A search of a copy says the same.
pub copy-search : (q r : Store) (k deepest : ℕ) → Copy q r → 0 < q.found → search_of r k deepest ≡ search_of q k deepest
unfolding search_of
copy-search q r k deepest c l =
    rw c.found
    (walk-copy (λ p. eqb (key_at q p) k) (λ p. eqb (key_at r p) k) (bit_of k) (link_at q) (link_at r) q.found
    (λ p h. ap (λ (x : ℕ). eqb x k) (copy_key q r c p h)) (copy-link q r c) deepest 0 0 l)

-- The same record added to a store and to its copy: still a copy.
pub copy-added : (q r : Store) (k p : ℕ) (s : Bool) → Copy q r → p < q.found → q.found < room_in q → r.found < room_in r
    → Copy (added q k p s) (added r k p s)
unfolding added filed link_of
copy-added q r k p s c hp hq hr =
    record {
      found = ap (λ (x : ℕ). x + 1) c.found;
      low = λ i l. word q.low r.low (low_of k) i (omega arith) (omega arith) c.low l;
      high = λ i l. word q.high r.high (high_of k) i (omega arith) (omega arith) c.high l;
      left = λ i l. links false i l;
      right = λ i l. links true i l;
    }
  where
    e : r.found ≡ q.found
    e = c.found

    a : Grown bit_of q.found (key_at q) (key_at (added q k p s)) (link_at q) (link_at (added q k p s)) k p s
    a = added-cells q k p s hp hq

    b : Grown bit_of r.found (key_at r) (key_at (added r k p s)) (link_at r) (link_at (added r k p s)) k p s
    b = added-cells r k p s (omega arith) hr

    place : (i : ℕ) → i < q.found + 1 → (i ≡ q.found) ⊎ (i < q.found)
    place i l = eq-or-lt_of_le (omega arith)

    -- The same word written into both, at the same place.
    word : (l m : List ℕ) (v i : ℕ) → q.found < length l → r.found < length m → ((j : ℕ) → j < q.found → get_or m j 0 ≡ get_or l j 0) → i < q.found + 1
        → get_or (set m r.found v) i 0 ≡ get_or (set l q.found v) i 0
    word l m v i hl hm same h =
        ⊎_elim
        (λ (x : i ≡ q.found).
        ap (λ (j : ℕ). get_or (set m r.found v) j 0) (x ∙ sym e)
        ∙ get_or-set_same m r.found v 0 hm
        ∙ sym (get_or-set_same l q.found v 0 hl)
        ∙ ap (λ (j : ℕ). get_or (set l q.found v) j 0) (sym x))
        (λ x. get_or-set_other m r.found i v 0 (λ y. omega arith) ∙ same i x ∙ sym (get_or-set_other l q.found i v 0 (λ y. omega arith)))
        (place i h)

    other : (t : Bool) (i : ℕ) → i < q.found → ((i ≡ p) × (t ≡ s) → ⊥) → link_at (added r k p s) t i ≡ link_at (added q k p s) t i
    other t i l m = b.old-link t i (omega arith) m ∙ copy-link q r c t i l ∙ sym (a.old-link t i l m)

    old : (t : Bool) (i : ℕ) → i < q.found → Dec (i ≡ p) → Dec (t ≡ s) → link_at (added r k p s) t i ≡ link_at (added q k p s) t i
    old t i l (yes x) (yes y) =
        ap₂ (link_at (added r k p s)) y x ∙ b.hung ∙ ap (λ (n : ℕ). n + 1) e ∙ sym a.hung ∙ sym (ap₂ (link_at (added q k p s)) y x)
    old t i l (yes x) (no y) = other t i l (λ z. y z.1)
    old t i l (no x) y = other t i l (λ z. x z.0)

    links : (t : Bool) (i : ℕ) → i < q.found + 1 → link_at (added r k p s) t i ≡ link_at (added q k p s) t i
    links t i l =
        ⊎_elim
        (λ (x : i ≡ q.found). ap (link_at (added r k p s) t) (x ∙ sym e) ∙ b.bare t ∙ sym (a.bare t) ∙ ap (link_at (added q k p s) t) (sym x))
        (λ x. old t i x (ℕ_discrete i p) (Bool-discrete t s))
        (place i l)

-- ---- a good store, at w bits for each of n rows

abbrev pub telling : (w n : ℕ) → Telling bit_of (w * n) (Key w n)
telling w n = record { same = eqb; yes-same = eqb-true; not_same = eqb-false; apart = bits-eq (w * n) }

-- What a search of a good store answers.
pub search-answers : (w n : ℕ) (q : Store) (depth : ℕ → ℕ) → StoreTree w n q depth → (k : ℕ) → Key w n k
    → Outcome bit_of q.found (key_at q) (link_at q) depth k (search_of q k (w * n))
unfolding search_of
search-answers w n q depth t k g = searched bit_of (w * n) (Key w n) (telling w n) q.found (key_at q) (link_at q) depth t k g

-- The store of one record is good.
pub started : (w n : ℕ) (q : Store) (k : ℕ) → q.found ≡ 0 → 0 < room_in q → Key w n k → GoodStore w n (filed q k)
unfolding filed link_of
started w n q k e l g = (
  (λ p. 0),
  subst (λ (x : ℕ). Tree bit_of (Key w n) x (key_at (filed q k)) (link_at (filed q k)) (λ p. 0)) (ap (λ (x : ℕ). x + 1) (sym e))
      (single bit_of (Key w n) (key_at (filed q k)) (link_at (filed q k)) (subst (Key w n) (sym first_key) g) bare),
)
  where
    first_key : key_at (filed q k) 0 ≡ k
    first_key = subst (λ (x : ℕ). key_at (filed q k) x ≡ k) e (filed-key q k (omega arith))

    first : (l : List ℕ) (v : ℕ) → 0 < length l → get_or (set l q.found v) 0 0 ≡ v
    first l v h = subst (λ (x : ℕ). get_or (set l x v) 0 0 ≡ v) (sym e) (get_or-set_same l 0 v 0 h)

    bare : (s : Bool) → link_at (filed q k) s 0 ≡ 0
    bare true = first q.right 0 (omega arith)
    bare false = first q.left 0 (omega arith)

-- A record added where the search for its key ended keeps the store good.
pub added-good : (w n : ℕ) (q : Store) (depth : ℕ → ℕ) → StoreTree w n q depth → (k : ℕ) → Key w n k → (p : ℕ) (s : Bool) (looks : ℕ)
    → New bit_of q.found (key_at q) (link_at q) depth k p s looks → q.found < room_in q → StoreTree w n (added q k p s) (deepen q.found depth p)
unfolding added filed
added-good w n q depth t k g p s looks e l =
    grown bit_of (w * n) (Key w n) (telling w n) q.found (key_at q) (key_at (added q k p s)) (link_at q) (link_at (added q k p s)) depth t k g p s looks e
    (added-cells q k p s e.here l)

-- A store with the keys and the links of a good one is good, ..
pub alike-good : (w n : ℕ) (q r : Store) → r.found ≡ q.found → ((p : ℕ) → p < q.found → key_at r p ≡ key_at q p)
    → ((s : Bool) (p : ℕ) → p < q.found → link_at r s p ≡ link_at q s p) → GoodStore w n q → GoodStore w n r
alike-good w n q r e keys links (depth, t) = (
  depth,
  subst (λ (x : ℕ). Tree bit_of (Key w n) x (key_at r) (link_at r) depth) (sym e)
      (moved bit_of (Key w n) q.found (key_at q) (key_at r) (link_at q) (link_at r) depth t keys links),
)

-- .. and so is a copy of it.
pub copy-good : (w n : ℕ) (q r : Store) → Copy q r → GoodStore w n q → GoodStore w n r
copy-good w n q r c = alike-good w n q r c.found (copy_key q r c) (copy-link q r c)

-- ---- one offer to a good store, by what the search says

-- Found: the key is stored. Absent: it is not, and with a record free the store that has it is good. Damaged: never.
abbrev pub Offered : ℕ → ℕ → Store → ℕ → Looked → Type 0
Offered w n q k (Found p looks) = Stored q k
Offered w n q k (Absent p s looks) = (Stored q k → ⊥) × (q.found < room_in q → GoodStore w n (added q k p s))
Offered w n q k (Damaged looks) = ⊥

pub offered : (w n : ℕ) (q : Store) → GoodStore w n q → (k : ℕ) → Key w n k → Offered w n q k (search_of q k (w * n))
offered w n q (depth, t) k g = by (search_of q k (w * n)) (search-answers w n q depth t k g)
  where
    by : (a : Looked) → Outcome bit_of q.found (key_at q) (link_at q) depth k a → Offered w n q k a
    by (Found p looks) e = (p, e.here, e.it)
    by (Absent p s looks) e = (
      (λ z. e.nowhere z.0 z.1 z.2),
      (λ l. (deepen q.found depth p, added-good w n q depth t k g p s looks e l)),
    )
    by (Damaged looks) e = e

-- A stored key is found.
pub stored-found : (w n : ℕ) (q : Store) → GoodStore w n q → (k : ℕ) → Key w n k → Stored q k → (p looks : ℕ) × (search_of q k (w * n) ≡ Found p looks)
stored-found w n q t k g h = by (search_of q k (w * n)) (offered w n q t k g)
  where
    by : (a : Looked) → Offered w n q k a → (p looks : ℕ) × (a ≡ Found p looks)
    by (Found p looks) e = (p, looks, refl)
    by (Absent p s looks) e = absurd (e.0 h)
    by (Damaged looks) e = absurd e

-- An offer keeps the store good.
pub after-good : (w n : ℕ) (q : Store) → GoodStore w n q → (k : ℕ) → Key w n k → GoodStore w n (store_after q k (search_of q k (w * n)))
unfolding store_after
after-good w n q t k g = by (search_of q k (w * n)) (offered w n q t k g)
  where
    free : (p : ℕ) (s : Bool) → (q.found < room_in q → GoodStore w n (added q k p s)) → (b : Bool) → ltb q.found (room_in q) ≡ b
        → GoodStore w n (cond b (added q k p s) q)
    free p s h true e = h (ltb-true _ _ e)
    free p s h false e = t

    by : (a : Looked) → Offered w n q k a → GoodStore w n (store_after q k a)
    by (Found p looks) e = t
    by (Absent p s looks) e = free p s e.1 (ltb q.found (room_in q)) refl
    by (Damaged looks) e = absurd e
