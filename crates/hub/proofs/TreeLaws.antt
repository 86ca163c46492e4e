-- The search tree over the listed keys: what a search of it says, and that it grows by one link for each new key. The keys are its own already, and
-- the links of records that are not used yet are 0, so that a record added to the store is a link more and nothing else. Assumes nothing.
use Prim.Native.Nat.{ℕ, ◌+◌, ◌-◌, ◌*◌, ◌≤◌, ◌<◌, min}
use native.Mathlib.Omega.{arith}
use native.Mathlib.Nat.{eq-or-lt_of_le, not-suc-le-zero}
use native.Mathlib.Decide.{dec_lt}
use mathlib.Core.Path.{◌≡◌, refl, sym, ap, ap₂, subst, ◌∙◌}
use mathlib.Core.Logic.{⊎_elim, ◌↔◌, ∥∥₁_elim}
use Rattle.std.proofs.Math.Bool.{Bool-set}
use mathlib.Core.Bool.{Bool, true, false, not}
use mathlib.Core.List.{List}
use lib.ListN.{length, get_or, set, replicate, length-set, length-replicate, get_or-replicate, get_or-eq_default}
use lib.Seq.{get_or-set_other, set-get_or}
use lib.Dec.{eqb}
use Rattle.std.specs.List.{range_with_len, list_any}
use Rattle.laws.specs.Tests.{any}
use Rattle.laws.proofs.TestLaws.{not_yes}
use Rattle.laws.proofs.ListLaws.{length-tab, tab-at}
use Rattle.words.specs.Words.{bit_of}
use Rattle.keys.specs.Keys.{bits_per_row}
use Rattle.keys.specs.TwoWords.{number_in}
use Rattle.store.specs.Store.{Store, store_in, key_at, most_records, room_in, link_of, search_of, filed, named, added, Hangs}
use Rattle.store.specs.Good.{link_at, GoodStore, Stored}
use Rattle.store.specs.Looks.{Looked, Found, Absent, Damaged}
use Rattle.store.proofs.Tree.{Grown}
use Rattle.store.proofs.StoreLaws.{Offered, offered, started, absent-place, filed-key, added-cells, alike-good}
use Rattle.hub.specs.Promises.{listed_keys}
use Rattle.hub.specs.Searching.{among, Low, Linked, records_of}
use Rattle.hub.proofs.KeyVerdicts.{among-iff}
use Rattle.hub.proofs.RangeLaws.{any-range}

-- What a search says of the first k keys.
abbrev pub Tells : List ℕ → ℕ → ℕ → Looked → Type 0
Tells words k word (Found p looks) = among words k word ≡ true
Tells words k word (Absent p s looks) = among words k word ≡ false
Tells words k word (Damaged looks) = ⊥

-- How long a list is, and its keys.
pub keys_length : (low high : List ℕ) → length (listed_keys low high) ≡ min (length low) (length high)
unfolding listed_keys
keys_length low high = length-tab (min (length low) (length high)) (λ i. number_in (get_or low i 0) (get_or high i 0))

pub keys-at : (low high : List ℕ) (i : ℕ) → i < length (listed_keys low high) → get_or (listed_keys low high) i 0 ≡ number_in (get_or low i 0) (get_or high i 0)
unfolding listed_keys
keys-at low high i l =
    tab-at (min (length low) (length high)) (λ i. number_in (get_or low i 0) (get_or high i 0)) i (omega (arith, keys_length low high))

-- An entry's own key.
pub key-own : (low high : List ℕ) (i : ℕ) {k : ℕ} → i < length (listed_keys low high) → k ≡ number_in (get_or low i 0) (get_or high i 0)
    → k ≡ get_or (listed_keys low high) i 0
key-own low high i b e = e ∙ sym (keys-at low high i b)

-- A listed key has both its words.
pub keys-both : (low high : List ℕ) (i : ℕ) → i < length (listed_keys low high) → (i < length low) × (i < length high)
keys-both low high i l = (omega (arith, keys_length low high), omega (arith, keys_length low high))

module _ (n : ℕ) (low high left right : List ℕ) where
  abbrev tree : ℕ → Store
  tree k = store_in low high left right k

  abbrev words : List ℕ
  words = listed_keys low high

  -- The keys of the tree are those that are listed.
  stored-among : (k word : ℕ) → k ≤ length words → Stored (tree k) word ↔ ((j : ℕ) × (j < k) × (get_or words j 0 ≡ word))
  stored-among k word h = (
    λ (j, b, e). (j, b, keys-at low high j (omega arith) ∙ e),
    λ (j, b, e). (j, b, sym (keys-at low high j (omega arith)) ∙ e),
  )

  tells-one : (k word : ℕ) (a : Looked) → IsProp (Tells words k word a)
  tells-one k word (Found p looks) = Bool-set (among words k word) true
  tells-one k word (Absent p s looks) = Bool-set (among words k word) false
  tells-one k word (Damaged looks) = λ x y. absurd x

  pub tree-tells : (k word : ℕ) → ∥ Linked n low high left right k ∥₁ → 0 < k → k ≤ length words → Low n word
      → Tells words k word (search_of (tree k) word (bits_per_row * n))
  tree-tells k word t p h g =
      ∥∥₁_elim t (tells-one k word (search_of (tree k) word (bits_per_row * n)))
      (λ l. by (search_of (tree k) word (bits_per_row * n)) (offered bits_per_row n (tree k) (l.good p) word g))
    where
      by : (a : Looked) → Offered bits_per_row n (tree k) word a → Tells words k word a
      by (Found q looks) e = (among-iff words k word).1 ((stored-among k word h).0 e)
      by (Absent q s looks) e = not_yes (among words k word) (λ y. e.0 ((stored-among k word h).1 ((among-iff words k word).0 y)))
      by (Damaged looks) e = e

  -- ---- a key more

  -- The links of a record that is not used yet are 0 as they are.
  same_left : (k : ℕ) → Linked n low high left right k → set left k 0 ≡ left
  unfolding link_of
  same_left k l = ap (set left k) (sym (l.bare false k (omega arith))) ∙ set-get_or left k 0

  same-right : (k : ℕ) → Linked n low high left right k → set right k 0 ≡ right
  unfolding link_of
  same-right k l = ap (set right k) (sym (l.bare true k (omega arith))) ∙ set-get_or right k 0

  -- The first key needs no link.
  pub linked-first : Linked n low high left right 0 → 0 < length words → Low n (get_or words 0 0) → Linked n low high left right 1
  unfolding filed
  linked-first l h g =
      record {
        long-left = l.long-left;
        long-right = l.long-right;
        good = λ p. alike-good bits_per_row n (filed (tree 0) key) (tree 1) refl keys links (started bits_per_row n (tree 0) key refl room g);
        bare = λ s p b. l.bare s p (omega arith);
      }
    where
      key : ℕ
      key = get_or words 0 0

      room : 0 < room_in (tree 0)
      room = omega (arith, keys_length low high, l.long-left, l.long-right)

      keys : (p : ℕ) → p < 1 → key_at (tree 1) p ≡ key_at (filed (tree 0) key) p
      keys p b =
          let e : p ≡ 0 = omega arith in
          rw e (sym (keys-at low high 0 h) ∙ sym (filed-key (tree 0) key room))

      links : (s : Bool) (p : ℕ) → p < 1 → link_at (tree 1) s p ≡ link_at (filed (tree 0) key) s p
      links s p b = sym (ap₂ (λ (x y : List ℕ). link_of x y s p) (same_left 0 l) (same-right 0 l))

  -- A later one is named by the link that ended the search for it.
  pub linked-next : (k p : ℕ) (s : Bool) (looks : ℕ) (left' right' : List ℕ) → Linked n low high left right k → 0 < k → k < length words → k < most_records
      → Low n (get_or words k 0) → Absent p s looks ≡ search_of (tree k) (get_or words k 0) (bits_per_row * n) → Hangs left right p s k left' right'
      → Linked n low high left' right' (k + 1)
  unfolding named link_of added filed
  linked-next k p s looks left' right' l h b m g e r =
      record {
        long-left = ap length r.left ∙ named-length (not s) left ∙ l.long-left;
        long-right = ap length r.right ∙ named-length s right ∙ l.long-right;
        good = λ q.
            alike-good bits_per_row n (added (tree k) key p s) (store_in low high left' right' (k + 1)) refl keys links
            (grown (search_of (tree k) key (bits_per_row * n)) e (offered bits_per_row n (tree k) (l.good h) key g));
        bare = bare;
      }
    where
      key : ℕ
      key = get_or words k 0

      before : p < k
      before = absent-place (tree k) key (bits_per_row * n) h e

      room : k < room_in (tree k)
      room = omega (arith, keys_length low high, l.long-left, l.long-right)

      named-length : (c : Bool) (xs : List ℕ) → length (named c xs p (k + 1)) ≡ length xs
      named-length true xs = length-set xs p (k + 1)
      named-length false xs = refl

      named_past : (c : Bool) (xs : List ℕ) (q : ℕ) → k + 1 ≤ q → get_or (named c xs p (k + 1)) q 0 ≡ get_or xs q 0
      named_past true xs q a = get_or-set_other xs p q (k + 1) 0 (λ (z : q ≡ p). omega (arith, before))
      named_past false xs q a = refl

      bare : (t : Bool) (q : ℕ) → k + 1 ≤ q → link_of left' right' t q ≡ 0
      bare true q a = ap (λ (x : List ℕ). get_or x q 0) r.right ∙ named_past s right q a ∙ l.bare true q (omega arith)
      bare false q a = ap (λ (x : List ℕ). get_or x q 0) r.left ∙ named_past (not s) left q a ∙ l.bare false q (omega arith)

      grown : (a : Looked) → Absent p s looks ≡ a → Offered bits_per_row n (tree k) key a → GoodStore bits_per_row n (added (tree k) key p s)
      grown a x o = (subst (Offered bits_per_row n (tree k) key) (sym x) o).1 room

      cells : Grown bit_of k (key_at (tree k)) (key_at (added (tree k) key p s)) (link_at (tree k)) (link_at (added (tree k) key p s)) key p s
      cells = added-cells (tree k) key p s before room

      keys : (i : ℕ) → i < k + 1 → key_at (store_in low high left' right' (k + 1)) i ≡ key_at (added (tree k) key p s) i
      keys i a =
          ⊎_elim
          (λ (x : i ≡ k). rw x (sym (keys-at low high k b) ∙ sym cells.new-key))
          (λ (x : i < k). sym (cells.old-key i x))
          (eq-or-lt_of_le (omega arith))

      links : (t : Bool) (i : ℕ) → i < k + 1 → link_at (store_in low high left' right' (k + 1)) t i ≡ link_at (added (tree k) key p s) t i
      links t i a =
          ap₂ (λ (x y : List ℕ). link_of x y t i)
          (r.left ∙ ap (λ (x : List ℕ). named (not s) x p (k + 1)) (sym (same_left k l)))
          (r.right ∙ ap (λ (x : List ℕ). named s x p (k + 1)) (sym (same-right k l)))

-- No key yet: every link is 0.
abbrev bare_links : List ℕ
bare_links = replicate most_records 0

bare-at : (p : ℕ) → Dec (p < most_records) → get_or bare_links p 0 ≡ 0
bare-at p (yes b) = get_or-replicate {A = ℕ} most_records p 0 0 b
bare-at p (no h) = let e : length bare_links ≡ most_records = length-replicate {A = ℕ} most_records 0 in get_or-eq_default bare_links 0 {n = p} (omega arith)

pub linked-start : (n : ℕ) (low high : List ℕ) → Linked n low high bare_links bare_links 0
unfolding link_of
linked-start n low high =
    record {
      long-left = length-replicate {A = ℕ} most_records 0;
      long-right = length-replicate {A = ℕ} most_records 0;
      good = λ p. absurd (not-suc-le-zero p);
      bare = bare;
    }
  where
    bare : (s : Bool) (p : ℕ) → 0 ≤ p → link_of bare_links bare_links s p ≡ 0
    bare true p h = bare-at p (dec_lt p most_records)
    bare false p h = bare-at p (dec_lt p most_records)

-- ---- keys without a record

pub among_none : (words : List ℕ) (word : ℕ) → among words 0 word ≡ false
among_none words word = not_yes (among words 0 word) (λ y. let (j, b, e) = (among-iff words 0 word).0 y in not-suc-le-zero b)

-- A look at each of them.
pub among-late : (words : List ℕ) (from to word : ℕ) → from ≤ to → among words from word ≡ false
    → list_any (λ j. eqb (get_or words j 0) word) (range_with_len from (to - from)) ≡ among words to word
unfolding among
among-late words from to word h f =
    let e : from + (to - from) ≡ to = omega arith in
    any-range (λ j. eqb (get_or words j 0) word) (to - from) from f ∙ ap (λ (k : ℕ). any k (λ j. eqb (get_or words j 0) word)) e

-- What is among fewer keys is among more.
pub among-more : (words : List ℕ) (j k word : ℕ) → j ≤ k → among words j word ≡ true → among words k word ≡ true
among-more words j k word l y = let (i, b, e) = (among-iff words j word).0 y in (among-iff words k word).1 (i, omega arith, e)

-- ---- entering a key

module _ (n : ℕ) (low high left right : List ℕ) (i : ℕ) (l : Linked n low high left right (records_of i)) (b : i < length (listed_keys low high))
    (g : Low n (get_or (listed_keys low high) i 0)) where
  abbrev listed : List ℕ
  listed = listed_keys low high

  -- The first needs no link,
  pub enters-first : i ≡ 0 → Linked n low high left right (records_of (i + 1))
  enters-first e =
      subst (Linked n low high left right) (sym one)
      (linked-first n low high left right (subst (Linked n low high left right) none l) (omega arith) (subst (λ (k : ℕ). Low n (get_or listed k 0)) e g))
    where
      one : records_of (i + 1) ≡ 1
      one = omega arith

      none : records_of i ≡ 0
      none = omega arith

  -- one past the last record gets none,
  pub enters-late : most_records ≤ i → Linked n low high left right (records_of (i + 1))
  enters-late h = let q : records_of i ≡ records_of (i + 1) = omega arith in subst (Linked n low high left right) q l

  -- and another hangs at the empty link that a search for it ends at.
  pub enters-new : 0 < i → i < most_records → (q : ℕ) (s : Bool) (looks : ℕ) (left' right' : List ℕ)
      → Absent q s looks ≡ search_of (store_in low high left right (records_of i)) (get_or listed i 0) (bits_per_row * n)
      → Hangs left right q s i left' right' → Linked n low high left' right' (records_of (i + 1))
  enters-new p m q s looks left' right' e h =
      let k : records_of i ≡ i = omega arith in
      let z : i + 1 ≡ records_of (i + 1) = omega arith in
      subst (Linked n low high left' right') z
      (linked-next n low high left right i q s looks left' right' (subst (Linked n low high left right) k l) p b m g (rw k at e) h)
