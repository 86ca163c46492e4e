-- What rounds come to, whatever the test and the list of rows. Each round that hits adds a table, so n rounds are enough; the measure is the number
-- of rows in the set. Assumes nothing.
use Prim.Native.Nat.{ℕ, zero, suc, ◌+◌, ◌*◌, ◌≤◌, ◌<◌}
use native.Mathlib.Omega.{arith}
use native.Mathlib.Nat.{not-suc-le-zero, le_of_suc-le-suc}
use mathlib.Core.Path.{◌≡◌, refl, ap, ◌∙◌}
use mathlib.Core.Logic.{⊎_elim}
use mathlib.Core.Bool.{Bool, true, false, cond}
use mathlib.Core.List.Memᴰ
use mathlib.Core.List.{List, [], ◌∷◌, Memᴰ}
use lib.ListN.{length, get_or, length-set}
use Rattle.disjunction.specs.Sets.{at, size, Within}
use Rattle.disjunction.specs.Rule.{Place, add_row, Round, hit, miss, more, walk, Grown, after, grow}
use Rattle.disjunction.proofs.RowSets.{size-le, size-set, within-refl, within-trans, add-within}

-- ---- one round

-- A round that hits found a row of the list that passes; one that misses tested every row, and none passes.
abbrev pub Walked : (Place → Bool) → List Place → Round → Type 0
Walked ok l (hit c p) = (c ≤ length l) × Memᴰ p l × (ok p ≡ true)
Walked ok l (miss c) = (c ≡ length l) × ((p : Place) → Memᴰ p l → ok p ≡ false)

walked_more : (ok : Place → Bool) (p : Place) (l : List Place) (w : Round) → ok p ≡ false → Walked ok l w → Walked ok (p ∷ l) (more w)
walked_more ok p l (hit c q) f h = (omega arith, Memᴰ.tail h.1, h.2)
walked_more ok p l (miss c) f h =
    (omega arith, λ q m. ⊎_elim (λ e. rw e f) (λ m'. h.1 q m') (Memᴰ.cases_cons m))

pub walked : (ok : Place → Bool) (l : List Place) → Walked ok l (walk ok l)
unfolding walk
walked ok [] = (refl, λ p m. absurd (Memᴰ.not-nil m))
walked ok (p ∷ l) = go (ok p) refl (walked ok l)
  where
    go : (b : Bool) → ok p ≡ b → Walked ok l (walk ok l) → Walked ok (p ∷ l) (cond b (hit 1 p) (more (walk ok l)))
    go true e h = (omega arith, Memᴰ.head refl, e)
    go false e h = walked_more ok p l (walk ok l) e h

-- A round, from the answers of its tests in order: for a loop that makes them.
pub walk-hit : (ok : Place → Bool) (l : List Place) (d : Place) (j : ℕ) → j < length l
    → ((i : ℕ) → i < j → ok (get_or l i d) ≡ false) → ok (get_or l j d) ≡ true → walk ok l ≡ hit (suc j) (get_or l j d)
unfolding walk
walk-hit ok [] d j h f e = absurd (not-suc-le-zero h)
walk-hit ok (p ∷ l) d zero h f e = rw e
walk-hit ok (p ∷ l) d (suc j) h f e =
    rw (f 0 (omega arith)) (ap more (walk-hit ok l d j (le_of_suc-le-suc h) (λ i b. f (suc i) (omega arith)) e))

pub walk-miss : (ok : Place → Bool) (l : List Place) (d : Place) → ((i : ℕ) → i < length l → ok (get_or l i d) ≡ false) → walk ok l ≡ miss (length l)
unfolding walk
walk-miss ok [] d f = refl
walk-miss ok (p ∷ l) d f = rw (f 0 (omega arith)) (ap more (walk-miss ok l d (λ i b. f (suc i) (omega arith))))

-- ---- rounds

-- What at most k rounds from T come to, where P is kept: a set that P holds of, with T's rows, to which no row of the list can be added.
pub record Settled (ok : List ℕ → Place → Bool) (l : List Place) (P : List ℕ → Type 0) (k : ℕ) (T : List ℕ) (g : Grown) : Type 0 where
  pub kept : P g.rows
  pub holds : Within T g.rows
  pub none : (p : Place) → Memᴰ p l → ok g.rows p ≡ false
  pub few : g.tests ≤ k * length l

-- A row that may be added is new: its table is there, and absent from the set.
abbrev pub New : ℕ → List ℕ → Place → Type 0
New n T p = (at T p.table ≡ 0) × (p.table < n) × (0 < p.row)

size-new : (n : ℕ) (T : List ℕ) (p : Place) → length T ≡ n → New n T p → size (add_row T p) ≡ suc (size T)
size-new n T p long (z, l, r) = size-set T p.table p.row (omega arith) z r

module _ (ok : List ℕ → Place → Bool) (l : List Place) (n : ℕ) (P : List ℕ → Type 0)
    (long : (T : List ℕ) → P T → length T ≡ n)
    (new : (T : List ℕ) (p : Place) → P T → Memᴰ p l → ok T p ≡ true → New n T p)
    (keep : (T : List ℕ) (p : Place) → P T → Memᴰ p l → ok T p ≡ true → P (add_row T p)) where
  -- One round before the others.
  settled-after : (k : ℕ) (T : List ℕ) (w : Round) → P T → n < size T + suc k → Walked (ok T) l w
      → ((U : List ℕ) → P U → n < size U + k → Settled ok l P k U (grow ok l k U)) → Settled ok l P (suc k) T (after w T (λ U. grow ok l k U))
  settled-after k T (miss c) h e w ih = record { kept = h; holds = within-refl T; none = w.1; few = omega (arith, w.0) }
  settled-after k T (hit c p) h e w ih =
      let a = new T p h w.1 w.2 in
      let s = size-new n T p (long T h) a in
      let r = ih (add_row T p) (keep T p h w.1 w.2) (omega arith) in
      let i = within-trans T (add_row T p) (grow ok l k (add_row T p)).rows (add-within T p a.0) r.holds in
      record { kept = r.kept; holds = i; none = r.none; few = omega (arith, w.0, r.few) }

  -- Enough rounds: T's rows and the rounds are together more than the tables.
  pub grown : (k : ℕ) (T : List ℕ) → P T → n < size T + k → Settled ok l P k T (grow ok l k T)
  unfolding grow
  grown zero T h e = absurd (omega (arith, size-le T, long T h))
  grown (suc k) T h e = settled-after k T (walk (ok T) l) h e (walked (ok T) l) (λ U. grown k U)

-- More rounds than enough make no difference.
module _ (ok : List ℕ → Place → Bool) (l : List Place) (n : ℕ)
    (new : (T : List ℕ) (p : Place) → Memᴰ p l → ok T p ≡ true → New n T p) where
  pub grow-fuel : (k k' : ℕ) (T : List ℕ) → length T ≡ n → n < size T + k → n < size T + k' → grow ok l k T ≡ grow ok l k' T
  unfolding grow
  grow-fuel zero k' T h a b = absurd (omega (arith, size-le T))
  grow-fuel (suc k) zero T h a b = absurd (omega (arith, size-le T))
  grow-fuel (suc k) (suc k') T h a b = go (walk (ok T) l) (walked (ok T) l) (λ U. grow-fuel k k' U)
    where
      go : (w : Round) → Walked (ok T) l w → ((U : List ℕ) → length U ≡ n → n < size U + k → n < size U + k' → grow ok l k U ≡ grow ok l k' U)
          → after w T (λ U. grow ok l k U) ≡ after w T (λ U. grow ok l k' U)
      go (miss c) w ih = refl
      go (hit c p) w ih =
          let s = size-new n T p h (new T p w.1 w.2) in
          rw (ih (add_row T p) (length-set T p.table p.row ∙ h) (omega arith) (omega arith))
