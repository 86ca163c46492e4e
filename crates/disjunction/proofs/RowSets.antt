-- Row sets as lists: members, the number of rows, sets within sets, a row added. The laws of `get_or` and `set` carry them. Assumes nothing.
use Prim.Native.Nat.{ℕ, zero, suc, ◌≤◌, ◌<◌}
use native.Mathlib.Omega.{arith}
use native.Mathlib.Nat.{eq-zero-or-pos, not-suc-le-zero, le_of_suc-le-suc}
use native.Mathlib.Decide.{ℕ_discrete, dec_lt}
use mathlib.Core.Path.{◌≡◌, refl, sym, ap, ◌∙◌}
use mathlib.Core.Logic.{◌≢◌, ◌⊎◌, inl, inr, ⊎_elim}
use mathlib.Core.List.{List, [], ◌∷◌}
use lib.ListN.{length, set, replicate, length-set, length-replicate, get_or-eq_default}
use lib.Seq.{ext_get_or, get_or-set_same, get_or-set_other}
use Rattle.disjunction.specs.Sets.{Tables, at, Member, size, Within, Row, Valid}
use Rattle.disjunction.specs.Rule.{Place, add_row, alone}

-- ---- members

pub member-lt : (T : List ℕ) (t : ℕ) → Member T t → t < length T
member-lt T t m = go (dec_lt t (length T))
  where
    go : Dec (t < length T) → t < length T
    go (yes l) = l
    go (no h) = let z : at T t ≡ 0 = get_or-eq_default T 0 (omega arith) in absurd (omega arith)

-- Two sets are equal when one holds the other and has no row more.
pub sets-equal : (T U : List ℕ) → length T ≡ length U → Within T U → ((t : ℕ) → at T t ≡ 0 → at U t ≡ 0) → U ≡ T
sets-equal T U l i o = ext_get_or 0 U T (sym l) (λ t b. go t (eq-zero-or-pos (at T t)))
  where
    go : (t : ℕ) → (at T t ≡ 0) ⊎ Member T t → at U t ≡ at T t
    go t (inr m) = i t m
    go t (inl z) = o t z ∙ sym z

-- ---- the number of rows

pub size-le : (T : List ℕ) → size T ≤ length T
unfolding size
size-le [] = omega arith
size-le (zero ∷ T) = let h = size-le T in omega arith
size-le (suc r ∷ T) = let h = size-le T in omega arith

pub size-pos : (T : List ℕ) (t : ℕ) → Member T t → 0 < size T
unfolding size
size-pos [] t m = m
size-pos (zero ∷ T) zero m = absurd (not-suc-le-zero m)
size-pos (zero ∷ T) (suc t) m = size-pos T t m
size-pos (suc x ∷ T) t m = omega arith

pub size-set : (T : List ℕ) (t r : ℕ) → t < length T → at T t ≡ 0 → 0 < r → size (set T t r) ≡ suc (size T)
unfolding size
size-set [] t r l z p = absurd (not-suc-le-zero l)
size-set (zero ∷ T) zero zero l z p = absurd (not-suc-le-zero p)
size-set (zero ∷ T) zero (suc r) l z p = refl
size-set (suc x ∷ T) zero r l z p = absurd (omega arith)
size-set (zero ∷ T) (suc t) r l z p = size-set T t r (le_of_suc-le-suc l) z p
size-set (suc x ∷ T) (suc t) r l z p = ap suc (size-set T t r (le_of_suc-le-suc l) z p)

-- ---- sets within sets

pub within-refl : (T : List ℕ) → Within T T
within-refl T t m = refl

pub within-trans : (T U X : List ℕ) → Within T U → Within U X → Within T X
within-trans T U X f g t m = let e = f t m in g t (rw e m) ∙ e

pub within-member : (T U : List ℕ) → Within T U → (u : ℕ) → Member T u → Member U u
within-member T U f u m = rw (f u m) m

-- ---- a row added

-- A row of `add_row T p` is p or a row of T in another table.
pub add-cases : (T : List ℕ) (p : Place) (u : ℕ) → p.table < length T
    → ((u ≡ p.table) × (at (add_row T p) u ≡ p.row)) ⊎ ((u ≢ p.table) × (at (add_row T p) u ≡ at T u))
add-cases T p u l = go (ℕ_discrete u p.table)
  where
    go : Dec (u ≡ p.table) → ((u ≡ p.table) × (at (add_row T p) u ≡ p.row)) ⊎ ((u ≢ p.table) × (at (add_row T p) u ≡ at T u))
    go (yes e) = inl (e, rw e (get_or-set_same T p.table p.row 0 l))
    go (no h) = inr (h, get_or-set_other T p.table u p.row 0 h)

pub add-within : (T : List ℕ) (p : Place) → at T p.table ≡ 0 → Within T (add_row T p)
add-within T p z t m = get_or-set_other T p.table t p.row 0 (λ e. let z' : at T t ≡ 0 = rw e z in omega arith)

-- What holds T and p holds T with p.
pub within-add : (T U : List ℕ) (p : Place) → p.table < length T → Within T U → at U p.table ≡ p.row → Within (add_row T p) U
within-add T U p l i e u m = ⊎_elim (λ x. rw (x.1, x.0) e) (λ x. rw x.1 (i u (rw x.1 at m))) (add-cases T p u l)

zeros-at : (k u : ℕ) → at (replicate k 0) u ≡ 0
zeros-at zero u = refl
zeros-at (suc k) zero = refl
zeros-at (suc k) (suc u) = zeros-at k u

module _ (W : Tables) where
  pub member-table : (T : List ℕ) → length T ≡ W.n → (u : ℕ) → Member T u → u < W.n
  member-table T l u m = omega (arith, member-lt T u m)

  pub member-row : (T : List ℕ) → Valid W T → (u : ℕ) → Member T u → Row W u (at T u)
  member-row T v u m = record { table = member-table T v.long u m; low = m; high = v.bound u }

  pub valid-add : (T : List ℕ) (p : Place) → Valid W T → Row W p.table p.row → Valid W (add_row T p)
  valid-add T p v r =
      record {
        long = length-set T p.table p.row ∙ v.long;
        bound = λ t. ⊎_elim (λ x. rw (x.1, x.0) r.high) (λ x. rw x.1 (v.bound t)) (add-cases T p t (omega (arith, r.table, v.long)));
      }

  -- ---- a row alone

  pub alone-long : (s : Place) → length (alone W s) ≡ W.n
  unfolding alone
  alone-long s = length-set (replicate W.n 0) s.table s.row ∙ length-replicate W.n 0

  pub alone_at : (s : Place) (u : ℕ) → s.table < W.n
      → ((u ≡ s.table) × (at (alone W s) u ≡ s.row)) ⊎ ((u ≢ s.table) × (at (alone W s) u ≡ 0))
  unfolding alone
  alone_at s u l =
      ⊎_elim
      (λ a. inl a)
      (λ a. inr (a.0, a.1 ∙ zeros-at W.n u))
      (add-cases (replicate W.n 0) s u (rw length-replicate l))

  pub alone-here : (s : Place) → s.table < W.n → at (alone W s) s.table ≡ s.row
  alone-here s l = ⊎_elim (λ a. a.1) (λ a. absurd (a.0 refl)) (alone_at s s.table l)

  pub alone-only : (s : Place) (u : ℕ) → s.table < W.n → Member (alone W s) u → u ≡ s.table
  alone-only s u l m = ⊎_elim (λ a. a.0) (λ a. absurd (omega (arith, a.1))) (alone_at s u l)

  pub alone-within : (s : Place) (U : List ℕ) → s.table < W.n → at U s.table ≡ s.row → Within (alone W s) U
  alone-within s U l e v m = let q = alone-only s v l m in rw q (e ∙ sym (alone-here s l))
