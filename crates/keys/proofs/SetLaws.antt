-- A set and its key: each is read from the other, a row put into one is put into both, and a key knows its set. Assumes nothing.
use Prim.Native.Nat.{ℕ, zero, suc, ◌+◌, ◌*◌, ◌/◌, ◌%◌, ◌^◌, ◌≤◌, ◌<◌}
use mathlib.Core.Path.{◌≡◌, refl, sym, ap, ◌∙◌, subst}
use mathlib.Core.Bool.{Bool, true, false}
use mathlib.Core.Logic.{⊎_elim}
use mathlib.Core.List.{List, [], ◌∷◌}
use native.Mathlib.Omega.{arith}
use native.Mathlib.Decide.{dec_lt, ℕ_discrete}
use native.Mathlib.Nat.{mul-suc, mul-zero, add_comm, div-one, eq-zero-or-pos}
use lib.Dec.{ltb}
use lib.ListN.{length, get_or, set, length-set, get_or-eq_default}
use lib.Pow.{pow_pos, shr-shr, high, low}
use lib.Seq.{ext_get_or, get_or-set_same, get_or-set_other}
use borrow.Author.Tests.{ltb-true, lt-ltb}
use Rattle.laws.specs.Tests.{any}
use Rattle.laws.proofs.ListLaws.{length-tab, tab-at}
use Rattle.laws.proofs.TestLaws.{which, clash, any_some, any_of}
use Rattle.keys.specs.Keys.{row_of, with_row, key_of, rows_in, Small}
use Rattle.keys.proofs.KeyLaws.{row_lt, row_zero, row_same, row_other, rows_eq, cons-lt}

-- ---- the set of a key

pub in-length : (w n k : ℕ) → length (rows_in w n k) ≡ n
unfolding rows_in
in-length w n k = length-tab n (row_of w k)

pub in-at : (w n k t : ℕ) → t < n → get_or (rows_in w n k) t 0 ≡ row_of w k t
unfolding rows_in
in-at w n k t h = tab-at n (row_of w k) t h

pub in-past : (w n k t : ℕ) → n ≤ t → get_or (rows_in w n k) t 0 ≡ 0
in-past w n k t h = get_or-eq_default (rows_in w n k) 0 (rw (in-length w n k) h)

pub in_small : (w n k : ℕ) → Small w (rows_in w n k)
in_small w n k t = go (dec_lt t n)
  where
    go : Dec (t < n) → get_or (rows_in w n k) t 0 < 2 ^ w
    go (yes l) = rw (in-at w n k t l) (row_lt w k t)
    go (no g) = rw (in-past w n k t (omega arith)) (pow_pos w)

-- A list of n rows that has the key's rows is the key's set.
pub in-by : (w n k : ℕ) (T : List ℕ) → length T ≡ n → ((t : ℕ) → t < n → row_of w k t ≡ get_or T t 0) → rows_in w n k ≡ T
in-by w n k T e h =
    ext_get_or 0 (rows_in w n k) T (in-length w n k ∙ sym e) (λ t b. let l = rw (in-length w n k) at b in in-at w n k t l ∙ h t l)

-- A row put in, in the key and in the set.
pub in-with : (w n k t r : ℕ) → t < n → r < 2 ^ w → rows_in w n (with_row w k t r) ≡ set (rows_in w n k) t r
in-with w n k t r l h =
    in-by w n (with_row w k t r) (set (rows_in w n k) t r) (length-set (rows_in w n k) t r ∙ in-length w n k) (λ u b. go u b (ℕ_discrete u t))
  where
    go : (u : ℕ) → u < n → Dec (u ≡ t) → row_of w (with_row w k t r) u ≡ get_or (set (rows_in w n k) t r) u 0
    go u b (yes e) = rw e (row_same w k t r h ∙ sym (get_or-set_same (rows_in w n k) t r 0 (rw (in-length w n k) l)))
    go u b (no g) = row_other w k t r u h g ∙ sym (in-at w n k u b) ∙ sym (get_or-set_other (rows_in w n k) t u r 0 g)

-- A key that is not 0 has a row.
pub in_some : (w n k : ℕ) → k < 2 ^ (w * n) → 0 < k → (t : ℕ) × (t < n) × (0 < row_of w k t)
in_some w n k b p = ⊎_elim yes-case (λ e. absurd (none e)) (which (any n has))
  where
    has : ℕ → Bool
    has t = ltb 0 (row_of w k t)

    yes-case : any n has ≡ true → (t : ℕ) × (t < n) × (0 < row_of w k t)
    yes-case e = let u = any_some n has e in (u.0, u.1, ltb-true 0 (row_of w k u.0) u.2)

    empty : any n has ≡ false → (t : ℕ) → t < n → row_of w k t ≡ 0
    empty e t l = ⊎_elim (λ z. z) (λ q. absurd (clash (any_of n has t l (lt-ltb 0 (row_of w k t) q)) e)) (eq-zero-or-pos (row_of w k t))

    none : any n has ≡ false → ⊥
    none e = let z : k ≡ 0 = rows_eq w n k 0 b (pow_pos (w * n)) (λ t l. empty e t l ∙ sym (row_zero w t)) in omega arith

-- ---- the key of a set

pub key_row : (w : ℕ) (T : List ℕ) → Small w T → (t : ℕ) → row_of w (key_of w T) t ≡ get_or T t 0
unfolding key_of row_of
key_row w [] h t = row_zero w t
key_row w (r ∷ T) h zero =
    ap (λ (x : ℕ). (key_of w T * 2 ^ w + r) / 2 ^ x % 2 ^ w) (mul-zero w)
    ∙ ap (λ (x : ℕ). x % 2 ^ w) (div-one (key_of w T * 2 ^ w + r))
    ∙ low (key_of w T) w (h 0)
key_row w (r ∷ T) h (suc t) =
    ap (λ (x : ℕ). (key_of w T * 2 ^ w + r) / 2 ^ x % 2 ^ w) (mul-suc w t ∙ add_comm (w * t) w)
    ∙ ap (λ (x : ℕ). x % 2 ^ w) (sym (shr-shr (key_of w T * 2 ^ w + r) w (w * t)) ∙ ap (λ (x : ℕ). x / 2 ^ (w * t)) (high (key_of w T) w (h 0)))
    ∙ key_row w T (λ u. h (suc u)) t

pub key-lt : (w : ℕ) (T : List ℕ) → Small w T → key_of w T < 2 ^ (w * length T)
unfolding key_of
key-lt w [] h = rw (mul-zero w) (omega arith)
key-lt w (r ∷ T) h = cons-lt w (length T) (key_of w T) r (key-lt w T (λ u. h (suc u))) (h 0)

-- The set of a set's key is the set.
pub in-key : (w : ℕ) (T : List ℕ) → Small w T → rows_in w (length T) (key_of w T) ≡ T
in-key w T h = in-by w (length T) (key_of w T) T refl (λ t l. key_row w T h t)

-- The key of a key's set is the key.
pub key_in : (w n k : ℕ) → k < 2 ^ (w * n) → key_of w (rows_in w n k) ≡ k
key_in w n k b =
    rows_eq w n (key_of w (rows_in w n k)) k (subst (λ (x : ℕ). key_of w (rows_in w n k) < 2 ^ (w * x)) (in-length w n k) (key-lt w (rows_in w n k) (in_small w n k))) b
    (λ t l. key_row w (rows_in w n k) (in_small w n k) t ∙ in-at w n k t l)

-- Two sets of as many tables with one key are one set.
pub key_one : (w : ℕ) (T U : List ℕ) → Small w T → Small w U → length T ≡ length U → key_of w T ≡ key_of w U → T ≡ U
key_one w T U h_t h_u l e =
    sym (in-key w T h_t) ∙ ap (λ (k : ℕ). rows_in w (length T) k) e ∙ ap (λ (n : ℕ). rows_in w n (key_of w U)) l ∙ in-key w U h_u
