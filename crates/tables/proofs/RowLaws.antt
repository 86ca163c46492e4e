-- The comparison of two rows, and the test for an all-null row, one law for each way that a walk over their codes goes. Assumes nothing.
use Prim.Native.Nat.{ℕ, ◌<◌, ◌≤◌}
use native.Mathlib.Decide.{dec_lt}
use native.Mathlib.Omega.{arith}
use mathlib.Core.Path.{◌≡◌, refl}
use mathlib.Core.Bool.{true, false}
use mathlib.Core.List.{List, [], ◌∷◌}
use lib.ListN.{length}
use borrow.Author.Tests.{lt-ltb, le-ltb, eq-eqb, ne_eqb}
use Rattle.std.specs.Prelude.{Option, Some, not}
use Rattle.std.specs.declared.cmp.Ordering.{Ordering}
use Rattle.std.specs.declared.cmp.Ordering.TheVariants.{Less, Equal, Greater}
use Rattle.std.specs.Ordering.{nat_cmp, is_lt, is_ge, is_some_and, ordering_then, partial_ordering_then}
use Rattle.std.specs.Cmp.Lexicographic.{slice_cmp, slice_partial_cmp}
use Rattle.tables.specs.Rows.{below, all_null}

pub below_none : (ys : List ℕ) → below [] ys ≡ false
unfolding below
below_none ys = refl

pub below-bad : (xs : List ℕ) → below xs [] ≡ false
unfolding below
below-bad [] = refl
below-bad (x ∷ xs) = refl

pub below-lt : (x y : ℕ) (xs ys : List ℕ) → x < y → below (x ∷ xs) (y ∷ ys) ≡ true
unfolding below
below-lt x y xs ys h = rw (lt-ltb x y h)

pub below-gt : (x y : ℕ) (xs ys : List ℕ) → y < x → below (x ∷ xs) (y ∷ ys) ≡ false
unfolding below
below-gt x y xs ys h = rw (le-ltb x y (omega arith), lt-ltb y x h)

pub below_eq : (x y : ℕ) (xs ys : List ℕ) → y ≤ x → x ≤ y → below (x ∷ xs) (y ∷ ys) ≡ below xs ys
unfolding below
below_eq x y xs ys h l = rw (le-ltb x y h, le-ltb y x l)

-- ---- rows without a value

pub null-none : all_null [] ≡ true
unfolding all_null
null-none = refl

pub null-more : (x : ℕ) (xs : List ℕ) → x ≡ 0 → all_null (x ∷ xs) ≡ all_null xs
unfolding all_null
null-more x xs e = rw (eq-eqb x 0 e)

pub null-value : (x : ℕ) (xs : List ℕ) → (x ≡ 0 → ⊥) → all_null (x ∷ xs) ≡ false
unfolding all_null
null-value x xs h = rw (ne_eqb x 0 h)

-- ---- the library's order of lists

-- The first pair of codes that are not equal decides, as in `below`, between rows of one length;
pub lt-below : (xs ys : List ℕ) → length xs ≡ length ys → is_lt (slice_cmp nat_cmp xs ys) ≡ below xs ys
unfolding below
lt-below [] [] e = refl
lt-below [] (y ∷ ys) e = absurd (omega arith)
lt-below (x ∷ xs) [] e = absurd (omega arith)
lt-below (x ∷ xs) (y ∷ ys) e =
    elim (dec_lt x y) [
      | yes h ↦ rw (lt-ltb x y h)
      | no h ↦
          elim (dec_lt y x) [
            | yes l ↦ let n : x ≡ y → ⊥ = λ q. omega arith in rw (le-ltb x y (omega arith), lt-ltb y x l, ne_eqb x y n)
            | no l ↦ rw (le-ltb x y (omega arith), le-ltb y x (omega arith), eq-eqb x y (omega arith)) (lt-below xs ys (omega arith))
          ]
    ]

-- and the empty list lies before every other.
pub lt-empty : (ys : List ℕ) → 0 < length ys → is_lt (slice_cmp nat_cmp [] ys) ≡ true
lt-empty [] h = absurd (omega arith)
lt-empty (y ∷ ys) h = refl

-- What `<`, and what `>=`, answers of two lists.
partial-total : (xs ys : List ℕ) → slice_partial_cmp (λ x y. Some (nat_cmp x y)) xs ys ≡ Some (slice_cmp nat_cmp xs ys)
partial-total [] [] = refl
partial-total [] (y ∷ ys) = refl
partial-total (x ∷ xs) [] = refl
partial-total (x ∷ xs) (y ∷ ys) = by (nat_cmp x y) (partial-total xs ys)
  where
    by : {p : Option Ordering} {q : Ordering} (o : Ordering) → p ≡ Some q → partial_ordering_then (Some o) p ≡ Some (ordering_then o q)
    by Less e = refl
    by Equal e = e
    by Greater e = refl

pub less_is : (xs ys : List ℕ) → is_some_and is_lt (slice_partial_cmp (λ x y. Some (nat_cmp x y)) xs ys) ≡ is_lt (slice_cmp nat_cmp xs ys)
less_is xs ys = rw (partial-total xs ys)

pub not_less_is : (xs ys : List ℕ) → is_some_and is_ge (slice_partial_cmp (λ x y. Some (nat_cmp x y)) xs ys) ≡ not (is_lt (slice_cmp nat_cmp xs ys))
not_less_is xs ys = rw (partial-total xs ys) (by (slice_cmp nat_cmp xs ys))
  where
    by : (o : Ordering) → is_ge o ≡ not (is_lt o)
    by Less = refl
    by Equal = refl
    by Greater = refl
