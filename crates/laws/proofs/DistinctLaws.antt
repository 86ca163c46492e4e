-- Lists without repeats: two that hold the same things are equally long; and what having none says of the places. Assumes nothing.
use Prim.Native.Nat.{ℕ, zero, suc, ◌+◌, ◌≤◌, ◌<◌}
use native.Mathlib.Omega.{arith}
use native.Mathlib.Nat.{le_antisymm, not-suc-le-zero, le_of_suc-le-suc}
use mathlib.Core.Path.{◌≡◌, refl, sym, ap, ◌∙◌}
use mathlib.Core.Logic.{◌≢◌, ◌⊎◌, ⊎_elim, ◌↔◌}
use mathlib.Core.List.Memᴰ
use mathlib.Core.List.{List, [], ◌∷◌, ◌++◌, Memᴰ}
use lib.ListN.{length, get_or}
use Rattle.laws.specs.Distinct.{Distinct, none, more}
use Rattle.laws.proofs.MemberLaws.{mem-at, at_mem}

module _ {A : Type 0} where
  without : {x : A} {l : List A} → Memᴰ x l → List A
  without (Memᴰ.head {xs = xs} e) = xs
  without (Memᴰ.tail {x = y} m) = y ∷ without m

  without-length : {x : A} {l : List A} (m : Memᴰ x l) → length l ≡ suc (length (without m))
  unfolding without
  without-length (Memᴰ.head e) = refl
  without-length (Memᴰ.tail m) = ap suc (without-length m)

  without_other : {x y : A} {l : List A} (m : Memᴰ x l) → Memᴰ y l → y ≢ x → Memᴰ y (without m)
  unfolding without
  without_other (Memᴰ.head e) k d = ⊎_elim (λ q. absurd (d (q ∙ sym e))) (λ k'. k') (Memᴰ.cases_cons k)
  without_other (Memᴰ.tail m) k d = ⊎_elim (λ q. Memᴰ.head q) (λ k'. Memᴰ.tail (without_other m k' d)) (Memᴰ.cases_cons k)

  pub distinct-le : (k l : List A) → Distinct k → ((x : A) → Memᴰ x k → Memᴰ x l) → length k ≤ length l
  distinct-le [] l none f = omega arith
  distinct-le (x ∷ k) l (more h d) f =
      let m = f x (Memᴰ.head refl) in
      let r = distinct-le k (without m) d (λ y p. without_other m (f y (Memᴰ.tail p)) (λ e. h (Memᴰ.cast (sym e) p))) in
      omega (arith, without-length m, r)

  pub same_length : (P : A → Type 0) (k l : List A) → Distinct k → Distinct l → ((x : A) → P x ↔ Memᴰ x k) → ((x : A) → P x ↔ Memᴰ x l) → length k ≡ length l
  same_length P k l d e f g = le_antisymm (distinct-le k l d (λ x m. (g x).0 ((f x).1 m))) (distinct-le l k e (λ x m. (f x).0 ((g x).1 m)))

  -- With a new element at the end.
  pub distinct-end : {l : List A} {x : A} → Distinct l → (Memᴰ x l → ⊥) → Distinct (l ++ (x ∷ []))
  distinct-end none h = more Memᴰ.not-nil none
  distinct-end {x} (more {x = y} {l = l} g d) h =
      more
      (λ k. ⊎_elim (λ a. g a) (λ a. h (Memᴰ.head (sym (Memᴰ.eq_of_singleton a)))) (Memᴰ.append_cases l k))
      (distinct-end d (λ k. h (Memᴰ.tail k)))

-- No two places hold the same, and back.
module _ {A : Type 0} (d : A) where
  pub distinct-at : (l : List A) → Distinct l → (i j : ℕ) → j < i → i < length l → get_or l j d ≡ get_or l i d → ⊥
  distinct-at [] x i j b h e = absurd (not-suc-le-zero h)
  distinct-at (y ∷ l) (more g x) zero j b h e = not-suc-le-zero b
  distinct-at (y ∷ l) (more g x) (suc i) zero b h e = g (Memᴰ.cast e (mem-at l d i (le_of_suc-le-suc h)))
  distinct-at (y ∷ l) (more g x) (suc i) (suc j) b h e = distinct-at l x i j (le_of_suc-le-suc b) (le_of_suc-le-suc h) e

  pub distinct-by : (l : List A) → ((i j : ℕ) → j < i → i < length l → get_or l j d ≡ get_or l i d → ⊥) → Distinct l
  distinct-by [] f = none
  distinct-by (y ∷ l) f =
      more {l = l}
      (λ m. let (i, h, e) = at_mem d m in f (suc i) 0 (omega arith) (omega arith) e)
      (distinct-by l (λ i j b h. f (suc i) (suc j) (omega arith) (omega arith)))
