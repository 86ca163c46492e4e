-- A sum does not depend on the order of its parts. What carries the proof: each part is a sum with one part that is not 0, and the two sums change places.
-- Assumes nothing.
use Prim.Native.Nat.{ℕ, zero, suc, ◌+◌, ◌<◌}
use native.Mathlib.Omega.{arith}
use native.Mathlib.Decide.{ℕ_discrete}
use mathlib.Core.Path.{◌≡◌, refl, sym, ap, ◌∙◌}
use mathlib.Core.Logic.{◌≢◌, ⊎_elim}
use mathlib.Core.Bool.{cond}
use lib.Dec.{eqb}
use borrow.Author.Tests.{eq-eqb, ne_eqb}
use Rattle.laws.proofs.TestLaws.{below_suc}
use Rattle.facts.specs.Filing.{Renumbering}

-- The sum of the first k values of f.
unfoldable pub sum_to : ℕ → (ℕ → ℕ) → ℕ
sum_to zero f = 0
sum_to (suc k) f = sum_to k f + f k

pub sum-ext : (k : ℕ) (f g : ℕ → ℕ) → ((i : ℕ) → i < k → f i ≡ g i) → sum_to k f ≡ sum_to k g
unfolding sum_to
sum-ext zero f g h = refl
sum-ext (suc k) f g h = rw (sum-ext k f g (λ i l. h i (omega arith)), h k (omega arith))

sum-add : (k : ℕ) (f g : ℕ → ℕ) → sum_to k (λ i. f i + g i) ≡ sum_to k f + sum_to k g
unfolding sum_to
sum-add zero f g = refl
sum-add (suc k) f g = omega (arith, sum-add k f g)

sum_zeros : (k : ℕ) → sum_to k (λ i. 0) ≡ 0
unfolding sum_to
sum_zeros zero = refl
sum_zeros (suc k) = omega (arith, sum_zeros k)

-- Two sums change places.
sum-swap : (n k : ℕ) (f : ℕ → ℕ → ℕ) → sum_to n (λ u. sum_to k (f u)) ≡ sum_to k (λ t. sum_to n (λ u. f u t))
unfolding sum_to
sum-swap zero k f = sym (sum_zeros k)
sum-swap (suc n) k f = rw (sum-swap n k f) (sym (sum-add k (λ t. sum_to n (λ u. f u t)) (f n)))

-- x at place p, and 0 elsewhere.
unfoldable only : ℕ → ℕ → ℕ → ℕ
only p x i = cond (eqb i p) x 0

only_here : (p x i : ℕ) → i ≡ p → only p x i ≡ x
unfolding only
only_here p x i e = rw (eq-eqb i p e)

only-other : (p x i : ℕ) → i ≢ p → only p x i ≡ 0
unfolding only
only-other p x i d = rw (ne_eqb i p d)

sum-none : (p x k : ℕ) → ((i : ℕ) → i < k → i ≢ p) → sum_to k (only p x) ≡ 0
sum-none p x k h = sum-ext k (only p x) (λ i. 0) (λ i l. only-other p x i (h i l)) ∙ sum_zeros k

sum-only : (p x k : ℕ) → p < k → sum_to k (only p x) ≡ x
unfolding sum_to
sum-only p x zero l = absurd (omega arith)
sum-only p x (suc k) l =
    ⊎_elim
    (λ (e : p ≡ k). omega (arith, sum-none p x k (λ i b q. omega (arith, b, q, e)), only_here p x k (sym e)))
    (λ (b : p < k). omega (arith, sum-only p x k b, only-other p x k (λ q. omega (arith, b, q))))
    (below_suc l)

-- Under new numbers the sum is the same.
module _ (n : ℕ) (to from : ℕ → ℕ) (h : Renumbering n to from) (f : ℕ → ℕ) where
  part : (u t : ℕ) → u < n → t < n → only (from u) (f (from u)) t ≡ only (to t) (f t) u
  part u t k l = go (ℕ_discrete t (from u))
    where
      go : Dec (t ≡ from u) → only (from u) (f (from u)) t ≡ only (to t) (f t) u
      go (yes e) =
          only_here (from u) (f (from u)) t e ∙ ap f (sym e) ∙ sym (only_here (to t) (f t) u (sym (h.to-from u k) ∙ ap to (sym e)))
      go (no d) =
          only-other (from u) (f (from u)) t d ∙ sym (only-other (to t) (f t) u (λ q. d (sym (h.from-to t l) ∙ ap from (sym q))))

  pub sum-renumbered : sum_to n (λ u. f (from u)) ≡ sum_to n f
  sum-renumbered =
      sum-ext n (λ u. f (from u)) (λ u. sum_to n (only (from u) (f (from u)))) (λ u l. sym (sum-only (from u) (f (from u)) n (h.from-lt u l)))
      ∙ sum-swap n n (λ u. only (from u) (f (from u)))
      ∙ sum-ext n (λ t. sum_to n (λ u. only (from u) (f (from u)) t)) f
      (λ t l.
      sum-ext n (λ u. only (from u) (f (from u)) t) (only (to t) (f t)) (λ u k. part u t k l)
      ∙ sum-only (to t) (f t) n (h.to-lt t l))
