-- Lists made by a rule: equal rules, one element more, members, and when they have no repeats. Assumes nothing.
use Prim.Native.Nat.{ℕ, zero, suc, ◌+◌, ◌<◌}
use native.Mathlib.Omega.{arith}
use native.Mathlib.Numerals.{add-one}
use native.Mathlib.Nat.{not-suc-le-zero}
use mathlib.Core.Path.{◌≡◌, refl, ap₂}
use mathlib.Core.Logic.{⊎_elim}
use mathlib.Core.List.Memᴰ
use mathlib.Core.List.{List, [], ◌∷◌, ◌++◌, Memᴰ}
use Rattle.laws.specs.Lists.{tab}
use Rattle.laws.specs.Distinct.{Distinct, none}
use Rattle.laws.proofs.TestLaws.{below_suc}
use Rattle.laws.proofs.DistinctLaws.{distinct-end}

pub tab-ext : (k : ℕ) (f g : ℕ → ℕ) → ((i : ℕ) → i < k → f i ≡ g i) → tab k f ≡ tab k g
unfolding tab
tab-ext zero f g h = refl
tab-ext (suc k) f g h = ap₂ (λ (l : List ℕ) (x : ℕ). l ++ (x ∷ [])) (tab-ext k f g (λ i l. h i (omega arith))) (h k (omega arith))

pub tab-more : (k : ℕ) (f : ℕ → ℕ) → tab k f ++ (f k ∷ []) ≡ tab (k + 1) f
unfolding tab
tab-more k f = rw add-one

pub mem-tab : (k : ℕ) (f : ℕ → ℕ) (i : ℕ) → i < k → Memᴰ (f i) (tab k f)
unfolding tab
mem-tab zero f i l = absurd (not-suc-le-zero l)
mem-tab (suc k) f i l =
    ⊎_elim
    (λ (e : i ≡ k). rw e (Memᴰ.append_right (tab k f) (Memᴰ.head refl)))
    (λ h. Memᴰ.append_left (f k ∷ []) (mem-tab k f i h))
    (below_suc l)

pub tab-mem : (k : ℕ) (f : ℕ → ℕ) (x : ℕ) → Memᴰ x (tab k f) → (i : ℕ) × (i < k) × (x ≡ f i)
unfolding tab
tab-mem zero f x m = absurd (Memᴰ.not-nil m)
tab-mem (suc k) f x m =
    ⊎_elim
    (λ h. let (i, l, e) = tab-mem k f x h in (i, omega arith, e))
    (λ h. (k, omega arith, Memᴰ.eq_of_singleton h))
    (Memᴰ.append_cases (tab k f) m)

pub tab-distinct : (k : ℕ) (f : ℕ → ℕ) → ((i j : ℕ) → i < k → j < k → f i ≡ f j → i ≡ j) → Distinct (tab k f)
unfolding tab
tab-distinct zero f h = none
tab-distinct (suc k) f h =
    distinct-end (tab-distinct k f (λ i j a b e. h i j (omega arith) (omega arith) e))
    (λ m. let (i, l, e) = tab-mem k f (f k) m in let z = h k i (omega arith) (omega arith) e in omega arith)
