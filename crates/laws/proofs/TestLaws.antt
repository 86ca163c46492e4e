-- What the answers of tests say: one test, two joined, and tests over the numbers below a bound. Assumes nothing.
use Prim.Native.Nat.{ℕ, zero, suc, ◌<◌}
use native.Mathlib.Omega.{arith}
use native.Mathlib.Nat.{eq-or-lt_of_le, le_of_suc-le-suc, not-suc-le-zero}
use mathlib.Core.Path.{◌≡◌, refl, sym, ◌∙◌}
use mathlib.Core.Logic.{◌⊎◌, inl, inr, ⊎_elim, ◌↔◌}
use mathlib.Core.Bool.{Bool, true, false, ◌&&◌, ◌||◌, true≢false}
use Rattle.laws.specs.Tests.{any, all, is_yes, lowest, without, lowest_below}

pub which : (b : Bool) → (b ≡ true) ⊎ (b ≡ false)
which true = inl refl
which false = inr refl

pub clash : {b : Bool} → b ≡ true → b ≡ false → ⊥
clash p q = true≢false (sym p ∙ q)

-- A test that never says yes says no; two tests that say yes together are one.
pub not_yes : (b : Bool) → (b ≡ true → ⊥) → b ≡ false
not_yes b h = ⊎_elim (λ e. absurd (h e)) (λ e. e) (which b)

pub iff-eq : (a b : Bool) → (a ≡ true → b ≡ true) → (b ≡ true → a ≡ true) → a ≡ b
iff-eq true b f g = sym (f refl)
iff-eq false b f g = sym (not_yes b (λ e. clash (g e) refl))

-- A decision as a test says what was decided.
pub yes_iff : {A : Type 0} → (d : Dec A) → (is_yes d ≡ true) ↔ A
unfolding is_yes
yes_iff (yes a) = (λ e. a, λ b. refl)
yes_iff (no h) = (λ e. absurd (clash e refl), λ a. absurd (h a))

pub and_split : (a b : Bool) → (a && b) ≡ true → (a ≡ true) × (b ≡ true)
and_split true b h = (refl, h)
and_split false b h = absurd (true≢false (sym h))

pub and-join : {a b : Bool} → a ≡ true → b ≡ true → (a && b) ≡ true
and-join {b} p q = rw p q

pub or_case : (a b : Bool) → (a || b) ≡ true → (a ≡ true) ⊎ (b ≡ true)
or_case true b h = inl refl
or_case false b h = inr h

pub or_left : {a : Bool} (b : Bool) → a ≡ true → (a || b) ≡ true
or_left b p = rw p

pub or_right : (a : Bool) {b : Bool} → b ≡ true → (a || b) ≡ true
or_right true q = refl
or_right false q = q

-- Both say no, and back.
pub or-none : (a b : Bool) → (a || b) ≡ false → (a ≡ false) × (b ≡ false)
or-none false b e = (refl, e)
or-none true b e = absurd (clash refl e)

pub none_or : {a b : Bool} → a ≡ false → b ≡ false → (a || b) ≡ false
none_or e f = rw (e, f)

-- The second says no where the first says yes, and back.
pub and_none : (a b : Bool) → (a && b) ≡ false → a ≡ true → b ≡ false
and_none true b e f = e
and_none false b e f = absurd (clash f refl)

pub none-and : (a b : Bool) → (a ≡ true → b ≡ false) → (a && b) ≡ false
none-and true b h = h refl
none-and false b h = refl

pub below_suc : {u k : ℕ} → u < suc k → (u ≡ k) ⊎ (u < k)
below_suc h = eq-or-lt_of_le (le_of_suc-le-suc h)

pub any_some : (k : ℕ) (p : ℕ → Bool) → any k p ≡ true → (u : ℕ) × (u < k) × (p u ≡ true)
unfolding any
any_some zero p h = absurd (true≢false (sym h))
any_some (suc k) p h =
    ⊎_elim (λ e. (k, omega arith, e)) (λ e. let r = any_some k p e in (r.0, omega (arith, r.1), r.2)) (or_case (p k) (any k p) h)

pub any_of : (k : ℕ) (p : ℕ → Bool) (u : ℕ) → u < k → p u ≡ true → any k p ≡ true
unfolding any
any_of zero p u l e = absurd (not-suc-le-zero l)
any_of (suc k) p u l e =
    ⊎_elim (λ q. or_left (any k p) (rw q at e)) (λ q. or_right (p k) (any_of k p u q e)) (below_suc l)

pub all-each : (k : ℕ) (p : ℕ → Bool) → all k p ≡ true → (u : ℕ) → u < k → p u ≡ true
unfolding all
all-each zero p h u l = absurd (not-suc-le-zero l)
all-each (suc k) p h u l =
    let s = and_split (p k) (all k p) h in
    ⊎_elim (λ q. rw q s.0) (λ q. all-each k p s.1 u q) (below_suc l)

pub all_of : (k : ℕ) (p : ℕ → Bool) → ((u : ℕ) → u < k → p u ≡ true) → all k p ≡ true
unfolding all
all_of zero p h = refl
all_of (suc k) p h = and-join (h k (omega arith)) (all_of k p (λ u l. h u (omega arith)))

pub any_none : (k : ℕ) (p : ℕ → Bool) → ((u : ℕ) → u < k → p u ≡ false) → any k p ≡ false
any_none k p n = not_yes (any k p) (λ e. let (u, l, y) = any_some k p e in clash y (n u l))

-- The lowest number below k that passes, or none does.
abbrev pub FirstBelow : ℕ → (ℕ → Bool) → Type 0
FirstBelow k p = ((t : ℕ) × (t < k) × (p t ≡ true) × ((u : ℕ) → u < t → p u ≡ false)) ⊎ ((u : ℕ) → u < k → p u ≡ false)

pub first_below : (k : ℕ) (p : ℕ → Bool) → FirstBelow k p
first_below zero p = inr (λ u l. absurd (not-suc-le-zero l))
first_below (suc k) p = go (first_below k p) (which (p k))
  where
    go : FirstBelow k p → (p k ≡ true) ⊎ (p k ≡ false) → FirstBelow (suc k) p
    go (inl (t, l, y, n)) b = inl (t, omega arith, y, n)
    go (inr n) (inl y) = inl (k, omega arith, y, n)
    go (inr n) (inr f) = inr (λ u l. ⊎_elim (λ e. rw e f) (λ q. n u q) (below_suc l))

-- What `lowest_below` names, from the answers of the tests in order.
pub lowest-none : (k : ℕ) (p : ℕ → Bool) → ((u : ℕ) → u < k → p u ≡ false) → lowest_below k p ≡ without
unfolding lowest_below
lowest-none zero p n = refl
lowest-none (suc k) p n = rw (lowest-none k p (λ u l. n u (omega arith)), n k (omega arith))

pub lowest-at : (k : ℕ) (p : ℕ → Bool) (i : ℕ) → i < k → p i ≡ true → ((u : ℕ) → u < i → p u ≡ false) → lowest_below k p ≡ lowest i
unfolding lowest_below
lowest-at zero p i l y n = absurd (not-suc-le-zero l)
lowest-at (suc k) p i l y n =
    ⊎_elim (λ (e : i ≡ k). rw (lowest-none k p (rw e at n), rw e at y, e)) (λ (b : i < k). rw (lowest-at k p i b y n)) (below_suc l)
