-- Checks one after the other: a test and its condition, and the first of many checks that finds something. What carries the proofs: after a check
-- that finds nothing, the rest answers. Assumes nothing.
use Prim.Native.Nat.{ℕ, zero, suc, ◌+◌, ◌≤◌, ◌<◌}
use native.Mathlib.Decide.{ℕ_discrete, dec_lt}
use native.Mathlib.Omega.{arith}
use mathlib.Core.Path.{◌≡◌, refl, sym, ap, ◌∙◌}
use mathlib.Core.Logic.{◌⊎◌, ◌↔◌, inl, inr, ⊎_elim}
use mathlib.Core.Bool.{Bool, true, false, not, cond, ◌||◌}
use lib.Dec.{ltb, leb, eqb}
use borrow.Author.Tests.{ltb-true, lt-ltb, leb-true, le-leb, eqb-true, eqb-false, eq-eqb}
use Rattle.laws.proofs.TestLaws.{clash, not_yes, or_case, or_left, or_right}
use Rattle.tables.specs.Checks.{first_met}
use Rattle.tables.proofs.CheckLaws.{first_some, first-none, first-clear}

-- ---- a test and its condition

pub lt_iff : (a b : ℕ) → (ltb a b ≡ true) ↔ (a < b)
lt_iff a b = (ltb-true a b, lt-ltb a b)

pub le_iff : (a b : ℕ) → (leb a b ≡ true) ↔ (a ≤ b)
le_iff a b = (leb-true a b, le-leb a b)

pub eq_iff : (a b : ℕ) → (eqb a b ≡ true) ↔ (a ≡ b)
eq_iff a b = (eqb-true a b, eq-eqb a b)

pub or-iff : {A B : Type 0} (a b : Bool) → ((a ≡ true) ↔ A) → ((b ≡ true) ↔ B) → ((a || b) ≡ true) ↔ (A ⊎ B)
or-iff a b p q = (
  λ e. ⊎_elim (λ x. inl (p.0 x)) (λ y. inr (q.0 y)) (or_case a b e),
  λ s. ⊎_elim (λ x. or_left b (p.1 x)) (λ y. or_right a (q.1 y)) s,
)

-- A test says no exactly where its condition fails.
pub iff-no : {A : Type 0} (a : Bool) → ((a ≡ true) ↔ A) → (a ≡ false) ↔ (A → ⊥)
iff-no a p = (λ e x. clash (p.1 x) e, λ n. not_yes a (λ e. n (p.0 e)))

-- The other way round.
pub not_iff : {A : Type 0} (a : Bool) → ((a ≡ true) ↔ A) → (not a ≡ true) ↔ (A → ⊥)
not_iff true p = (λ e. absurd (clash e refl), λ n. absurd (n (p.0 refl)))
not_iff false p = (λ e x. clash (p.1 x) refl, λ n. refl)

-- ---- what one number stands for

-- A where the test says yes, and B elsewhere.
abbrev pub Where : Bool → Type 0 → Type 0 → Type 0
Where true A B = A
Where false A B = B

-- A where k is n, and B elsewhere.
abbrev pub Case : ℕ → ℕ → Type 0 → Type 0 → Type 0
Case n k A B = Where (eqb n k) A B

pub case-of : (n k : ℕ) (A B : Type 0) → Case n k A B → (k ≡ n) ⊎ B
case-of n k A B = by (eqb n k) refl
  where
    by : (x : Bool) → eqb n k ≡ x → Where x A B → (k ≡ n) ⊎ B
    by true e h = inl (sym (eqb-true n k e))
    by false e h = inr h

module _ {A : Type 0} (b : Bool) (p : (b ≡ true) ↔ A) where
  -- A test that gives n, before a rest that never does.
  pub step-iff : (n r : ℕ) (R : ℕ → Type 0) → ((k : ℕ) → (r ≡ k) ↔ R k) → (R n → ⊥)
      → (k : ℕ) → (cond b n r ≡ k) ↔ Case n k A ((A → ⊥) × R k)
  step-iff n r R q h k = by b refl (eqb n k) refl
    where
      by : (y : Bool) → b ≡ y → (x : Bool) → eqb n k ≡ x → (cond y n r ≡ k) ↔ Where x A ((A → ⊥) × R k)
      by true d true e = (λ z. p.0 d, λ a. eqb-true n k e)
      by true d false e = (λ z. absurd (eqb-false n k e z), λ a. absurd (a.0 (p.0 d)))
      by false d true e = (λ z. absurd (h ((q n).0 (z ∙ sym (eqb-true n k e)))), λ a. absurd (clash (p.1 a) d))
      by false d false e = (λ z. ((iff-no b p).0 d, (q k).0 z), λ a. (q k).1 a.1)

  -- The last test.
  pub last-iff : (n : ℕ) → (n ≡ 0 → ⊥) → (k : ℕ) → (cond b n 0 ≡ k) ↔ Case n k A (Case 0 k (A → ⊥) ⊥)
  last-iff n h k = by b refl (eqb n k) refl (eqb 0 k) refl
    where
      by : (y : Bool) → b ≡ y → (x : Bool) → eqb n k ≡ x → (z : Bool) → eqb 0 k ≡ z → (cond y n 0 ≡ k) ↔ Where x A (Where z (A → ⊥) ⊥)
      by true d true e z f = (λ g. p.0 d, λ a. eqb-true n k e)
      by true d false e true f = (λ g. absurd (eqb-false n k e g), λ a. absurd (a (p.0 d)))
      by true d false e false f = (λ g. absurd (eqb-false n k e g), λ a. absurd a)
      by false d true e z f = (λ g. absurd (h (eqb-true n k e ∙ sym g)), λ a. absurd (clash (p.1 a) d))
      by false d false e true f = (λ g. (iff-no b p).0 d, λ a. eqb-true 0 k f)
      by false d false e false f = (λ g. absurd (eqb-false 0 k f g), λ a. absurd a)

-- ---- the first of two

-- What is found is found by the first, or by the second where the first finds nothing.
pub first-iff : (a b k : ℕ) → (k ≡ 0 → ⊥) → (first_met a b ≡ k) ↔ ((a ≡ k) ⊎ ((a ≡ 0) × (b ≡ k)))
first-iff zero b k h = (λ e. inr (refl, e), λ s. ⊎_elim (λ e. absurd (h (sym e))) (λ e. e.1) s)
first-iff (suc a) b k h = (λ e. inl e, λ s. ⊎_elim (λ e. e) (λ e. absurd (omega (arith, e.0))) s)

-- ---- the first of many

-- The first of k checks from check i on that finds something finds this; 0 where none does.
unfoldable pub scan : (ℕ → ℕ) → ℕ → ℕ → ℕ
scan f zero i = 0
scan f (suc k) i = first_met (f i) (scan f k (i + 1))

module _ (f : ℕ → ℕ) where
  -- Whatever goes on check by check is a scan.
  pub scan-of : (g : ℕ → ℕ → ℕ) → ((i : ℕ) → g 0 i ≡ 0) → ((k i : ℕ) → g (suc k) i ≡ first_met (f i) (g k (i + 1)))
      → (k i : ℕ) → g k i ≡ scan f k i
  unfolding scan
  scan-of g none more zero i = none i
  scan-of g none more (suc k) i = more k i ∙ ap (first_met (f i)) (scan-of g none more k (i + 1))

  -- Check t finds it, and none of those before it, from i on, finds anything.
  pub record Found (i k v : ℕ) : Type 0 where
    pub at : ℕ
    pub low : i ≤ at
    pub high : at < i + k
    pub finds : f at ≡ v
    pub before : (u : ℕ) → i ≤ u → u < at → f u ≡ 0

  scan-bad : (k i : ℕ) → (f i ≡ 0 → ⊥) → scan f (suc k) i ≡ f i
  unfolding scan
  scan-bad k i h = first_some (f i) (scan f k (i + 1)) h

  scan-more : (k i : ℕ) → f i ≡ 0 → scan f (suc k) i ≡ scan f k (i + 1)
  unfolding scan
  scan-more k i e = first-none (f i) (scan f k (i + 1)) e

  found_here : (k i v : ℕ) → f i ≡ v → Found i (suc k) v
  found_here k i v e = record { at = i; low = omega arith; high = omega arith; finds = e; before = λ u l h. absurd (omega arith) }

  found-later : (k i v : ℕ) → f i ≡ 0 → Found (i + 1) k v → Found i (suc k) v
  found-later k i v e F = record { at = F.at; low = omega (arith, F.low); high = omega (arith, F.high); finds = F.finds; before = earlier }
    where
      earlier : (u : ℕ) → i ≤ u → u < F.at → f u ≡ 0
      earlier u l h =
          elim (dec_lt i u) [
            | yes j ↦ F.before u (omega arith) h
            | no j ↦ let q : i ≡ u = omega arith in rw q at e
          ]

  scan-found : (k i v : ℕ) → (v ≡ 0 → ⊥) → scan f k i ≡ v → Found i k v
  unfolding scan
  scan-found zero i v h e = absurd (h (sym e))
  scan-found (suc k) i v h e =
      elim (ℕ_discrete (f i) 0) [
        | no n ↦ found_here k i v (sym (scan-bad k i n) ∙ e)
        | yes z ↦ found-later k i v z (scan-found k (i + 1) v h (sym (scan-more k i z) ∙ e))
      ]

  found-rest : (k i v : ℕ) (F : Found i (suc k) v) → i < F.at → Found (i + 1) k v
  found-rest k i v F l =
      record { at = F.at; low = omega arith; high = omega (arith, F.high); finds = F.finds; before = λ u j b. F.before u (omega arith) b }

  found-scan : (k i v : ℕ) → (v ≡ 0 → ⊥) → Found i k v → scan f k i ≡ v
  found-scan zero i v h F = absurd (omega (arith, F.low, F.high))
  found-scan (suc k) i v h F =
      elim (dec_lt i F.at) [
        | yes l ↦ scan-more k i (F.before i (omega arith) l) ∙ found-scan k (i + 1) v h (found-rest k i v F l)
        | no l ↦
            let q : F.at ≡ i = omega (arith, F.low) in
            let e : f i ≡ v = rw q at F.finds in
            scan-bad k i (λ z. h (sym e ∙ z)) ∙ e
      ]

  scan-iff : (k v : ℕ) → (v ≡ 0 → ⊥) → (scan f k 0 ≡ v) ↔ Found 0 k v
  scan-iff k v h = (scan-found k 0 v h, found-scan k 0 v h)

  scan-clear : (k i : ℕ) → scan f k i ≡ 0 → (u : ℕ) → i ≤ u → u < i + k → f u ≡ 0
  unfolding scan
  scan-clear zero i e u l h = absurd (omega arith)
  scan-clear (suc k) i e u l h =
      let c = first-clear (f i) (scan f k (i + 1)) e in
      elim (dec_lt i u) [
        | yes j ↦ scan-clear k (i + 1) c.1 u (omega arith) (omega arith)
        | no j ↦ let q : i ≡ u = omega arith in rw q at c.0
      ]

  clear-scan : (k i : ℕ) → ((u : ℕ) → i ≤ u → u < i + k → f u ≡ 0) → scan f k i ≡ 0
  unfolding scan
  clear-scan zero i h = refl
  clear-scan (suc k) i h = scan-more k i (h i (omega arith) (omega arith)) ∙ clear-scan k (i + 1) (λ u l b. h u (omega arith) (omega arith))

  clear-iff : (k : ℕ) → (scan f k 0 ≡ 0) ↔ ((u : ℕ) → u < k → f u ≡ 0)
  clear-iff k = (λ e u h. scan-clear k 0 e u (omega arith) (omega arith), λ h. clear-scan k 0 (λ u l b. h u (omega arith)))

-- ---- what many checks find

-- W i k is what it is that check i finds k: the first of n checks that finds something finds k.
abbrev pub Meets : (ℕ → ℕ → Type 0) → ℕ → ℕ → Type 0
Meets W n k = (i : ℕ) × (i < n) × W i k × ((u : ℕ) → u < i → W u 0)

module _ (f : ℕ → ℕ) (W : ℕ → ℕ → Type 0) (each : (i k : ℕ) → (f i ≡ k) ↔ W i k) (n : ℕ) where
  pub meets-iff : (k : ℕ) → (k ≡ 0 → ⊥) → (scan f n 0 ≡ k) ↔ Meets W n k
  meets-iff k h =
      let p = scan-iff f n k h in
      let found : (i : ℕ) → i < n → W i k → ((u : ℕ) → u < i → W u 0) → Found f 0 n k =
      λ i l x b. record { at = i; low = omega arith; high = omega arith; finds = (each i k).1 x; before = λ u j g. (each u 0).1 (b u g) } in (
        λ e. let F = p.0 e in (F.at, omega (arith, F.high), (each F.at k).0 F.finds, λ u l. (each u 0).0 (F.before u (omega arith) l)),
        λ (i, l, x, b). p.1 (found i l x b),
      )

  pub meets-none : (scan f n 0 ≡ 0) ↔ ((u : ℕ) → u < n → W u 0)
  meets-none = (λ e u h. (each u 0).0 ((clear-iff f n).0 e u h), λ g. (clear-iff f n).1 (λ u h. (each u 0).1 (g u h)))
