-- The short test for a maximal set is one. A valid set with a row is maximal exactly when the trial of each of its own rows gives it back: such a
-- trial keeps every other row consistent with the row tried (`trial-around`), so what comes back for each of its rows is consistent. Assumes nothing.
use Prim.Native.Nat.{ℕ, ◌<◌, ◌≤◌}
use native.Mathlib.Omega.{arith}
use native.Mathlib.Nat.{eq-zero-or-pos}
use mathlib.Core.Path.{◌≡◌, refl, subst}
use mathlib.Core.Logic.{◌⊎◌, inl, inr, ⊎_elim, ◌↔◌}
use mathlib.Core.Bool.{Bool, true, false, ◌&&◌, ◌||◌}
use mathlib.Core.List.{List}
use lib.ListN.{length}
use lib.Dec.{leb, eqb}
use borrow.Author.Tests.{eqb-true, eq-eqb, leb-true, le-leb}
use Rattle.laws.specs.Tests.{any, all}
use Rattle.laws.proofs.TestLaws.{yes_iff, and_split, and-join, or_case, or_left, or_right, any_some, any_of, all-each, all_of}
use Rattle.disjunction.specs.Sets.{Tables, Symmetric, at, Member, Valid, Maximal}
use Rattle.disjunction.specs.Rule.{row_in, rows, member, absent, row_test, start, trial}
use Rattle.disjunction.specs.Keeping.{sets-discrete}
use Rattle.disjunction.specs.Standing.{same_set, valid, gives_back, standing}
use Rattle.disjunction.proofs.RowSets.{member-lt, member-row}
use Rattle.disjunction.proofs.RowTests.{member-iff, absent-iff}
use Rattle.disjunction.proofs.RowOrder.{rows_all}
use Rattle.disjunction.proofs.Growing.{Settled}
use Rattle.disjunction.proofs.Extending.{closed-maximal}
use Rattle.disjunction.proofs.Completeness.{Around, trial-around, trial-maximal, trial-holds}

pub same_set-iff : (T U : List ℕ) → (same_set T U ≡ true) ↔ (T ≡ U)
unfolding same_set
same_set-iff T U = yes_iff (sets-discrete T U)

module _ (W : Tables) where
  pub valid-iff : (T : List ℕ) → (valid W T ≡ true) ↔ Valid W T
  unfolding valid
  valid-iff T = (
    λ h.
        let x = and_split (eqb (length T) W.n) (all W.n (λ t. leb (at T t) (W.count t))) h in
        let e = eqb-true (length T) W.n x.0 in
        record { long = e; bound = λ t. bound e x.1 t (eq-zero-or-pos (at T t)) },
    λ v.
        and-join (eq-eqb (length T) W.n v.long)
        (all_of W.n (λ t. leb (at T t) (W.count t)) (λ t l. le-leb (at T t) (W.count t) (v.bound t))),
  )
    where
      bound : length T ≡ W.n → all W.n (λ t. leb (at T t) (W.count t)) ≡ true → (t : ℕ) → (at T t ≡ 0) ⊎ Member T t → at T t ≤ W.count t
      bound e a t (inl z) = omega arith
      bound e a t (inr m) =
          leb-true (at T t) (W.count t) (all-each W.n (λ t. leb (at T t) (W.count t)) a t (omega (arith, member-lt T t m)))

  -- What giving a row back says.
  pub gives-iff : (T : List ℕ) (t : ℕ) → (gives_back W T t ≡ true) ↔ (Member T t → (trial W T (row_in T t)).rows ≡ T)
  unfolding gives_back
  gives-iff T t = (
    λ h m.
        ⊎_elim
        (λ e. let z = (absent-iff T t).0 e in absurd (omega arith))
        (λ e. (same_set-iff (trial W T (row_in T t)).rows T).0 e)
        (or_case (absent T t) (same_set (trial W T (row_in T t)).rows T) h),
    λ f. by f (eq-zero-or-pos (at T t)),
  )
    where
      by : (Member T t → (trial W T (row_in T t)).rows ≡ T) → (at T t ≡ 0) ⊎ Member T t → (absent T t || same_set (trial W T (row_in T t)).rows T) ≡ true
      by f (inl z) = or_left (same_set (trial W T (row_in T t)).rows T) ((absent-iff T t).1 z)
      by f (inr m) = or_right (absent T t) ((same_set-iff (trial W T (row_in T t)).rows T).1 (f m))

  module _ (S : Symmetric W) where
    -- A maximal set comes back.
    pub maximal-back : (T : List ℕ) → Maximal W T → (t : ℕ) → Member T t → (trial W T (row_in T t)).rows ≡ T
    maximal-back T x t m =
        let r = member-row W T x.jcc.valid t m in
        x.largest (trial W T (row_in T t)).rows (trial-maximal W S T (row_in T t) x.jcc r).jcc
        (trial-holds W S T (row_in T t) x.jcc r T x.jcc refl (λ u d n. refl))

    -- What comes back for each of its rows is maximal.
    pub back-maximal : (T : List ℕ) → Valid W T → (t : ℕ) → Member T t → ((u : ℕ) → Member T u → (trial W T (row_in T u)).rows ≡ T) → Maximal W T
    back-maximal T v t m back =
        let f = settled t m in
        closed-maximal W T
        (record { valid = v; some = (t, m); consistent = λ x u d n k. (around u k).fits x d n; connected = (around t m).connected })
        (λ p r. subst (λ (U : List ℕ). row_test W U p ≡ false) (back t m) (f.none p (rows_all W p r)))
      where
        settled : (u : ℕ) → Member T u
            → Settled (row_test W) (rows W) (Around W (row_in T u)) W.n (start W T (row_in T u)) (trial W T (row_in T u))
        settled u k = trial-around W S T (row_in T u) v (member-row W T v u k)

        around : (u : ℕ) → Member T u → Around W (row_in T u) T
        around u k = subst (Around W (row_in T u)) (back u k) (settled u k).kept

    -- The test says 'maximal'.
    pub standing-iff : (T : List ℕ) → (standing W T ≡ true) ↔ Maximal W T
    unfolding standing
    standing-iff T = (
      λ h.
          let x = and_split (valid W T && any W.n (member T)) (all W.n (gives_back W T)) h in
          let y = and_split (valid W T) (any W.n (member T)) x.0 in
          let v = (valid-iff T).0 y.0 in
          let (t, l, m) = any_some W.n (member T) y.1 in
          back-maximal T v t ((member-iff T t).0 m)
          (λ u n. (gives-iff T u).0 (all-each W.n (gives_back W T) x.1 u (member-row W T v u n).table) n),
      λ x.
          let v = x.jcc.valid in
          let (t, m) = x.jcc.some in
          and-join
          (and-join ((valid-iff T).1 v) (any_of W.n (member T) t (member-row W T v t m).table ((member-iff T t).1 m)))
          (all_of W.n (gives_back W T) (λ u l. (gives-iff T u).1 (maximal-back T x u))),
    )
