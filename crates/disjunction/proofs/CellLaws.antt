-- What touching and being consistent say of cells, that neither has a direction, and that the padded rows of the maximal sets are the full
-- disjunction. The laws of `any` and `all` carry the first two, the lowest table that gives a code (`first_below`) the last. Assumes nothing.
use Prim.Native.Nat.{ℕ, zero, suc, ◌<◌}
use native.Mathlib.Omega.{arith}
use native.Mathlib.Nat.{not-suc-le-zero}
use native.Mathlib.Decide.{ℕ_discrete}
use mathlib.Core.Path.{◌≡◌, refl, sym, ap, ◌∙◌}
use mathlib.Core.Logic.{◌⊎◌, inl, inr, ⊎_elim, ◌↔◌}
use mathlib.Core.Bool.{true, false, not, ◌&&◌, ◌||◌}
use mathlib.Core.List.{List}
use lib.ListN.{length, get_or}
use lib.Seq.{ext_get_or}
use lib.Dec.{ltb, eqb}
use borrow.Author.Tests.{ltb-true, lt-ltb, eqb-true, eq-eqb, not-true}
use Rattle.laws.proofs.TestLaws.{which, clash, not_yes, iff-eq, and_split, and-join, or_case, or_left, or_right, below_suc, any_some, any_of, all-each, all_of, any_none, FirstBelow, first_below}
use Rattle.laws.proofs.ListLaws.{length-tab, tab-at}
use Rattle.disjunction.specs.Sets.{Symmetric, at, Member, Consistent, Maximal}
use Rattle.disjunction.specs.Rule.{member}
use Rattle.disjunction.specs.Cells.{Cells, same, sharing, Sharing, matching, Matching, tables, gives, code_below, padded, Embedding, FullDisjunction}
use Rattle.disjunction.proofs.RowSets.{member-table}
use Rattle.disjunction.proofs.RowTests.{member-iff}

pub same-iff : (x y : ℕ) → (same x y ≡ true) ↔ ((0 < x) × (x ≡ y))
unfolding same
same-iff x y = (
  λ h. let z = and_split (ltb 0 x) (eqb x y) h in (ltb-true 0 x z.0, eqb-true x y z.1),
  λ h. and-join (lt-ltb 0 x h.0) (eq-eqb x y h.1),
)

-- "Null matches nothing, not even null."
pub same-null : (y : ℕ) → same 0 y ≡ false
unfolding same
same-null y = refl

module _ (C : Cells) where
  -- ---- touching

  pub sharing-iff : (t u : ℕ) → (sharing C t u ≡ true) ↔ Sharing C t u
  unfolding sharing
  sharing-iff t u = (
    λ h.
        let x = any_some C.m (λ a. C.has t a && C.has u a) h in
        let y = and_split (C.has t x.0) (C.has u x.0) x.2 in
        (x.0, x.1, y.0, y.1),
    λ x. any_of C.m (λ a. C.has t a && C.has u a) x.0 x.1 (and-join x.2 x.3),
  )

  -- ---- being consistent

  pub matching-iff : (t r u q : ℕ) → (matching C t r u q ≡ true) ↔ Matching C t r u q
  unfolding matching
  matching-iff t r u q = (
    λ h a l p s.
        ⊎_elim
        (λ e. absurd (clash (and-join p s) (not-true _ e)))
        (λ e. (same-iff (C.cell t r a) (C.cell u q a)).0 e)
        (or_case _ _ (all-each C.m (λ a. not (C.has t a && C.has u a) || same (C.cell t r a) (C.cell u q a)) h a l)),
    λ h. all_of C.m (λ a. not (C.has t a && C.has u a) || same (C.cell t r a) (C.cell u q a)) (λ a l. go h a l (which (C.has t a && C.has u a))),
  )
    where
      go : Matching C t r u q → (a : ℕ) → a < C.m → ((C.has t a && C.has u a) ≡ true) ⊎ ((C.has t a && C.has u a) ≡ false)
          → (not (C.has t a && C.has u a) || same (C.cell t r a) (C.cell u q a)) ≡ true
      go h a l (inr f) = or_left (same (C.cell t r a) (C.cell u q a)) (ap not f)
      go h a l (inl e) =
          let x = and_split (C.has t a) (C.has u a) e in
          or_right (not (C.has t a && C.has u a)) ((same-iff (C.cell t r a) (C.cell u q a)).1 (h a l x.0 x.1))

  -- "Rows without a shared attribute are consistent."
  pub matching-apart : (t r u q : ℕ) → sharing C t u ≡ false → matching C t r u q ≡ true
  matching-apart t r u q f = (matching-iff t r u q).1 (λ a l p s. absurd (clash ((sharing-iff t u).1 (a, l, p, s)) f))

  matching-turn : (t r u q : ℕ) → matching C t r u q ≡ true → matching C u q t r ≡ true
  matching-turn t r u q h =
      (matching-iff u q t r).1 (λ a l p s. let y = (matching-iff t r u q).0 h a l s p in (omega (arith, y.0, y.1), sym y.1))

  sharing-turn : (t u : ℕ) → sharing C t u ≡ true → sharing C u t ≡ true
  sharing-turn t u h = let (a, l, p, s) = (sharing-iff t u).0 h in (sharing-iff u t).1 (a, l, s, p)

  pub tables-symmetric : Symmetric (tables C)
  tables-symmetric =
      record {
        touch = λ t u. iff-eq (sharing C t u) (sharing C u t) (sharing-turn t u) (sharing-turn u t);
        fit = λ t r u q. iff-eq (matching C t r u q) (matching C u q t r) (matching-turn t r u q) (matching-turn u q t r);
      }

  -- ---- the padded row

  pub gives-iff : (T : List ℕ) (a t : ℕ) → (gives C T a t ≡ true) ↔ (Member T t × (C.has t a ≡ true))
  unfolding gives
  gives-iff T a t = (
    λ h. let y = and_split (member T t) (C.has t a) h in ((member-iff T t).0 y.0, y.1),
    λ h. and-join ((member-iff T t).1 h.0) h.1,
  )

  pub code-lowest : (T : List ℕ) (a k t : ℕ) → t < k → gives C T a t ≡ true → ((u : ℕ) → u < t → gives C T a u ≡ false)
      → code_below C T a k ≡ C.cell t (at T t) a
  unfolding code_below
  code-lowest T a zero t l y n = absurd (not-suc-le-zero l)
  code-lowest T a (suc k) t l y n =
      ⊎_elim
      (λ (e : t ≡ k). rw (any_none k (gives C T a) (rw e at n), rw e at y, e))
      (λ (b : t < k). rw (any_of k (gives C T a) t b y) (code-lowest T a k t b y n))
      (below_suc l)

  pub code-none : (T : List ℕ) (a k : ℕ) → ((u : ℕ) → u < k → gives C T a u ≡ false) → code_below C T a k ≡ 0
  unfolding code_below
  code-none T a zero n = refl
  code-none T a (suc k) n = rw (any_none k (gives C T a) (λ u l. n u (omega arith)), n k (omega arith))

  pub padded-long : (T : List ℕ) → length (padded C T) ≡ C.m
  unfolding padded
  padded-long T = length-tab C.m (λ a. code_below C T a C.n)

  pub padded-at : (T : List ℕ) (a : ℕ) → a < C.m → get_or (padded C T) a 0 ≡ code_below C T a C.n
  unfolding padded
  padded-at T a l = tab-at C.m (λ a. code_below C T a C.n) a l

  module _ (T : List ℕ) (long : length T ≡ C.n) where
    -- An attribute that no member has is given by no table.
    none-gives : (a : ℕ) → ((t : ℕ) → t < C.n → gives C T a t ≡ false) → (t : ℕ) → Member T t → C.has t a ≡ true → ⊥
    none-gives a n t m h = clash ((gives-iff T a t).1 (m, h)) (n t (member-table (tables C) T long t m))

    -- A set has one embedding only.
    pub embedding-unique : (r q : List ℕ) → Embedding C T r → Embedding C T q → r ≡ q
    embedding-unique r q e f = ext_get_or 0 r q (e.long ∙ sym f.long) (λ a l. go a (rw e.long at l) (first_below C.n (gives C T a)))
      where
        go : (a : ℕ) → a < C.m → FirstBelow C.n (gives C T a) → get_or r a 0 ≡ get_or q a 0
        go a l (inl (t, b, y, n)) = let g = (gives-iff T a t).0 y in e.from t a l g.0 g.1 ∙ sym (f.from t a l g.0 g.1)
        go a l (inr n) = e.null a l (none-gives a n) ∙ sym (f.null a l (none-gives a n))

    -- Two members of a consistent set have one code at an attribute of both.
    one_code : Consistent (tables C) T → (t u a : ℕ) → a < C.m → Member T t → C.has t a ≡ true → Member T u → C.has u a ≡ true
        → C.cell u (at T u) a ≡ C.cell t (at T t) a
    one_code c t u a l m h n k = go (ℕ_discrete t u)
      where
        go : Dec (t ≡ u) → C.cell u (at T u) a ≡ C.cell t (at T t) a
        go (yes e) = ap (λ (x : ℕ). C.cell x (at T x) a) (sym e)
        go (no d) = sym ((matching-iff t (at T t) u (at T u)).0 (c t u d m n) a l h k).1

    pub padded-embedding : Consistent (tables C) T → Embedding C T (padded C T)
    padded-embedding c =
        record {
          long = padded-long T;
          from = λ t a l m h. padded-at T a l ∙ from t a l m h (first_below C.n (gives C T a));
          null = λ a l h. padded-at T a l ∙ code-none T a C.n (λ t b. not_yes (gives C T a t) (λ y. let g = (gives-iff T a t).0 y in h t g.0 g.1));
        }
      where
        from : (t a : ℕ) → a < C.m → Member T t → C.has t a ≡ true → FirstBelow C.n (gives C T a) → code_below C T a C.n ≡ C.cell t (at T t) a
        from t a l m h (inl (u, b, y, n)) = let g = (gives-iff T a u).0 y in code-lowest T a C.n u b y n ∙ one_code c t u a l m h g.0 g.1
        from t a l m h (inr n) = absurd (none-gives a n t m h)

  -- The full disjunction's rows are the padded rows of the maximal sets.
  pub disjunction-rows : (r : List ℕ) → FullDisjunction C r ↔ ((T : List ℕ) × Maximal (tables C) T × (r ≡ padded C T))
  disjunction-rows r = (
    λ (T, x, e). (T, x, embedding-unique T x.jcc.valid.long r (padded C T) e (padded-embedding T x.jcc.valid.long x.jcc.consistent)),
    λ (T, x, e). (T, x, rw e (padded-embedding T x.jcc.valid.long x.jcc.consistent)),
  )
