-- A catalogue's refusals, each exactly when: 4 from the sizes, 5, 6 and 8 from the first table that meets one, 16 from what is stored. What carries the proof: for every number
-- that a check can give there is a condition, and it gives the number exactly when that holds. Assumes nothing.
use Prim.Native.Nat.{ℕ, zero, suc, ◌+◌, ◌*◌, ◌^◌, ◌≤◌, ◌<◌}
use native.Mathlib.Decide.{ℕ_discrete}
use native.Mathlib.Omega.{arith}
use mathlib.Core.Path.{◌≡◌, refl, sym, ap, subst, ◌∙◌}
use mathlib.Core.Logic.Iff
use mathlib.Core.Logic.{◌⊎◌, ◌↔◌, inl, inr, ⊎_elim}
use mathlib.Core.Bool.{Bool, true, false, not, cond, ◌||◌}
use lib.Count.{ones}
use lib.Dec.{ltb, leb, eqb}
use Rattle.laws.specs.Tests.{any}
use Rattle.laws.proofs.TestLaws.{clash, any_some, any_of}
use Rattle.tables.specs.declared.Catalogue.{Catalogue}
use Rattle.tables.specs.Checks.{Made}
use mathlib.Core.List.{List}
use Rattle.tables.specs.Sizes.{most_attributes, most_tables, most_rows, most_cells}
use Rattle.tables.specs.Catalogues.{scheme_of, count_of, first_cell, touching_of, filled, given, no_tables, place_in, mask_in}
use Rattle.tables.specs.Checks.{first_met, outside, size_fault, bad_scheme, count_fault, table_fault, tables_fault, shape_fault, misstored, stored_fault, catalogue_fault, Lawful, made_if, Makes}
use Rattle.tables.proofs.CheckLaws.{first-none, first-clear, fault_at, shape-clear, fault-lawful, lawful-fault}
use Rattle.tables.proofs.StoredLaws.{filled-lawful, made-refused, made-filled}
use Rattle.tables.proofs.CatalogueLaws.{cells-next}
use Rattle.claims.specs.CatalogueRefusals.{SizesOut, BadScheme, ManyRows, ManyCells, GoodHead, ComesTo, Misstored, ComesToStored, OfCatalogue, CatalogueExact, MakeExact}
use Rattle.claims.proofs.ScanLaws.{lt_iff, le_iff, eq_iff, or-iff, not_iff, Case, case-of, step-iff, last-iff, first-iff, scan, scan-of, Meets, meets-iff, meets-none}

module _ (cat : Catalogue) where
  -- ---- 4

  -- What it is that the sizes meet k.
  abbrev pub Sized : ℕ → Type 0
  Sized k = Case 4 k (SizesOut cat) (Case 0 k (SizesOut cat → ⊥) ⊥)

  size-joined : size_fault cat.m cat.n ≡ cond (outside 1 most_attributes cat.m || outside 1 most_tables cat.n) 4 0
  unfolding size_fault
  size-joined = by (outside 1 most_attributes cat.m) (outside 1 most_tables cat.n)
    where
      by : (a b : Bool) → ◌≡◌ {A = ℕ} (cond a 4 (cond b 4 0)) (cond (a || b) 4 0)
      by true b = refl
      by false b = refl

  out-iff : (low high x : ℕ) → (outside low high x ≡ true) ↔ ((x < low) ⊎ (high < x))
  out-iff low high x = or-iff (ltb x low) (ltb high x) (lt_iff x low) (lt_iff high x)

  size-iff : (k : ℕ) → (size_fault cat.m cat.n ≡ k) ↔ Sized k
  size-iff k =
      let a = outside 1 most_attributes cat.m in
      let b = outside 1 most_tables cat.n in
      let p = last-iff (a || b) (or-iff a b (out-iff 1 most_attributes cat.m) (out-iff 1 most_tables cat.n)) 4 (λ z. absurd (omega arith)) k in
      (λ e. p.0 (sym size-joined ∙ e), λ h. size-joined ∙ p.1 h)

  pub sized-four : (k : ℕ) → (k ≡ 0 → ⊥) → (k ≡ 4 → ⊥) → Sized k → ⊥
  sized-four k z f h = ⊎_elim f (λ x. ⊎_elim z (λ n. n) (case-of 0 k (SizesOut cat → ⊥) ⊥ x)) (case-of 4 k (SizesOut cat) _ h)

  -- ---- 5, 6 and 8

  module _ (lent : ℕ) where
    -- What it is that table t meets k.
    abbrev pub Head : ℕ → ℕ → Type 0
    Head t k =
        Case 5 k (BadScheme cat t)
        ((BadScheme cat t → ⊥) × Case 6 k (ManyRows cat t)
        ((ManyRows cat t → ⊥) × Case 8 k (ManyCells cat lent t)
        (Case 0 k (ManyCells cat lent t → ⊥) ⊥)))

    scheme-iff : (t : ℕ) → (bad_scheme cat.m (scheme_of cat t) ≡ true) ↔ BadScheme cat t
    unfolding bad_scheme
    scheme-iff t = or-iff (eqb (scheme_of cat t) 0) (leb (2 ^ cat.m) (scheme_of cat t)) (eq_iff (scheme_of cat t) 0) (le_iff (2 ^ cat.m) (scheme_of cat t))

    -- The cells so far, this table included.
    abbrev up_to : ℕ → ℕ
    up_to t = first_cell cat t + count_of cat t * ones (scheme_of cat t)

    cells-iff : (t : ℕ) → ((ltb most_cells (up_to t) || ltb lent (up_to t)) ≡ true) ↔ ManyCells cat lent t
    cells-iff t =
        rw (cells-next cat t)
        (or-iff (ltb most_cells (up_to t)) (ltb lent (up_to t)) (lt_iff most_cells (up_to t)) (lt_iff lent (up_to t)))

    pub head-iff : (t k : ℕ) → (fault_at cat lent t ≡ k) ↔ Head t k
    unfolding table_fault count_fault
    head-iff t =
        step-iff (bad_scheme cat.m (scheme_of cat t)) (scheme-iff t) 5 _ _
        (step-iff (ltb most_rows (count_of cat t)) (lt_iff most_rows (count_of cat t)) 6 _ _
        (last-iff (ltb most_cells (up_to t) || ltb lent (up_to t)) (cells-iff t) 8 (λ z. absurd (omega arith))) (λ h. h))
        (λ h. h.1)

    pub head-good : (t : ℕ) → Head t 0 ↔ GoodHead cat lent t
    head-good t = (λ (b, (m, c)). (b, m, c), λ (b, m, c). (b, (m, c)))

    -- 6 and 8 at table t in one row of conditions, whatever it is to come to a table.
    pub flat-six : {A : Type 0} {To : ℕ → Type 0} → (A ↔ ((t : ℕ) × To t × Head t 6))
        → A ↔ ((t : ℕ) × To t × (BadScheme cat t → ⊥) × ManyRows cat t)
    flat-six p = (λ e. let (t, c, (b, m)) = p.0 e in (t, c, b, m), λ (t, c, b, m). p.1 (t, c, (b, m)))

    pub flat-eight : {A : Type 0} {To : ℕ → Type 0} → (A ↔ ((t : ℕ) × To t × Head t 8))
        → A ↔ ((t : ℕ) × To t × (BadScheme cat t → ⊥) × (ManyRows cat t → ⊥) × ManyCells cat lent t)
    flat-eight p = (λ e. let (t, c, (b, (m, x))) = p.0 e in (t, c, b, m, x), λ (t, c, b, m, x). p.1 (t, c, (b, (m, x))))

    pub which-head : (t k : ℕ) → Head t k → (k ≡ 0) ⊎ (k ≡ 5) ⊎ (k ≡ 6) ⊎ (k ≡ 8)
    which-head t k h =
        ⊎_elim (λ e. inr (inl e))
        (λ (b, x). ⊎_elim (λ e. inr (inr (inl e)))
        (λ (m, y). ⊎_elim (λ e. inr (inr (inr e)))
        (λ z. ⊎_elim (λ e. inl e) (λ n. absurd n) (case-of 0 k (ManyCells cat lent t → ⊥) ⊥ z))
        (case-of 8 k _ _ y))
        (case-of 6 k _ _ x))
        (case-of 5 k _ _ h)

  -- ---- 4, then table by table

  -- c is what the check of the sizes and then the check f of each table give; W t k is what it is that table t meets k.
  abbrev pub Whole : ℕ → (ℕ → ℕ) → Type 0
  Whole c f = c ≡ first_met (size_fault cat.m cat.n) (scan f cat.n 0)

  module _ (f : ℕ → ℕ) (W : ℕ → ℕ → Type 0) (each : (t k : ℕ) → (f t ≡ k) ↔ W t k) (c : ℕ) (whole : Whole c f) where
    checked-iff : (k : ℕ) → (k ≡ 0 → ⊥) → (c ≡ k) ↔ (Sized k ⊎ ((SizesOut cat → ⊥) × Meets W cat.n k))
    checked-iff k h =
        let p = first-iff (size_fault cat.m cat.n) (scan f cat.n 0) k h in
        let q = meets-iff f W each cat.n k h in (
          λ e. ⊎_elim (λ a. inl ((size-iff k).0 a)) (λ x. inr ((size-iff 0).0 x.0, q.0 x.1)) (p.0 (sym whole ∙ e)),
          λ s. whole ∙ p.1 (⊎_elim (λ a. inl ((size-iff k).1 a)) (λ x. inr ((size-iff 0).1 x.0, q.1 x.1)) s),
        )

    -- 4 is met by the sizes alone, the others by the tables alone.
    pub checked-four : ((t : ℕ) → W t 4 → ⊥) → (c ≡ 4) ↔ SizesOut cat
    checked-four n =
        let p = checked-iff 4 (λ z. absurd (omega arith)) in
        (λ e. ⊎_elim (λ s. s) (λ (z, (t, l, x, b)). absurd (n t x)) (p.0 e), λ s. p.1 (inl s))

    pub checked-table : (k : ℕ) → (k ≡ 0 → ⊥) → (Sized k → ⊥) → (c ≡ k) ↔ ((SizesOut cat → ⊥) × Meets W cat.n k)
    checked-table k h n =
        let p = checked-iff k h in
        (λ e. ⊎_elim (λ s. absurd (n s)) (λ m. m) (p.0 e), λ m. p.1 (inr m))

    pub checked-none : (c ≡ 0) ↔ ((SizesOut cat → ⊥) × ((t : ℕ) → t < cat.n → W t 0))
    checked-none =
        let p = meets-none f W each cat.n in (
          λ e. let (x, y) = first-clear (size_fault cat.m cat.n) (scan f cat.n 0) (sym whole ∙ e) in ((size-iff 0).0 x, p.0 y),
          λ (s, g). whole ∙ first-none (size_fault cat.m cat.n) (scan f cat.n 0) ((size-iff 0).1 s) ∙ p.1 g,
        )

  -- ---- 16

  misstored-iff : (t : ℕ) → (misstored cat t ≡ true) ↔ Misstored cat t
  unfolding misstored
  misstored-iff t =
      or-iff (not (eqb (place_in cat t) (first_cell cat t))) (not (eqb (mask_in cat t) (touching_of cat t)))
      (not_iff (eqb (place_in cat t) (first_cell cat t)) (eq_iff (place_in cat t) (first_cell cat t)))
      (not_iff (eqb (mask_in cat t) (touching_of cat t)) (eq_iff (mask_in cat t) (touching_of cat t)))

  -- Some table is stored wrongly.
  abbrev Wrong : Type 0
  Wrong = (t : ℕ) × (t < cat.n) × Misstored cat t

  stored-iff : (k : ℕ) → (stored_fault cat ≡ k) ↔ Case 16 k Wrong (Case 0 k (Wrong → ⊥) ⊥)
  unfolding stored_fault
  stored-iff =
      last-iff (any cat.n (misstored cat)) (
        λ e. let (t, l, y) = any_some cat.n (misstored cat) e in (t, l, (misstored-iff t).0 y),
        λ (t, l, x). any_of cat.n (misstored cat) t l ((misstored-iff t).1 x),
      )
      16 (λ z. absurd (omega arith))

  -- ---- the catalogue

  module _ (lent : ℕ) where
    whole : Whole (shape_fault cat lent) (fault_at cat lent)
    unfolding shape_fault tables_fault
    whole = ap (first_met (size_fault cat.m cat.n)) (scan-of (fault_at cat lent) (λ k t. tables_fault k cat lent t) (λ t. refl) (λ k t. refl) cat.n 0)

    shape-none : (shape_fault cat lent ≡ 0) ↔ ComesToStored cat lent
    shape-none =
        let p = checked-none (fault_at cat lent) (Head lent) (head-iff lent) (shape_fault cat lent) whole in (
          λ e. let (s, g) = p.0 e in record { sizes = s; tables = λ t l. (head-good lent t).0 (g t l) },
          λ C. p.1 (C.sizes, λ t l. (head-good lent t).1 (C.tables t l)),
        )

    -- All but 16 are met before what is stored is looked at.
    shape-met : (k : ℕ) → (k ≡ 0 → ⊥) → (k ≡ 16 → ⊥) → (catalogue_fault cat lent ≡ k) ↔ (shape_fault cat lent ≡ k)
    unfolding catalogue_fault
    shape-met k h n =
        let p = first-iff (shape_fault cat lent) (stored_fault cat) k h in (
          λ e. ⊎_elim (λ x. x) (λ y. absurd (⊎_elim n (λ z. ⊎_elim h (λ b. b) (case-of 0 k (Wrong → ⊥) ⊥ z)) (case-of 16 k Wrong _ ((stored-iff k).0 y.1)))) (p.0 e),
          λ e. p.1 (inl e),
        )

    shape-four : (shape_fault cat lent ≡ 4) ↔ SizesOut cat
    shape-four = checked-four (fault_at cat lent) (Head lent) (head-iff lent) (shape_fault cat lent) whole (λ t x. x.1.1)

    catalogue-four : (catalogue_fault cat lent ≡ 4) ↔ SizesOut cat
    catalogue-four = Iff.trans (shape-met 4 (λ z. absurd (omega arith)) (λ z. absurd (omega arith))) shape-four

    shape-table : (k : ℕ) → (k ≡ 0 → ⊥) → (Sized k → ⊥) → (shape_fault cat lent ≡ k) ↔ ((t : ℕ) × ComesTo cat lent t × Head lent t k)
    shape-table k h n =
        let p = checked-table (fault_at cat lent) (Head lent) (head-iff lent) (shape_fault cat lent) whole k h n in (
          λ e. let (z, (t, l, x, b)) = p.0 e in (t, record { sizes = z; there = l; before = λ u j. (head-good lent u).0 (b u j) }, x),
          λ (t, c, x). p.1 (c.sizes, (t, c.there, x, λ u j. (head-good lent u).1 (c.before u j))),
        )

    catalogue-table : (k : ℕ) → (k ≡ 0 → ⊥) → (k ≡ 16 → ⊥) → (Sized k → ⊥) → (catalogue_fault cat lent ≡ k) ↔ ((t : ℕ) × ComesTo cat lent t × Head lent t k)
    catalogue-table k h x n = Iff.trans (shape-met k h x) (shape-table k h n)

    catalogue-stored : (catalogue_fault cat lent ≡ 16) ↔ (ComesToStored cat lent × Wrong)
    unfolding catalogue_fault
    catalogue-stored =
        let p = first-iff (shape_fault cat lent) (stored_fault cat) 16 (λ z. absurd (omega arith)) in
        let q = shape-table 16 (λ z. absurd (omega arith)) (λ s. s) in (
          λ e. ⊎_elim (λ x. let (t, c, y) = q.0 x in absurd y.1.1) (λ (x, y). (shape-none.0 x, (stored-iff 16).0 y)) (p.0 e),
          λ (C, w). p.1 (inr (shape-none.1 C, (stored-iff 16).1 w)),
        )

    catalogue-other : (k : ℕ) → catalogue_fault cat lent ≡ k → (k ≡ 0) ⊎ OfCatalogue k
    catalogue-other k e =
        elim (ℕ_discrete k 0) [
          | yes z ↦ inl z
          | no h ↦ elim (ℕ_discrete k 16) [
            | yes s ↦ inr (inr (inr (inr (inr s))))
            | no s ↦ elim (ℕ_discrete k 4) [
              | yes f ↦ inr (inl f)
              | no f ↦ let (t, c, x) = (catalogue-table k h s (sized-four k h f)).0 e in headed (which-head lent t k x)
            ]
          ]
        ]
      where
        headed : {k : ℕ} → (k ≡ 0) ⊎ (k ≡ 5) ⊎ (k ≡ 6) ⊎ (k ≡ 8) → (k ≡ 0) ⊎ OfCatalogue k
        headed (inl z) = inl z
        headed (inr (inl f)) = inr (inr (inl f))
        headed (inr (inr (inl s))) = inr (inr (inr (inl s)))
        headed (inr (inr (inr g))) = inr (inr (inr (inr (inl g))))

pub catalogue-exact : (cat : Catalogue) (lent : ℕ) → CatalogueExact cat lent
catalogue-exact cat lent =
    record {
      refusal-4 = catalogue-four cat lent;
      refusal-5 = catalogue-table cat lent 5 (λ z. absurd (omega arith)) (λ z. absurd (omega arith)) (λ s. s);
      refusal-6 = flat-six cat lent (catalogue-table cat lent 6 (λ z. absurd (omega arith)) (λ z. absurd (omega arith)) (λ s. s));
      refusal-8 = flat-eight cat lent (catalogue-table cat lent 8 (λ z. absurd (omega arith)) (λ z. absurd (omega arith)) (λ s. s));
      refusal-16 = catalogue-stored cat lent;
      none = (fault-lawful cat lent, lawful-fault cat lent);
      no_other = catalogue-other cat lent;
    }

-- ---- a catalogue that is made

-- The answer is what the tables meet, and the catalogue with it.
module _ (m n : ℕ) (xs cs : List ℕ) (r : Made) (M : Makes m n xs cs r) where
  abbrev said : Catalogue
  said = given m n xs cs

  made-met : r.refusal ≡ shape_fault said most_cells
  made-met = ap (λ (x : Made). x.refusal) M ∙ by (shape_fault said most_cells)
    where
      by : (k : ℕ) → (made_if k said).refusal ≡ k
      by zero = refl
      by (suc k) = refl

  made-good : r.refusal ≡ 0 → r.catalogue ≡ filled said
  made-good e = ap (λ (x : Made). x.catalogue) (M ∙ made-filled (shape_fault said most_cells) said (sym made-met ∙ e))

  made-zeros : (r.refusal ≡ 0 → ⊥) → r.catalogue ≡ no_tables
  made-zeros n = ap (λ (x : Made). x.catalogue) (M ∙ made-refused (shape_fault said most_cells) said (λ e. n (made-met ∙ e)))

  made-iff : {A : Type 0} (k : ℕ) → ((shape_fault said most_cells ≡ k) ↔ A) → (r.refusal ≡ k) ↔ A
  made-iff k p = (λ e. p.0 (sym made-met ∙ e), λ a. made-met ∙ p.1 a)

  made-lawful : (r.refusal ≡ 0) ↔ Lawful r.catalogue most_cells
  made-lawful = (
    λ e. rw (made-good e) (filled-lawful said most_cells (shape-clear said most_cells (sym made-met ∙ e))),
    λ L. elim (ℕ_discrete r.refusal 0) [
      | yes e ↦ e
      | no h ↦ absurd (let z : 1 ≤ 0 = subst (λ (c : Catalogue). 1 ≤ c.m) (made-zeros h) L.some-attribute in omega arith)
    ],
  )

  made_other : (k : ℕ) → r.refusal ≡ k → (k ≡ 0) ⊎ (k ≡ 4) ⊎ (k ≡ 5) ⊎ (k ≡ 6) ⊎ (k ≡ 8)
  made_other k e =
      elim (ℕ_discrete k 0) [
        | yes z ↦ inl z
        | no h ↦ elim (ℕ_discrete k 4) [
          | yes f ↦ inr (inl f)
          | no f ↦
              let (t, c, x) = (shape-table said most_cells k h (sized-four said k h f)).0 (sym made-met ∙ e) in
              ⊎_elim inl (λ s. inr (inr s)) (which-head said most_cells t k x)
        ]
      ]

  pub make-exact : MakeExact m n xs cs r
  make-exact =
      record {
        refusal-4 = made-iff 4 (shape-four said most_cells);
        refusal-5 = made-iff 5 (shape-table said most_cells 5 (λ z. absurd (omega arith)) (λ s. s));
        refusal-6 = made-iff 6 (flat-six said most_cells (shape-table said most_cells 6 (λ z. absurd (omega arith)) (λ s. s)));
        refusal-8 = made-iff 8 (flat-eight said most_cells (shape-table said most_cells 8 (λ z. absurd (omega arith)) (λ s. s)));
        none = made-lawful;
        said = made-good;
        zeros = made-zeros;
        no_other = made_other;
      }

-- ---- the other numbers

-- Whether k is one of them, or 0.
abbrev among : ℕ → Bool
among k = eqb k 0 || (eqb k 4 || (eqb k 5 || (eqb k 6 || (eqb k 8 || eqb k 16))))

-- A catalogue meets no other: `refl` is the proof that a number is one.
pub catalogue-not : (cat : Catalogue) (lent k : ℕ) → among k ≡ false → catalogue_fault cat lent ≡ k → ⊥
catalogue-not cat lent k f e = by ((catalogue-exact cat lent).no_other k e)
  where
    is : (j : ℕ) → k ≡ j → among j ≡ true → ⊥
    is j x y = clash (subst (λ (i : ℕ). among i ≡ true) (sym x) y) f

    by : (k ≡ 0) ⊎ OfCatalogue k → ⊥
    by (inl x) = is 0 x refl
    by (inr (inl x)) = is 4 x refl
    by (inr (inr (inl x))) = is 5 x refl
    by (inr (inr (inr (inl x)))) = is 6 x refl
    by (inr (inr (inr (inr (inl x))))) = is 8 x refl
    by (inr (inr (inr (inr (inr x))))) = is 16 x refl

-- All of them are low.
pub of-catalogue-low : (k : ℕ) → OfCatalogue k → k < 17
of-catalogue-low k (inl e) = omega arith
of-catalogue-low k (inr (inl e)) = omega arith
of-catalogue-low k (inr (inr (inl e))) = omega arith
of-catalogue-low k (inr (inr (inr (inl e)))) = omega arith
of-catalogue-low k (inr (inr (inr (inr e)))) = omega arith
