-- 10, 21 and 7 of a table's rows, each exactly when: the first row that meets one gives it. What carries the proof: the writer's walk over the rows is a scan
-- of the rows' own checks, in which a row is compared with the one before. Assumes nothing.
use Prim.Native.Nat.{ℕ, zero, suc, ◌+◌, ◌-◌, ◌^◌, ◌≤◌, ◌<◌}
use native.Mathlib.Nat.{suc-mul}
use native.Mathlib.Omega.{arith}
use mathlib.Core.Path.{◌≡◌, refl, sym, ap, subst, ◌∙◌}
use mathlib.Core.Logic.{◌⊎◌, ◌↔◌, inl, inr, ⊎_elim}
use mathlib.Core.Bool.{Bool, true, false, not, cond, ◌||◌}
use mathlib.Core.List.Memᴰ
use mathlib.Core.List.{List, [], ◌∷◌, Memᴰ}
use lib.Count.{ones}
use lib.Dec.{ltb, leb, eqb}
use borrow.Author.Tests.{not-true, not-false, ltb-true, lt-ltb, leb-true, le-leb, eqb-true, eq-eqb}
use Rattle.laws.specs.Lists.{part}
use Rattle.laws.proofs.TestLaws.{clash, and_split, or_case, or_left, or_right, or-none}
use Rattle.tables.specs.declared.Catalogue.{Catalogue}
use Rattle.tables.specs.Catalogues.{scheme_of, count_of, first_cell, row_start}
use Rattle.tables.specs.Sizes.{version_two}
use Rattle.tables.specs.Rows.{below, all_null}
use Rattle.tables.specs.Versions.{version_of, blank}
use Rattle.tables.specs.Checks.{first_met}
use Rattle.writer.specs.Write.{too_high, rows_fault, rows_refusal}
use Rattle.claims.specs.WriteRefusals.{row_cells, HighCode, AllNull, NotRising, GoodRow}
use Rattle.claims.proofs.VersionExactly.{carries-two}
use Rattle.claims.proofs.ScanLaws.{Case, case-of, step-iff, last-iff, scan, meets-iff, meets-none}

-- ---- 10

high-some : (xs : List ℕ) → too_high xs ≡ true → (x : ℕ) × Memᴰ x xs × (2 ^ 63 ≤ x)
unfolding too_high
high-some [] e = absurd (clash e refl)
high-some (x ∷ xs) e =
    ⊎_elim
    (λ l. (x, Memᴰ.head refl, leb-true (2 ^ 63) x l))
    (λ h. let (y, m, l) = high-some xs h in (y, Memᴰ.tail m, l))
    (or_case (leb (2 ^ 63) x) (too_high xs) e)

some-high : (xs : List ℕ) (x : ℕ) → Memᴰ x xs → 2 ^ 63 ≤ x → too_high xs ≡ true
unfolding too_high
some-high [] x m l = absurd (Memᴰ.not-nil m)
some-high (y ∷ xs) x m l =
    ⊎_elim
    (λ (e : x ≡ y). or_left (too_high xs) (le-leb (2 ^ 63) y (rw e at l)))
    (λ n. or_right (leb (2 ^ 63) y) (some-high xs x n l))
    (Memᴰ.cases_cons m)

-- ---- 21

null-every : (xs : List ℕ) → all_null xs ≡ true → (x : ℕ) → Memᴰ x xs → x ≡ 0
unfolding all_null
null-every [] e x m = absurd (Memᴰ.not-nil m)
null-every (y ∷ xs) e x m =
    let (a, b) = and_split (eqb y 0) (all_null xs) e in
    ⊎_elim (λ (q : x ≡ y). q ∙ eqb-true y 0 a) (λ n. null-every xs b x n) (Memᴰ.cases_cons m)

every-null : (xs : List ℕ) → ((x : ℕ) → Memᴰ x xs → x ≡ 0) → all_null xs ≡ true
unfolding all_null
every-null [] h = refl
every-null (y ∷ xs) h = rw (eq-eqb y 0 (h y (Memᴰ.head refl)), every-null xs (λ x m. h x (Memᴰ.tail m)))

-- ---- a row

module _ (cat : Catalogue) (cells : List ℕ) (t : ℕ) where
  abbrev row : ℕ → List ℕ
  row r = row_cells cat cells t r

  -- Row r is the first or rises above the one before.
  abbrev rising : ℕ → Bool
  rising r = not (ltb 1 r) || below (row (r - 1)) (row r)

  -- "per row 10, then 7"; 21 "before 7"
  abbrev row_fault : ℕ → ℕ
  row_fault r = cond (too_high (row r)) 10 (cond (blank (version_of cat) (row r)) 21 (cond (not (rising r)) 7 0))

  -- What it is that row r meets k.
  abbrev pub Row : ℕ → ℕ → Type 0
  Row r k =
      Case 10 k (HighCode cat cells t r)
      ((HighCode cat cells t r → ⊥) × Case 21 k (AllNull cat cells t r)
      ((AllNull cat cells t r → ⊥) × Case 7 k (NotRising cat cells t r)
      (Case 0 k (NotRising cat cells t r → ⊥) ⊥)))

  null-iff : (r : ℕ) → (blank (version_of cat) (row r) ≡ true) ↔ AllNull cat cells t r
  unfolding blank
  null-iff r = (
    λ e. let (a, b) = and_split (eqb (version_of cat) version_two) (all_null (row r)) e in
        ((carries-two cat).0 (eqb-true (version_of cat) version_two a), null-every (row r) b),
    λ (n, h). rw (eq-eqb (version_of cat) version_two ((carries-two cat).1 n), every-null (row r) h),
  )

  flat-iff : (r : ℕ) → (not (rising r) ≡ true) ↔ NotRising cat cells t r
  flat-iff r = (
    λ e. let (l, b) = or-none (not (ltb 1 r)) (below (row (r - 1)) (row r)) (not-true (rising r) e) in (ltb-true 1 r (not-false (ltb 1 r) l), b),
    λ (l, b). rw (lt-ltb 1 r l, b),
  )

  row-iff : (r k : ℕ) → (row_fault r ≡ k) ↔ Row r k
  row-iff r =
      step-iff (too_high (row r)) (high-some (row r), λ (x, m, l). some-high (row r) x m l) 10 _ _
      (step-iff (blank (version_of cat) (row r)) (null-iff r) 21 _ _
      (last-iff (not (rising r)) (flat-iff r) 7 (λ z. absurd (omega arith)))
      (λ h. h))
      (λ h. h.1)

  pub which-row : (r k : ℕ) → Row r k → (k ≡ 0) ⊎ (k ≡ 10) ⊎ (k ≡ 21) ⊎ (k ≡ 7)
  which-row r k h =
      ⊎_elim (λ e. inr (inl e))
      (λ (n, x). ⊎_elim (λ e. inr (inr (inl e)))
      (λ (g, y). ⊎_elim (λ e. inr (inr (inr e)))
      (λ z. ⊎_elim (λ e. inl e) (λ n. absurd n) (case-of 0 k (NotRising cat cells t r → ⊥) ⊥ z))
      (case-of 7 k _ _ y))
      (case-of 21 k _ _ x))
      (case-of 10 k _ _ h)

  good-iff : (r : ℕ) → Row r 0 ↔ GoodRow cat cells t r
  good-iff r = (λ (h, (n, x)). (h, n, x), λ (h, n, x). (h, (n, x)))

  -- ---- row by row

  abbrev width : ℕ
  width = ones (scheme_of cat t)

  row_first : (h e o : Bool) (rest : ℕ) → cond h 10 (cond e 21 (cond o rest 7)) ≡ first_met (cond h 10 (cond e 21 (cond (not o) 7 0))) rest
  row_first true e o rest = refl
  row_first false true o rest = refl
  row_first false false true rest = refl
  row_first false false false rest = refl

  start-next : (i : ℕ) → row_start cat t (i + 1) + width ≡ row_start cat t (i + 1 + 1)
  unfolding row_start
  start-next i = let a : i + 1 - 1 ≡ i = omega arith in let b : i + 1 + 1 - 1 ≡ suc i = omega arith in rw (a, b) (omega (arith, suc-mul i width))

  rising-next : (i : ℕ) → below (row (i + 1)) (row (i + 1 + 1)) ≡ rising (i + 1 + 1)
  rising-next i = let a : i + 1 + 1 - 1 ≡ i + 1 = omega arith in rw (a, lt-ltb 1 (i + 1 + 1) (omega arith))

  rows-scan : (k i : ℕ) (first : Bool) (before at : ℕ) → at ≡ row_start cat t (i + 1)
      → (first || below (part before width cells) (part at width cells)) ≡ rising (i + 1)
      → rows_fault k width cells (version_of cat) first before at ≡ scan (λ j. row_fault (j + 1)) k i
  unfolding rows_fault scan
  rows-scan zero i first before at a o = refl
  rows-scan (suc k) i first before at a o =
      let next : at + width ≡ row_start cat t (i + 1 + 1) = ap (λ (s : ℕ). s + width) a ∙ start-next i in
      let rest = rows-scan k (i + 1) false at (at + width) next (rw (a, start-next i) (rising-next i)) in
      rw (o, rest, a) (row_first (too_high (row (i + 1))) (blank (version_of cat) (row (i + 1))) (rising (i + 1)) (scan (λ j. row_fault (j + 1)) k (i + 1)))

  -- Place i, from 0, is row i + 1.
  abbrev check : ℕ → ℕ
  check i = row_fault (i + 1)

  table-scan : rows_refusal cat cells t ≡ scan check (count_of cat t) 0
  unfolding row_start
  table-scan = rows-scan (count_of cat t) 0 true 0 (first_cell cat t) (omega arith) refl

  back : (r : ℕ) → 1 ≤ r → r - 1 + 1 ≡ r
  back r h = omega arith

  -- Row r is the first that meets something, and meets k.
  abbrev pub RowsMeet : ℕ → Type 0
  RowsMeet k = (r : ℕ) × (1 ≤ r) × (r ≤ count_of cat t) × Row r k × ((q : ℕ) → 1 ≤ q → q < r → GoodRow cat cells t q)

  pub rows-iff : (k : ℕ) → (k ≡ 0 → ⊥) → (rows_refusal cat cells t ≡ k) ↔ RowsMeet k
  rows-iff k h =
      let p = meets-iff check (λ j. Row (j + 1)) (λ j. row-iff (j + 1)) (count_of cat t) k h in (
        λ e. let (i, l, x, b) = p.0 (sym table-scan ∙ e) in
            (i + 1, omega arith, omega arith, x, λ q j g. (good-iff q).0 (subst (λ (a : ℕ). Row a 0) (back q j) (b (q - 1) (omega arith)))),
        λ (r, j, l, x, b). table-scan
            ∙ p.1 (r - 1, omega arith, subst (λ (a : ℕ). Row a k) (sym (back r j)) x, λ u g. (good-iff (u + 1)).1 (b (u + 1) (omega arith) (omega arith))),
      )

  pub rows-good : (rows_refusal cat cells t ≡ 0) ↔ ((r : ℕ) → 1 ≤ r → r ≤ count_of cat t → GoodRow cat cells t r)
  rows-good =
      let p = meets-none check (λ j. Row (j + 1)) (λ j. row-iff (j + 1)) (count_of cat t) in (
        λ e r j l. (good-iff r).0 (subst (λ (a : ℕ). Row a 0) (back r j) (p.0 (sym table-scan ∙ e) (r - 1) (omega arith))),
        λ g. table-scan ∙ p.1 (λ u l. (good-iff (u + 1)).1 (g (u + 1) (omega arith) (omega arith))),
      )
