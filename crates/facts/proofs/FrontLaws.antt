-- Without nulls no padded row covers another set's (request #114): where it did, every row of the second set would pass the row test on the first, or
-- be a row of it. And every row stands in some set. Assumes nothing.
use Prim.Native.Nat.{ℕ, ◌<◌}
use native.Mathlib.Omega.{arith}
use native.Mathlib.Nat.{eq-zero-or-pos}
use mathlib.Core.Path.{◌≡◌, sym, ◌∙◌}
use mathlib.Core.Logic.{◌≢◌, ◌⊎◌, inl, inr, ⊎_elim}
use mathlib.Core.Bool.{true, false}
use mathlib.Core.List.{List}
use lib.ListN.{get_or}
use Rattle.laws.specs.Tests.{any}
use Rattle.laws.proofs.TestLaws.{which, clash, not_yes, any_some, any_of}
use Rattle.disjunction.specs.Sets.{Tables, Symmetric, at, Member, Row, Maximal}
use Rattle.disjunction.specs.Rule.{Place, row_in, row_test, extension, alone}
use Rattle.disjunction.specs.Cells.{Cells, tables, gives, padded, Embedding}
use Rattle.disjunction.proofs.RowSets.{member-row}
use Rattle.disjunction.proofs.RowTests.{row_test-iff}
use Rattle.disjunction.proofs.Extending.{maximal-closed}
use Rattle.disjunction.proofs.Completeness.{row-stands}
use Rattle.disjunction.proofs.CellLaws.{sharing-iff, matching-iff, tables-symmetric, gives-iff, padded-embedding}
use Rattle.padding.specs.Covering.{covering, Covering}
use Rattle.padding.proofs.CoveringLaws.{covering-iff}
use Rattle.facts.specs.Front.{NoNulls, Filed}

-- "Every row of every table stands in some set."
pub every-row-stands : (W : Tables) → Symmetric W → (t r : ℕ) → Row W t r → (T : List ℕ) × Maximal W T × (at T t ≡ r)
every-row-stands W S t r h =
    let s : Place = record { table = t; row = r } in
    let x = row-stands W S s h in
    ((extension W (alone W s)).rows, x.0, x.1)

-- ---- without nulls

module _ (C : Cells) (plain : NoNulls C) (filed : Filed C) (T U : List ℕ) (x : Maximal (tables C) T) (y : Maximal (tables C) U)
    (cover : Covering (padded C T) (padded C U)) where
  first : Embedding C T (padded C T)
  first = padded-embedding C T x.jcc.valid.long x.jcc.consistent

  second : Embedding C U (padded C U)
  second = padded-embedding C U y.jcc.valid.long y.jcc.consistent

  -- A row of U, and its values: the first padded row has them.
  module _ (t : ℕ) (m : Member U t) where
    row : Row (tables C) t (at U t)
    row = member-row (tables C) U y.jcc.valid t m

    code : (a : ℕ) → a < C.m → C.has t a ≡ true → (0 < C.cell t (at U t) a) × (get_or (padded C T) a 0 ≡ C.cell t (at U t) a)
    code a l h =
        let e = second.from t a l m h in
        let p = plain t (at U t) a row l h in
        (p, cover.values a (rw e p) ∙ e)

    -- A row of T in the same table is the same row.
    same_row : Member T t → at T t ≡ at U t
    same_row n =
        filed.once t (at T t) (at U t) (member-row (tables C) T x.jcc.valid t n) row
        (λ a l h. sym (first.from t a l n h) ∙ (code a l h).1)

    -- Some row of T has an attribute of it.
    giver : (a : ℕ) → a < C.m → C.has t a ≡ true → (u : ℕ) × Member T u × (C.has u a ≡ true)
    giver a l h = go (which (any C.n (gives C T a)))
      where
        go : (any C.n (gives C T a) ≡ true) ⊎ (any C.n (gives C T a) ≡ false) → (u : ℕ) × Member T u × (C.has u a ≡ true)
        go (inl e) = let (u, b, g) = any_some C.n (gives C T a) e in let z = (gives-iff C T a u).0 g in (u, z.0, z.1)
        go (inr e) =
            let z = first.null a l
            (λ u k p. clash (any_of C.n (gives C T a) u (member-row (tables C) T x.jcc.valid u k).table ((gives-iff C T a u).1 (k, p))) e) in
            absurd (omega (arith, z, (code a l h).0, (code a l h).1))

    -- It could be added to T, if its table were absent.
    addable : at T t ≡ 0 → row_test (tables C) T (row_in U t) ≡ true
    addable z =
        let (a, l, h) = filed.scheme t row.table in
        let (u, k, p) = giver a l h in
        (row_test-iff (tables C) T (row_in U t) x.jcc.valid.long).1
        (record {
          absent = z;
          near = (u, k, (sharing-iff C u t).1 (a, l, p, h));
          agrees = λ v n.
              (matching-iff C v (at T v) t (at U t)).1
              (λ b i q s. let e = sym (first.from v b i n q) ∙ (code b i s).1 in (omega (arith, e, (code b i s).0), e));
        })

  pub covered_same : T ≡ U
  covered_same =
      y.largest T x.jcc
      (λ t m.
      ⊎_elim
      (λ z. absurd (clash (addable t m z) (maximal-closed (tables C) (tables-symmetric C) T x (row_in U t) (row t m))))
      (same_row t m)
      (eq-zero-or-pos (at T t)))

-- "If no table holds a null, no handed-out padded row covers another set's."
pub none-covered : (C : Cells) → NoNulls C → Filed C → (T U : List ℕ) → Maximal (tables C) T → Maximal (tables C) U → T ≢ U
    → covering (padded C T) (padded C U) ≡ false
none-covered C plain filed T U x y d =
    not_yes (covering (padded C T) (padded C U)) (λ e. d (covered_same C plain filed T U x y ((covering-iff (padded C T) (padded C U)).0 e)))
