-- Tables that the loader accepts have no empty scheme, and no row stands twice in its table: rows strictly rise, so a later row lies above an earlier one
-- and differs from it in some cell, and every cell is the code of an attribute of the scheme. And when no table holds a null. Assumes nothing.
use Prim.Native.Nat.{ℕ, zero, suc, ◌+◌, ◌-◌, ◌/◌, ◌%◌, ◌^◌, ◌≤◌, ◌<◌}
use native.Mathlib.Omega.{arith}
use native.Mathlib.Nat.{mod-lt}
use native.Mathlib.Decide.{dec_lt}
use mathlib.Core.Path.{◌≡◌, refl, sym, ap, ◌∙◌}
use mathlib.Core.Logic.{◌⊎◌, inl, inr, ⊎_elim}
use mathlib.Core.Bool.{true, false}
use mathlib.Core.List.{List, [], ◌∷◌}
use lib.ListN.{length, get_or}
use lib.Seq.{ext_get_or}
use lib.Count.{ones, count_trailing_zeros, ones_cat, ones-le}
use lib.Pow.{pow_pos, split, shr_lt, mod-mod-pow}
use borrow.Author.Tests.{eq-eqb}
use Rattle.laws.proofs.ListLaws.{length_part}
use Rattle.laws.proofs.TestLaws.{which, clash}
use Rattle.words.specs.Words.{bit_of}
use Rattle.words.proofs.WordLaws.{bit-low, trailing-lowest}
use Rattle.tables.specs.declared.Catalogue.{Catalogue}
use Rattle.tables.specs.Catalogues.{scheme_of, count_of, first_cell, row_start, code_of}
use Rattle.tables.specs.Rows.{below}
use Rattle.tables.specs.Checks.{Lawful}
use Rattle.tables.proofs.CatalogueLaws.{row_inside}
use Rattle.tables.proofs.RowLaws.{below_none, below-bad, below-lt, below-gt, below_eq}
use Rattle.disjunction.specs.Sets.{Row}
use Rattle.disjunction.specs.Cells.{tables}
use Rattle.rows.specs.World.{cells_in}
use Rattle.rows.proofs.WorldLaws.{code_inside}
use Rattle.writer.specs.Write.{Accepted}
use Rattle.claims.specs.WriteRefusals.{row_cells}
use Rattle.claims.proofs.RowsExactly.{rows-good}
use Rattle.facts.specs.Front.{NoNulls, Filed}
use Rattle.facts.proofs.OrderLaws.{part_at}

-- ---- one row lies below another

-- At the first code that decides, or behind an equal one.
below-cases : (x y : ℕ) (xs ys : List ℕ) → below (x ∷ xs) (y ∷ ys) ≡ true → (x < y) ⊎ ((x ≡ y) × (below xs ys ≡ true))
below-cases x y xs ys h = go (dec_lt x y) (dec_lt y x)
  where
    go : Dec (x < y) → Dec (y < x) → (x < y) ⊎ ((x ≡ y) × (below xs ys ≡ true))
    go (yes l) d = inl l
    go (no l) (yes g) = absurd (clash h (below-gt x y xs ys g))
    go (no l) (no g) = inr (omega arith, sym (below_eq x y xs ys (omega arith) (omega arith)) ∙ h)

below-itself : (xs : List ℕ) → below xs xs ≡ false
below-itself [] = below_none []
below-itself (x ∷ xs) = below_eq x x xs xs (omega arith) (omega arith) ∙ below-itself xs

below-through : (xs ys zs : List ℕ) → below xs ys ≡ true → below ys zs ≡ true → below xs zs ≡ true
below-through [] ys zs h k = absurd (clash h (below_none ys))
below-through (x ∷ xs) [] zs h k = absurd (clash h (below-bad (x ∷ xs)))
below-through (x ∷ xs) (y ∷ ys) [] h k = absurd (clash k (below-bad (y ∷ ys)))
below-through (x ∷ xs) (y ∷ ys) (z ∷ zs) h k = go (below-cases x y xs ys h) (below-cases y z ys zs k) (below-through xs ys zs)
  where
    go : (x < y) ⊎ ((x ≡ y) × (below xs ys ≡ true)) → (y < z) ⊎ ((y ≡ z) × (below ys zs ≡ true))
        → (below xs ys ≡ true → below ys zs ≡ true → below xs zs ≡ true) → below (x ∷ xs) (z ∷ zs) ≡ true
    go (inl a) (inl b) ih = below-lt x z xs zs (omega arith)
    go (inl a) (inr (e, b)) ih = below-lt x z xs zs (omega arith)
    go (inr (e, a)) (inl b) ih = below-lt x z xs zs (omega arith)
    go (inr (e, a)) (inr (f, b)) ih = below_eq x z xs zs (omega arith) (omega arith) ∙ ih a b

-- ---- the attribute of a cell

low-low : (s a m : ℕ) → a < m → s % 2 ^ a ≡ s % 2 ^ m % 2 ^ a
low-low s a m l = let e : m ≡ (m - a) + a = omega arith in sym (rw (← e) at (mod-mod-pow s (m - a) a))

bit-one : (s m : ℕ) → s / 2 ^ m ≡ 1 → bit_of s m ≡ true
unfolding bit_of
bit-one s m e = rw e (eq-eqb 1 1 refl)

-- Cell i of a row is the code of this attribute of the scheme.
abbrev CellOf : ℕ → ℕ → ℕ → Type 0
CellOf m s i = (a : ℕ) × (a < m) × (bit_of s a ≡ true) × (ones (s % 2 ^ a) ≡ i)

cell-of : (m s i : ℕ) → s < 2 ^ m → i < ones s → CellOf m s i
cell-of zero s i l h = absurd (omega (arith, ones-le 0 s l))
cell-of (suc m) s i l h = go (dec_lt i (ones (s % 2 ^ m))) (λ b. cell-of m (s % 2 ^ m) i (mod-lt s (pow_pos m)) b)
  where
    high : ℕ
    high = s / 2 ^ m

    all : ones s ≡ ones high + ones (s % 2 ^ m)
    all = rw (split s m) at (ones_cat m high (s % 2 ^ m) (mod-lt s (pow_pos m)))

    small : high < 2
    small = let e : suc m ≡ 1 + m = omega arith in shr_lt 1 m (rw e at l)

    -- Where the cell lies behind those of the lower attributes, it is that of attribute m.
    last : (i < ones (s % 2 ^ m) → ⊥) → high ≡ 1
    last b =
        elim (dec_lt high 1) [
          | yes z ↦ absurd (omega (arith, all, ones-le 0 high z))
          | no z ↦ omega (arith, small)
        ]

    go : Dec (i < ones (s % 2 ^ m)) → (i < ones (s % 2 ^ m) → CellOf m (s % 2 ^ m) i) → CellOf (suc m) s i
    go (yes b) ih =
        let (a, k, p, e) = ih b in
        (a, omega arith, sym (bit-low s m a k) ∙ p, ap ones (low-low s a m k) ∙ e)
    go (no b) ih =
        (m, omega arith, bit-one s m (last b), omega (arith, all, ones-le 1 high small))

-- ---- the rows of a table

module _ (cat : Catalogue) (cells : List ℕ) (A : Accepted cat cells) where
  module _ (t : ℕ) (l : t < cat.n) where
    -- A row lies below the next one,
    next-above : (r : ℕ) → 1 ≤ r → r < count_of cat t → below (row_cells cat cells t r) (row_cells cat cells t (r + 1)) ≡ true
    next-above r low high =
        let good = (rows-good cat cells t).0 (A.rows t l) (r + 1) (omega arith) (omega arith) in
        let e : r + 1 - 1 ≡ r = omega arith in
        ⊎_elim
        (λ y. y)
        (λ f. absurd (good.2 (omega arith, rw e f)))
        (which (below (row_cells cat cells t r) (row_cells cat cells t (r + 1))))

    -- and so below every later one.
    later-above : (d r : ℕ) → 1 ≤ r → r + d < count_of cat t → below (row_cells cat cells t r) (row_cells cat cells t (r + d + 1)) ≡ true
    later-above zero r low high = let e : r + 0 + 1 ≡ r + 1 = omega arith in rw e (next-above r low (omega arith))
    later-above (suc d) r low high =
        let e : r + suc d ≡ r + d + 1 = omega arith in
        below-through (row_cells cat cells t r) (row_cells cat cells t (r + d + 1)) (row_cells cat cells t (r + suc d + 1))
        (later-above d r low (omega arith)) (rw e (next-above (r + d + 1) (omega arith) (omega arith)))

    apart : (r q : ℕ) → 1 ≤ r → r < q → q ≤ count_of cat t → row_cells cat cells t r ≡ row_cells cat cells t q → ⊥
    apart r q low less high e =
        let n : r + (q - r - 1) + 1 ≡ q = omega arith in
        clash (rw (n, e) at (later-above (q - r - 1) r low (omega arith))) (below-itself (row_cells cat cells t q))

    -- Rows with one code at each attribute of the scheme have the same cells.
    same-cells : (r q : ℕ) → Row (tables (cells_in cat cells)) t r → Row (tables (cells_in cat cells)) t q
        → ((a : ℕ) → a < cat.m → bit_of (scheme_of cat t) a ≡ true → code_of cat cells t r a ≡ code_of cat cells t q a)
        → row_cells cat cells t r ≡ row_cells cat cells t q
    same-cells r q hr hq h =
        let w = ones (scheme_of cat t) in
        let long : (p : ℕ) → Row (tables (cells_in cat cells)) t p → length (row_cells cat cells t p) ≡ w =
        λ p k. length_part (row_start cat t p) w cells
        (omega (arith, row_inside cat (length cells) A.lawful t p l k.low k.high, A.lawful.room)) in
        ext_get_or 0 (row_cells cat cells t r) (row_cells cat cells t q) (long r hr ∙ sym (long q hq))
        (λ i b.
        let j : i < w = rw (long r hr) at b in
        let (a, k, p, e) = cell-of cat.m (scheme_of cat t) i (A.lawful.scheme t l) j in
        part_at (row_start cat t r) w i cells j
        ∙ (rw e at (h a k p))
        ∙ sym (part_at (row_start cat t q) w i cells j))

  pub accepted-filed : Filed (cells_in cat cells)
  accepted-filed =
      record {
        scheme = λ t l.
            let b = trailing-lowest cat.m (scheme_of cat t) (A.lawful.some-scheme t l) (A.lawful.scheme t l) in
            (count_trailing_zeros cat.m (scheme_of cat t), b.narrow, b.itself);
        once = λ t r q hr hq h. once t r q hr hq (same-cells t hr.table r q hr hq h) (dec_lt r q) (dec_lt q r);
      }
    where
      once : (t r q : ℕ) → Row (tables (cells_in cat cells)) t r → Row (tables (cells_in cat cells)) t q → row_cells cat cells t r ≡ row_cells cat cells t q
          → Dec (r < q) → Dec (q < r) → r ≡ q
      once t r q hr hq e (yes b) d = absurd (apart t hr.table r q hr.low b hq.high e)
      once t r q hr hq e (no b) (yes d) = absurd (apart t hr.table q r hq.low d hr.high (sym e))
      once t r q hr hq e (no b) (no d) = omega arith

-- ---- no nulls

-- Where every cell of the tables has a value, no table holds a null.
pub values-no-nulls : (cat : Catalogue) (cells : List ℕ) (lent : ℕ) → Lawful cat lent → ((k : ℕ) → k < first_cell cat cat.n → 0 < get_or cells k 0)
    → NoNulls (cells_in cat cells)
values-no-nulls cat cells lent L h t r a k l b =
    let inside = row_inside cat lent L t r k.table k.low k.high in
    h (row_start cat t r + ones (scheme_of cat t % 2 ^ a)) (code_inside (scheme_of cat t) (row_start cat t r) (first_cell cat cat.n) a inside b)
