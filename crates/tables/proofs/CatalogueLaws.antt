-- Laws of a catalogue's sums: one table more, later tables lie behind earlier ones, and every row's cells lie inside. Assumes nothing.
use Prim.Native.Nat.{ℕ, zero, suc, ◌+◌, ◌-◌, ◌*◌, ◌/◌, ◌%◌, ◌^◌, ◌≤◌, ◌<◌}
use native.Mathlib.Nat.{mod-lt, mul-le-mul, mul-le-mul_left, mul-le-mul_right, suc-mul, add-zero}
use native.Mathlib.Omega.{arith}
use native.Mathlib.Numerals.{add-one, sub-one}
use native.Mathlib.Decide.{ℕ_discrete}
use mathlib.Core.Path.{◌≡◌, refl, sym, subst, ◌∙◌}
use lib.ListN.{length, take}
use Rattle.std.specs.List.{sum_by}
use Rattle.std.proofs.lemmas.List.Sums.{sum_by_more}
use lib.Count.{ones, ones-le, ones_cat, ones_step}
use lib.Pow.{pow_pos, shr_lt, shl_exact, split}
use borrow.Author.Tests.{lt-ltb, le-ltb}
use Rattle.tables.specs.declared.Catalogue.{Catalogue}
use Rattle.tables.specs.Sizes.{most_rows, most_cells, most_total}
use Rattle.tables.specs.Catalogues.{scheme_of, count_of, first_cell, place_in, row_start, rows_before, row_from}
use Rattle.tables.specs.Checks.{Lawful}

-- ---- one number

-- a one at bit a
pub one_shl : (a : ℕ) → a < 64 → 1 * 2 ^ a % 2 ^ 64 ≡ 2 ^ a
one_shl a h = shl_exact 1 a 64 (omega arith) (omega arith) ∙ omega arith

-- a scheme is a word, so a row has at most 64 cells
pub cells-few : (rows scheme : ℕ) → rows ≤ most_rows → scheme < 2 ^ 64 → rows * ones scheme ≤ most_rows * 64
cells-few rows scheme h l = mul-le-mul h (ones-le 64 scheme l)

-- where the scheme has no attribute below a, none is counted
pub rank-none : (scheme a : ℕ) → scheme % 2 ^ a ≡ 0 → 0 ≡ ones (scheme % 2 ^ a)
unfolding ones
rank-none scheme a z = rw z

-- the cell of an attribute that the scheme has lies inside its row
pub rank_lt : (scheme a : ℕ) → scheme / 2 ^ a % 2 ≡ 1 → ones (scheme % 2 ^ a) < ones scheme
rank_lt s a h =
    let e : ones (s / 2 ^ a * 2 ^ a + s % 2 ^ a) ≡ ones (s / 2 ^ a) + ones (s % 2 ^ a) = ones_cat a (s / 2 ^ a) (s % 2 ^ a) (mod-lt s (pow_pos a)) in
    omega (arith, rw (split s a) at e, ones_step (s / 2 ^ a))

-- a scheme of k attributes that is not 0 has one, so that its rows have a cell
pub some-cell : (k scheme : ℕ) → scheme < 2 ^ k → 0 < scheme → 0 < ones scheme
some-cell zero s h p = absurd (omega arith)
some-cell (suc k) s h p = go (ℕ_discrete (s % 2) 0) (some-cell k (s / 2) (shr_lt k 1 (subst (λ (x : ℕ). s < 2 ^ x) (sym (add-one k)) h)))
  where
    go : Dec (s % 2 ≡ 0) → (0 < s / 2 → 0 < ones (s / 2)) → 0 < ones s
    go (yes e) ih = omega (arith, ones_step s, ih (omega arith))
    go (no f) ih = omega (arith, ones_step s)

-- ---- sums over the tables

module _ (cat : Catalogue) where
  pub cells-next : (t : ℕ) → first_cell cat (t + 1) ≡ first_cell cat t + count_of cat t * ones (scheme_of cat t)
  unfolding first_cell
  cells-next t = rw add-one

  pub rows_next : (t : ℕ) → rows_before cat (t + 1) ≡ rows_before cat t + count_of cat t
  unfolding rows_before
  rows_next t = rw add-one

  -- the rows of the first tables, as a sum of the counts
  pub rows-taken : (t : ℕ) → t ≤ length cat.rows → sum_by (λ x. x) (take t cat.rows) ≡ rows_before cat t
  unfolding rows_before
  rows-taken zero h = refl
  rows-taken (suc t) h = rw (← add-one t, sum_by_more (λ x. x) cat.rows t 0 (omega arith), rows-taken t (omega arith))

  cells-later : (t d : ℕ) → first_cell cat t ≤ first_cell cat (t + d)
  cells-later t zero = rw add-zero (omega arith)
  cells-later t (suc d) =
      let e : t + suc d ≡ (t + d) + 1 = omega arith in
      rw e (omega (arith, cells-later t d, cells-next (t + d)))

  pub cells-mono : (t u : ℕ) → t ≤ u → first_cell cat t ≤ first_cell cat u
  cells-mono t u h =
      let e : t + (u - t) ≡ u = omega arith in
      rw e at (cells-later t (u - t))

  pub table-ends : (t : ℕ) → t < cat.n → first_cell cat t + count_of cat t * ones (scheme_of cat t) ≤ first_cell cat cat.n
  table-ends t h = omega (arith, cells-next t, cells-mono (t + 1) cat.n (omega arith))

  -- row r of a table of w cells a row ends within the table
  pub row_ends : (w r k : ℕ) → 1 ≤ r → r ≤ k → (r - 1) * w + w ≤ k * w
  row_ends w zero k l h = absurd (omega arith)
  row_ends w (suc r) k l h = rw (sub-one (suc r), ← suc-mul r w) (mul-le-mul_right w h)

-- ---- a lawful catalogue

module _ (cat : Catalogue) (lent : ℕ) (L : Lawful cat lent) where
  -- what is known with fewer cells than are lent is known with 8,192
  pub lawful-all : Lawful cat most_cells
  lawful-all =
      record {
        some-attribute = L.some-attribute;
        attributes = L.attributes;
        some-table = L.some-table;
        tables = L.tables;
        some-scheme = L.some-scheme;
        scheme = L.scheme;
        rows = L.rows;
        cells = L.cells;
        room = L.cells;
        places = L.places;
        touching = L.touching;
      }

  pub row_inside : (t r : ℕ) → t < cat.n → 1 ≤ r → r ≤ count_of cat t → row_start cat t r + ones (scheme_of cat t) ≤ first_cell cat cat.n
  unfolding row_start
  row_inside t r h l k = omega (arith, table-ends cat t h, row_ends cat (ones (scheme_of cat t)) r (count_of cat t) l k)

  -- the place stored of a table lies among the cells
  pub place-inside : (t : ℕ) → t < cat.n → place_in cat t ≤ lent
  place-inside t h = omega (arith, L.places t h, table-ends cat t h, L.room)

  -- every row has a cell, so there are no more rows than cells
  rows-cells : (t : ℕ) → t ≤ cat.n → rows_before cat t ≤ first_cell cat t
  unfolding rows_before first_cell
  rows-cells zero h = omega arith
  rows-cells (suc t) h =
      let one : 1 ≤ ones (scheme_of cat t) = some-cell cat.m (scheme_of cat t) (L.scheme t (omega arith)) (L.some-scheme t (omega arith)) in
      omega (arith, rows-cells t (omega arith), mul-le-mul_left (count_of cat t) one)

  pub rows_few : (t : ℕ) → t ≤ cat.n → rows_before cat t ≤ most_total
  rows_few t h = omega (arith, rows-cells t h, cells-mono cat t cat.n h, L.cells)

-- ---- row order

module _ (cat : Catalogue) where
  pub row_here : (k t p : ℕ) → 0 < k → p < count_of cat t → row_from k cat t p ≡ record { table = t; row = p + 1 }
  unfolding row_from
  row_here zero t p z h = absurd (omega arith)
  row_here (suc k) t p z h = rw (lt-ltb p (count_of cat t) h)

  pub row-later : (k t p : ℕ) → 0 < k → count_of cat t ≤ p → row_from k cat t p ≡ row_from (k - 1) cat (t + 1) (p - count_of cat t)
  unfolding row_from
  row-later zero t p z h = absurd (omega arith)
  row-later (suc k) t p z h = rw (sub-one (suc k), le-ltb p (count_of cat t) h)

  pub row-past : (t p : ℕ) → row_from 0 cat t p ≡ record { table = t; row = p + 1 }
  unfolding row_from
  row-past t p = refl
