-- What the rule's two tests say of the cells, that neither has a direction, and that the rule's row order is the catalogue's. Assumes nothing.
use Prim.Native.Nat.{ℕ, zero, suc, ◌+◌, ◌-◌, ◌/◌, ◌%◌, ◌^◌, ◌≤◌, ◌<◌}
use native.Mathlib.Omega.{arith}
use native.Mathlib.Decide.{dec_lt}
use native.Mathlib.Numerals.{add-one}
use mathlib.Core.Path.{◌≡◌, refl}
use mathlib.Core.Logic.{◌↔◌}
use mathlib.Core.Bool.{true}
use mathlib.Core.List.{List, []}
use lib.ListN.{length, get_or, length-append}
use lib.Count.{ones}
use borrow.Author.Tests.{eqb-true}
use Rattle.words.specs.Words.{bit_of}
use Rattle.tables.specs.declared.Catalogue.{Catalogue}
use Rattle.tables.specs.Catalogues as catalogues
use Rattle.tables.specs.Catalogues.{scheme_of, count_of, row_start, rows_before, total, row_from}
use Rattle.tables.specs.Checks.{Lawful}
use Rattle.tables.proofs.CatalogueLaws.{rank_lt, row_inside, rows_next, row_here, row-later}
use Rattle.disjunction.specs.Sets.{Symmetric}
use Rattle.disjunction.specs.Rule.{Place, rows_below, rows, row_at}
use Rattle.disjunction.specs.Cells.{sharing, Sharing, Matching, tables}
use Rattle.disjunction.proofs.CellLaws.{sharing-iff, matching-iff, tables-symmetric}
use Rattle.disjunction.proofs.RowOrder.{rows_to-length, rows_below-at}
use Rattle.rows.specs.Named.{There}
use Rattle.rows.specs.World.{cells_in, touches_in, fits_in, world_of, place_of}

module _ (cat : Catalogue) (cells : List ℕ) where
  -- ---- the two tests

  pub world-tables : world_of cat cells ≡ tables (cells_in cat cells)
  unfolding touches_in fits_in sharing
  world-tables = refl

  pub touch-iff : (t u : ℕ) → (touches_in cat t u ≡ true) ↔ Sharing (cells_in cat []) t u
  unfolding touches_in
  touch-iff t u = sharing-iff (cells_in cat []) t u

  pub fit-iff : (t r u q : ℕ) → (fits_in cat cells t r u q ≡ true) ↔ Matching (cells_in cat cells) t r u q
  unfolding fits_in
  fit-iff t r u q = matching-iff (cells_in cat cells) t r u q

  pub world-symmetric : Symmetric (world_of cat cells)
  world-symmetric = rw world-tables (tables-symmetric (cells_in cat cells))

  -- ---- the rows, in their order

  -- The rows of the tables below t are as many as the catalogue says.
  pub rows_before_lem : (t : ℕ) → length (rows_below (world_of cat cells) t) ≡ rows_before cat t
  unfolding rows_below rows_before
  rows_before_lem zero = refl
  rows_before_lem (suc t) = simp (length-append, rows_to-length, rows_before_lem t)

  pub rows-total : length (rows (world_of cat cells)) ≡ total cat
  rows-total = rows_before_lem cat.n

  -- From table t on, with k tables left.
  rows-from : (k t p : ℕ) (d : Place) → t + k ≡ cat.n → rows_before cat t + p < total cat
      → get_or (rows (world_of cat cells)) (rows_before cat t + p) d ≡ place_of (row_from k cat t p)
  rows-from zero t p d e h = absurd (let q : t ≡ cat.n = omega arith in omega (arith, rw q at h))
  rows-from (suc k) t p d e h = go (dec_lt p (count_of cat t)) (λ l. rows-from k (t + 1) (p - count_of cat t) d (omega arith) l)
    where
      go : Dec (p < count_of cat t)
          → (rows_before cat (t + 1) + (p - count_of cat t) < total cat
          → get_or (rows (world_of cat cells)) (rows_before cat (t + 1) + (p - count_of cat t)) d ≡ place_of (row_from k cat (t + 1) (p - count_of cat t)))
          → get_or (rows (world_of cat cells)) (rows_before cat t + p) d ≡ place_of (row_from (suc k) cat t p)
      go (yes l) ih = rw (row_here cat (suc k) t p (omega arith) l, ← rows_before_lem t, add-one p) (rows_below-at (world_of cat cells) cat.n t p d (omega arith) l)
      go (no g) ih =
          let s : rows_before cat (t + 1) + (p - count_of cat t) ≡ rows_before cat t + p = omega (arith, rows_next cat t) in
          let j : suc k - 1 ≡ k = omega arith in
          rw (row-later cat (suc k) t p (omega arith) (omega arith), j, ← s) (ih (rw s h))

  pub row-place : (p : ℕ) → p < total cat → row_at (world_of cat cells) p ≡ place_of (catalogues.row_at cat p)
  unfolding rows_before
  row-place p h =
      let z : rows_before cat 0 + p ≡ p = omega arith in
      rw z at (rows-from cat.n 0 p (record { table = 0; row = 0 }) (omega arith) (rw z h))

-- ---- the codes

-- The code of an attribute of a scheme is among the cells, where the whole row is,
pub code_inside : (scheme start lent a : ℕ) → start + ones scheme ≤ lent → bit_of scheme a ≡ true → start + ones (scheme % 2 ^ a) < lent
unfolding bit_of
code_inside scheme start lent a h b = omega (arith, h, rank_lt scheme a (eqb-true (scheme / 2 ^ a % 2) 1 b))

-- and each row that a lawful catalogue has is.
pub row_room : (cat : Catalogue) (lent : ℕ) → Lawful cat lent → (t r : ℕ) → There cat t r → row_start cat t r + ones (scheme_of cat t) ≤ lent
row_room cat lent L t r h = omega (arith, row_inside cat lent L t r h.table h.low h.high, L.room)
