-- Tables filed in another order (request #114): over the rule's tables, over cells, and as a catalogue with its cells that can be lent. What follows
-- stands in proofs/FilingLaws and proofs/OrderLaws. Assumes nothing.
use Rattle.std.specs.Prelude.{ℕ, zero, suc, ◌<◌, ◌≡◌, true, List, [], ◌++◌}
use Rattle.laws.specs.Lists.{tab, put}
use Rattle.tables.specs.declared.Catalogue.{Catalogue}
use Rattle.tables.specs.Catalogues.{scheme_of, count_of, for_tables, filled, given}
use Rattle.disjunction.specs.Sets.{Tables, at, Row}
use Rattle.disjunction.specs.Cells.{Cells, tables}
use Rattle.writer.specs.Write.{cells_of}

-- "The new table numbers": table t of the old ones is table `to t` of the new ones, table u of the new ones is table `from u` of the old ones.
pub record Renumbering (n : ℕ) (to from : ℕ → ℕ) : Type 0 where
  pub to-lt : (t : ℕ) → t < n → to t < n
  pub from-lt : (u : ℕ) → u < n → from u < n
  pub from-to : (t : ℕ) → t < n → from (to t) ≡ t
  pub to-from : (u : ℕ) → u < n → to (from u) ≡ u

-- A set of n tables under the new table numbers.
unfoldable pub renumbered : ℕ → (ℕ → ℕ) → List ℕ → List ℕ
renumbered n from T = tab n (λ u. at T (from u))

-- ---- what it is for tables to be others under new numbers

-- X has W's tables under their new numbers.
pub record Refiled (W X : Tables) (to from : ℕ → ℕ) : Type 0 where
  pub many : X.n ≡ W.n
  pub numbers : Renumbering W.n to from
  pub count : (t : ℕ) → t < W.n → X.count (to t) ≡ W.count t
  pub touch : (t u : ℕ) → t < W.n → u < W.n → X.touches (to t) (to u) ≡ W.touches t u
  pub fit : (t r u q : ℕ) → Row W t r → Row W u q → X.fits (to t) r (to u) q ≡ W.fits t r u q

-- D has C's tables, with their schemes and the codes of their rows, under their new numbers.
pub record RefiledCells (C D : Cells) (to from : ℕ → ℕ) : Type 0 where
  pub wide : D.m ≡ C.m
  pub many : D.n ≡ C.n
  pub numbers : Renumbering C.n to from
  pub count : (t : ℕ) → t < C.n → D.count (to t) ≡ C.count t
  pub scheme : (t a : ℕ) → t < C.n → D.has (to t) a ≡ C.has t a
  pub codes : (t r a : ℕ) → Row (tables C) t r → C.has t a ≡ true → D.cell (to t) r a ≡ C.cell t r a

-- ---- the tables, filed in the order in which table u comes from table `from u`

-- Their catalogue: schemes and row counts in the new order, and the places and masks that this order gives.
abbrev pub reordered : (ℕ → ℕ) → Catalogue → Catalogue
reordered from cat =
    filled (given cat.m cat.n (for_tables cat.n (λ u. scheme_of cat (from u))) (for_tables cat.n (λ u. count_of cat (from u))))

-- The cells of the first k tables in the new order, one table behind the other.
unfoldable pub reordered_to : ℕ → (ℕ → ℕ) → Catalogue → List ℕ → List ℕ
reordered_to zero from cat cells = []
reordered_to (suc u) from cat cells = reordered_to u from cat cells ++ cells_of cat cells (from u)

-- Those of all.
abbrev pub reordered_cells : (ℕ → ℕ) → Catalogue → List ℕ → List ℕ
reordered_cells from cat cells = reordered_to cat.n from cat cells

-- Lent cells with these in their front; what lies behind them has no say.
abbrev pub reordered_in : (ℕ → ℕ) → Catalogue → List ℕ → List ℕ → List ℕ
reordered_in from cat cells lent = put (reordered_cells from cat cells) lent
