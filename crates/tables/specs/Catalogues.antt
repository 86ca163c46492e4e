-- "The catalogue is one record with m, n, and eight schemes and eight row counts." What it says of each table, where a row's cells lie, which tables
-- touch, what is stored of both (#106), and the order of the rows. What follows from these stands in proofs/CatalogueLaws and proofs/StoredLaws.
-- Assumes nothing.
use Rattle.std.specs.Prelude.{ℕ, zero, suc, ◌+◌, ◌-◌, ◌*◌, ◌%◌, ◌^◌, Bool, not, cond, ◌&&◌, List, get_or, replicate, ltb, eqb}
use Rattle.std.specs.Int.Count.{ones}
use Rattle.std.specs.Int.Bits.{bit_and}
use Rattle.laws.specs.Lists.{tab}
use Rattle.tables.specs.declared.Catalogue.{Catalogue}
use Rattle.tables.specs.declared.Row.{Row}
use Rattle.tables.specs.Sizes.{most_tables}

-- The scheme of table t.
abbrev pub scheme_of : Catalogue → ℕ → ℕ
scheme_of cat t = get_or cat.schemes t 0

-- How many rows table t has.
abbrev pub count_of : Catalogue → ℕ → ℕ
count_of cat t = get_or cat.rows t 0

-- "Rows lie one after the other, table by table": where the cells of table t begin, which is how many cells the tables before it have.
-- A row has a cell for each attribute of its scheme, and those are the ones of the mask.
unfoldable pub first_cell : Catalogue → ℕ → ℕ
first_cell cat zero = 0
first_cell cat (suc t) = first_cell cat t + count_of cat t * ones (scheme_of cat t)

-- Where the cells of row r of table t begin; rows are numbered from 1.
unfoldable pub row_start : Catalogue → ℕ → ℕ → ℕ
row_start cat t r = first_cell cat t + (r - 1) * ones (scheme_of cat t)

-- "each with its scheme's cells by rising attribute": the code of attribute a in a row of this scheme whose cells begin at `start`.
abbrev pub code_at : List ℕ → ℕ → ℕ → ℕ → ℕ
code_at cells scheme start a = get_or cells (start + ones (scheme % 2 ^ a)) 0

-- The code of attribute a in row r of table t.
abbrev pub code_of : Catalogue → List ℕ → ℕ → ℕ → ℕ → ℕ
code_of cat cells t r a = code_at cells (scheme_of cat t) (row_start cat t r) a

-- ---- what is stored of a table (#106)

-- "Which tables touch it": they share an attribute; "a table never touching itself".
unfoldable pub touch : Catalogue → ℕ → ℕ → Bool
touch cat t u = not (eqb u t) && not (eqb (bit_and (scheme_of cat t) (scheme_of cat u)) 0)

-- The mask of the tables below k that touch table t: bit u stands for table u.
unfoldable pub touching_below : Catalogue → ℕ → ℕ → ℕ
touching_below cat t zero = 0
touching_below cat t (suc k) = touching_below cat t k + cond (touch cat t k) (2 ^ k) 0

-- The mask of the tables that touch table t.
abbrev pub touching_of : Catalogue → ℕ → ℕ
touching_of cat t = touching_below cat t cat.n

-- A list with a place for each table there can be, and "zeros from n on".
unfoldable pub for_tables : ℕ → (ℕ → ℕ) → List ℕ
for_tables n f = tab most_tables (λ t. cond (ltb t n) (f t) 0)

-- "Eight first-cell places and eight masks of touching tables": the catalogue with both worked out.
abbrev pub filled : Catalogue → Catalogue
filled cat =
    record {
      m = cat.m;
      n = cat.n;
      schemes = cat.schemes;
      rows = cat.rows;
      places = for_tables cat.n (first_cell cat);
      touching = for_tables cat.n (touching_of cat);
    }

-- What is said of the tables before their places and masks are worked out.
abbrev pub given : ℕ → ℕ → List ℕ → List ℕ → Catalogue
given m n schemes rows =
    record { m = m; n = n; schemes = schemes; rows = rows; places = replicate most_tables 0; touching = replicate most_tables 0 }

-- A catalogue of zeros.
abbrev pub no_tables : Catalogue
no_tables = given 0 0 (replicate most_tables 0) (replicate most_tables 0)

-- The place and the mask that are stored of table t.
abbrev pub place_in : Catalogue → ℕ → ℕ
place_in cat t = get_or cat.places t 0

abbrev pub mask_in : Catalogue → ℕ → ℕ
mask_in cat t = get_or cat.touching t 0

-- ---- the rows

-- How many rows the tables before table t have.
unfoldable pub rows_before : Catalogue → ℕ → ℕ
rows_before cat zero = 0
rows_before cat (suc t) = rows_before cat t + count_of cat t

-- "N is the total"
abbrev pub total : Catalogue → ℕ
total cat = rows_before cat cat.n

-- The row at place p, when the count starts at table t and k tables are left.
unfoldable pub row_from : ℕ → Catalogue → ℕ → ℕ → Row
row_from zero cat t p = record { table = t; row = p + 1 }
row_from (suc k) cat t p = cond (ltb p (count_of cat t)) (record { table = t; row = p + 1 }) (row_from k cat (t + 1) (p - count_of cat t))

-- "Row order is table by table, then by row number": the row at a place, places from 0.
abbrev pub row_at : Catalogue → ℕ → Row
row_at cat p = row_from cat.n cat 0 p
