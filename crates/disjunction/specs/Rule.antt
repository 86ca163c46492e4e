-- "The stream's own rule" (document 01) on row sets, as functions that count: row order, row test, extension, trial. A search for the set and the
-- stream's record are not here. Next to a test stands what its yes says; proofs/RowTests ties the two. Assumes nothing.
use Rattle.std.specs.Prelude.{ℕ, zero, suc, ◌+◌, ◌≡◌, Bool, true, cond, ◌&&◌, ◌||◌, List, [], ◌∷◌, ◌++◌, length, get_or, set, replicate, ltb, eqb}
use Rattle.laws.specs.Tests.{any, all}
use Rattle.laws.specs.Lists.{tab}
use Rattle.disjunction.specs.Sets.{Tables, at, Member, Within, Way, Connected}

-- A row, by its table and its number in it.
pub record Place : Type 0 where
  pub table : ℕ
  pub row : ℕ

-- T's row in table u.
abbrev pub row_in : List ℕ → ℕ → Place
row_in T u = record { table = u; row = at T u }

-- T with the row p added.
abbrev pub add_row : List ℕ → Place → List ℕ
add_row T p = set T p.table p.row

-- ---- "Row order is table by table, then by row number."

-- The rows of table t with numbers up to c.
unfoldable pub rows_to : ℕ → ℕ → List Place
rows_to t zero = []
rows_to t (suc c) = rows_to t c ++ (record { table = t; row = suc c } ∷ [])

module _ (W : Tables) where
  -- The rows of the tables below k.
  unfoldable pub rows_below : ℕ → List Place
  rows_below zero = []
  rows_below (suc t) = rows_below t ++ rows_to t (W.count t)

  -- All rows; N is their number.
  abbrev pub rows : List Place
  rows = rows_below W.n

  -- "The row at place next row (row order, from 0)."
  abbrev pub row_at : ℕ → Place
  row_at j = get_or rows j (record { table = 0; row = 0 })

-- ---- "Row test: may this row be added?"

-- Table t has a row in T.
unfoldable pub member : List ℕ → ℕ → Bool
member T t = ltb 0 (at T t)

-- "Its table is absent": table t has no row in T.
unfoldable pub absent : List ℕ → ℕ → Bool
absent T t = eqb (at T t) 0

module _ (W : Tables) where
  -- "Its scheme shares an attribute with a member's."
  unfoldable pub near : List ℕ → Place → Bool
  near T p = any W.n (λ u. member T u && W.touches u p.table)

  -- What its yes says: some member touches it.
  abbrev pub Near : List ℕ → Place → Type 0
  Near T p = (u : ℕ) × Member T u × (W.touches u p.table ≡ true)

  -- "It is consistent with every member."
  unfoldable pub agrees : List ℕ → Place → Bool
  agrees T p = all W.n (λ u. absent T u || W.fits u (at T u) p.table p.row)

  -- What its yes says, member by member.
  abbrev pub Agrees : List ℕ → Place → Type 0
  Agrees T p = (u : ℕ) → Member T u → W.fits u (at T u) p.table p.row ≡ true

  -- "Yes if its table is absent, its scheme shares an attribute with a member's, and it is consistent with every member."
  unfoldable pub row_test : List ℕ → Place → Bool
  row_test T p = absent T p.table && near T p && agrees T p

  -- What the yes of a row test says.
  pub record Addable (T : List ℕ) (p : Place) : Type 0 where
    pub absent : at T p.table ≡ 0
    pub near : Near T p
    pub agrees : Agrees T p

-- ---- "Extension: a round tests rows in row order from the first."

-- A round's end, with the number of its tests: the row that got the first yes, or no yes.
pub data Round : Type 0 where
  hit : ℕ → Place → Round
  miss : ℕ → Round

-- One test more, before the others.
abbrev pub more : Round → Round
more (hit c p) = hit (suc c) p
more (miss c) = miss (suc c)

-- The row walk of a round over a list of rows.
unfoldable pub walk : (Place → Bool) → List Place → Round
walk ok [] = miss 0
walk ok (p ∷ l) = let rest = more (walk ok l) in cond (ok p) (hit 1 p) rest

-- A set, and the number of tests made on the way to it.
pub record Grown : Type 0 where
  pub rows : List ℕ
  pub tests : ℕ

-- "The first yes is added and a new round begins; a round without yes ends it."
abbrev pub after : Round → List ℕ → (List ℕ → Grown) → Grown
after (miss c) T go = record { rows = T; tests = c }
after (hit c p) T go = let g = go (add_row T p) in record { rows = g.rows; tests = c + g.tests }

-- Rounds from T on, at most k.
unfoldable pub grow : (List ℕ → Place → Bool) → List Place → ℕ → List ℕ → Grown
grow ok l zero T = record { rows = T; tests = 0 }
grow ok l (suc k) T = after (walk (ok T) l) T (λ U. grow ok l k U)

module _ (W : Tables) where
  -- "A set starts with one member or more": n rounds are enough, since each but the last adds a table (`extension-step` names no number of rounds).
  unfoldable pub extension : List ℕ → Grown
  extension T = grow (row_test W) (rows W) W.n T

  -- ---- "Trial of row s on set T"

  -- Table u's row is kept. Dropped is "every row of s's table other than s and every row of another table not consistent with s".
  unfoldable pub stays : List ℕ → Place → ℕ → Bool
  stays T s u = cond (eqb u s.table) (eqb (at T u) s.row) (W.fits u (at T u) s.table s.row)

  -- "Drop from T ..; add s."
  unfoldable pub dropped : List ℕ → Place → List ℕ
  dropped T s = add_row (tab W.n (λ u. cond (stays T s u) (at T u) 0)) s

  -- The set of s alone.
  unfoldable pub alone : Place → List ℕ
  alone s = add_row (replicate W.n 0) s

  -- p's table is absent from E and touches a member of it. Touching alone decides: the rows of D need not be consistent.
  unfoldable pub joins : List ℕ → Place → Bool
  joins E p = absent E p.table && near W E p

  -- What its yes says.
  pub record Joinable (E : List ℕ) (p : Place) : Type 0 where
    pub absent : at E p.table ≡ 0
    pub near : Near W E p

  -- The rows of D in tables below k.
  unfoldable pub members_below : List ℕ → ℕ → List Place
  members_below D zero = []
  members_below D (suc t) = members_below D t ++ cond (member D t) (row_in D t ∷ []) []

  -- "The piece that holds s": from s alone, rows of D that touch what is there are added until there is none.
  unfoldable pub piece : List ℕ → Place → List ℕ
  piece D s = (grow joins (members_below D W.n) W.n (alone s)).rows

  -- What it is: a connected part of D that holds s and every table to which D has a way from there.
  pub record Piece (D : List ℕ) (s : Place) (E : List ℕ) : Type 0 where
    pub long : length E ≡ W.n
    pub within : Within E D
    pub has : Member E s.table
    pub connected : Connected W E
    pub whole : (u : ℕ) → Way W D s.table u → Member E u

  -- "Keep the piece that holds s."
  unfoldable pub start : List ℕ → Place → List ℕ
  start T s = piece (dropped T s) s

  -- "Extend."
  unfoldable pub trial : List ℕ → Place → Grown
  trial T s = extension (start T s)
