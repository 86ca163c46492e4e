-- What a stream is asked for: every maximal set, or those that hold one row (request #109). The rest of the stream is said once, over this.
-- `sought` and its two ways back, in proofs/AskedLaws, tie the test to its meaning. Assumes nothing.
use Rattle.std.specs.Prelude.{ℕ, ◌≡◌, Bool, true, List, eqb}
use Rattle.disjunction.specs.Sets.{Tables, at, Row, Maximal}
use Rattle.disjunction.specs.Rule.{Place, row_at}

-- "Every set that holds one row": all sets are asked for, or those with row s.
pub data Asked : Type 0 where
  every_set : Asked
  every_with : Place → Asked

-- Whether a set is wanted, as a test.
abbrev pub wanted : Asked → List ℕ → Bool
wanted every_set T = true
wanted (every_with s) T = eqb (at T s.table) s.row

module _ (W : Tables) where
  -- The sets asked for: the maximal ones, or "exactly the maximal sets holding it".
  abbrev pub Sought : Asked → List ℕ → Type 0
  Sought every_set T = Maximal W T
  Sought (every_with s) T = Maximal W T × (at T s.table ≡ s.row)

  -- The row that open extends alone: the first one, or the one asked for.
  abbrev pub first_for : Asked → Place
  first_for every_set = row_at W 0
  first_for (every_with s) = s

  -- The row asked for is there.
  abbrev pub Present : Asked → Type 0
  Present every_set = Unit
  Present (every_with s) = Row W s.table s.row
