-- Request #114, read out: three facts of drained streams, over lists of answers of public calls that meet their promises. Stores and calls are named in this
-- file and proofs/FrontPaged alone. That a drain comes to its end is demand 3's (`drains`, `full-exactly`). Assumes nothing.
use Rattle.std.specs.Prelude.{ℕ, ◌≤◌, ◌<◌, ◌≡◌, ◌≢◌, false, length, take}
use mathlib.Core.List.{List, [], ◌∷◌, Memᴰ}
use Rattle.tables.specs.declared.Catalogue.{Catalogue}
use Rattle.tables.specs.Catalogues.{first_cell}
use Rattle.tables.specs.Checks.{Lawful}
use Rattle.disjunction.specs.Sets.{at, Maximal}
use Rattle.disjunction.specs.Cells.{padded}
use Rattle.rows.specs.World.{cells_in, world_of, set_of}
use Rattle.rows.specs.Named.{There}
use Rattle.padding.specs.Covering.{covering}
use Rattle.loader.specs.Faults.{Good, Loaded}
use Rattle.loader.specs.Load.{Loads}
use Rattle.writer.specs.Write.{image_of}
use Rattle.image.specs.RoundTrip.{found}
use Rattle.store.specs.Store.{store_in, room_in}
use Rattle.machine.specs.Machine.{State, a_set, finished, Called}
use Rattle.machine.specs.Runs.{Given, handed}
use Rattle.stream.specs.Answers.{OpenAnswer}
use Rattle.stream.specs.Promises.{state_of, Opens}
use Rattle.claims.specs.Demands.{Answered}
use Rattle.claims.specs.CallsInRow.{InRow}
use Rattle.claims.specs.Images.{Bytes}
use Rattle.facts.specs.Filing.{Renumbering, renumbered, reordered, reordered_cells, reordered_in}
use Rattle.facts.specs.Front.{NoNulls}
use Rattle.facts.specs.Worked.{pair, pair_cells, twice, twice_cells, NullCovered, TwiceCovered}

-- ---- a drained stream

-- A call that opened a stream of every set on these tables: the store that was lent, what the call answered, and what the store's lists then hold.
pub record Beginning (cat : Catalogue) (cells : List ℕ) : Type 0 where
  pub low : List ℕ
  pub high : List ℕ
  pub left : List ℕ
  pub right : List ℕ
  pub answer : OpenAnswer
  pub low' : List ℕ
  pub high' : List ℕ
  pub left' : List ℕ
  pub right' : List ℕ
  pub opens : Opens cat cells low high left right answer low' high' left' right'

module _ (cat : Catalogue) (cells : List ℕ) where
  -- How many records the store has room for.
  abbrev pub records_of : Beginning cat cells → ℕ
  records_of o = room_in (store_in o.low o.high o.left o.right 0)

  -- The stream that it left.
  abbrev pub stream_of : Beginning cat cells → State
  stream_of o = state_of o.answer.stream o.low' o.high' o.left' o.right'

  -- A stream was opened without refusal and called, by public calls in a row, until one told the end; l are all their answers.
  pub record Drained (l : List Called) : Type 0 where
    pub opened : Beginning cat cells
    pub free : opened.answer.refusal ≡ 0
    pub gave : List Given
    pub last : State
    pub calls : InRow cat cells (stream_of opened) gave l last
    pub told : Answered finished l

-- Some call of l handed out the set T, with this padded row.
pub record Out (cat : Catalogue) (l : List Called) (T row : List ℕ) : Type 0 where
  pub by : Called
  pub among : Memᴰ by l
  pub says : by.says ≡ a_set
  pub names : set_of cat by.key ≡ T
  pub pads : take cat.m by.row ≡ row

-- What comes out of a drained stream: exactly the maximal sets, each with its padded row.
pub record Shown (cat : Catalogue) (cells : List ℕ) (l : List Called) : Type 0 where
  pub only : (T row : List ℕ) → Out cat l T row → Maximal (world_of cat cells) T × (row ≡ padded (cells_in cat cells) T)
  pub every : (T : List ℕ) → Maximal (world_of cat cells) T → Out cat l T (padded (cells_in cat cells) T)

-- ---- the facts

-- "Filing the tables in another order gives the same maximal sets under the new table numbers": l are the answers over the tables, l' those over the
-- tables in the new order.
pub record SameSets (cat : Catalogue) (to from : ℕ → ℕ) (l l' : List Called) : Type 0 where
  -- Every set that came out of the one comes out of the other under the new numbers, with the same padded row, and back.
  pub there : (T row : List ℕ) → Out cat l T row → Out (reordered from cat) l' (renumbered cat.n from T) row
  pub back : (U row : List ℕ) → Out (reordered from cat) l' U row → Out cat l (renumbered cat.n to U) row
  -- The old numbers of the new numbers are the set itself, and the new ones of the old ones.
  pub again : (T row : List ℕ) → Out cat l T row → renumbered cat.n to (renumbered cat.n from T) ≡ T
  pub again' : (U row : List ℕ) → Out (reordered from cat) l' U row → renumbered cat.n from (renumbered cat.n to U) ≡ U
  -- As many sets were handed out.
  pub many : length (handed l') ≡ length (handed l)

-- The image s was loaded, into lent cells that then hold `cells`, and found good.
pub record GoodLoad (s lent cells : List ℕ) (r : Loaded) : Type 0 where
  pub bytes : Bytes s
  pub loads : Loads s lent r cells
  pub good : r.verdict ≡ Good

pub record FrontPage : Type 0 where
  -- First, of all tables that open takes, in any order and whatever is lent behind their cells.
  pub order : (cat : Catalogue) (cells lent : List ℕ) (to from : ℕ → ℕ) → Renumbering cat.n to from → (l l' : List Called)
      → Drained cat cells l → Drained (reordered from cat) (reordered_in from cat cells lent) l' → SameSets cat to from l l'
  -- What open takes it takes in the new order, too, if there is a record for the first set: a lawful catalogue stays lawful.
  pub order-lawful : (cat : Catalogue) (cells lent : List ℕ) (to from : ℕ → ℕ) → Renumbering cat.n to from → Lawful cat (length cells)
      → Lawful (reordered from cat) (length (reordered_in from cat cells lent))
  -- The image of a loaded image's tables in the new order loads to just these, in any cells that they fit in.
  pub order-loads : (s lent cells : List ℕ) (r : Loaded) → GoodLoad s lent cells r → (to from : ℕ → ℕ) → Renumbering r.catalogue.n to from
      → (lent' cells' : List ℕ) (r' : Loaded) → first_cell r.catalogue r.catalogue.n ≤ length lent'
      → Loads (image_of (reordered from r.catalogue) (reordered_cells from r.catalogue cells)) lent' r' cells'
      → (r' ≡ found (reordered from r.catalogue)) × (cells' ≡ reordered_in from r.catalogue cells lent')
  -- So it is of two images, the second of which has the first's tables in the new order.
  pub order-images : (s lent cells : List ℕ) (r : Loaded) → GoodLoad s lent cells r → (to from : ℕ → ℕ) → Renumbering r.catalogue.n to from
      → (lent' cells' : List ℕ) (r' : Loaded) → first_cell r.catalogue r.catalogue.n ≤ length lent'
      → Loads (image_of (reordered from r.catalogue) (reordered_cells from r.catalogue cells)) lent' r' cells'
      → (l l' : List Called) → Drained r.catalogue cells l → Drained r'.catalogue cells' l' → SameSets r.catalogue to from l l'
  -- "Every row of every table stands in some set", of all tables that open takes.
  pub stands : (cat : Catalogue) (cells : List ℕ) (l : List Called) → Drained cat cells l → (t r : ℕ) → There cat t r
      → (T : List ℕ) × (row : List ℕ) × Out cat l T row × (at T t ≡ r)
  -- "If no table holds a null, no handed-out padded row covers another set's, under #104's rule", of tables that the loader accepts.
  pub uncovered : (s lent cells : List ℕ) (r : Loaded) → GoodLoad s lent cells r → NoNulls (cells_in r.catalogue cells)
      → (l : List Called) → Drained r.catalogue cells l → (T U row row' : List ℕ) → Out r.catalogue l T row → Out r.catalogue l U row'
      → T ≢ U → covering row row' ≡ false
  -- "The last fails with nulls; a worked pair of one-row tables stands beside it."
  pub null-covers : NullCovered
  pub null-out : (l : List Called) → Drained pair pair_cells l → Out pair l (1 ∷ 0 ∷ []) (2 ∷ 3 ∷ []) × Out pair l (0 ∷ 1 ∷ []) (2 ∷ 0 ∷ [])
  -- It fails, too, of a table that holds one row twice, which the loader refuses by 7 and open takes.
  pub twice-covers : TwiceCovered
  pub twice-opens : (o : Beginning twice twice_cells) → 0 < records_of twice twice_cells o → o.answer.refusal ≡ 0
  pub twice-out : (l : List Called) → Drained twice twice_cells l → Out twice l (1 ∷ []) (2 ∷ []) × Out twice l (2 ∷ []) (2 ∷ [])
