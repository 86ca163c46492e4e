-- From an image on: demands 2 and 3 of tables that the loader accepts, from load's promise over open's to the last call's, and the two round trips, each
-- over what the public calls promise; and the version that an image carries. Proved in proofs/Imaged. Assumes nothing.
use Rattle.std.specs.Prelude.{ℕ, ◌+◌, ◌*◌, ◌≤◌, ◌<◌, ◌≡◌, ◌↔◌, length, get_or, take}
use mathlib.Core.List.{List, Memᴰ}
use Rattle.laws.specs.Lists.{put}
use Rattle.laws.specs.Distinct.{Distinct}
use Rattle.keys.specs.Keys.{bits_per_row, key_of}
use Rattle.tables.specs.declared.Catalogue.{Catalogue}
use Rattle.tables.specs.Sizes.{most_tables, most_rows_one, version_one, version_two}
use Rattle.tables.specs.Catalogues.{count_of, first_cell, total}
use Rattle.rows.specs.World.{world_of}
use Rattle.rows.specs.Named.{There}
use Rattle.disjunction.specs.Sets.{MoreOf}
use Rattle.disjunction.specs.Asked.{Asked, every_set, every_with, Sought}
use Rattle.writer.specs.Written.{Written, Length}
use Rattle.loader.specs.Faults.{Good, Loaded}
use Rattle.loader.specs.Load.{Loads}
use Rattle.writer.specs.Write.{Writes}
use Rattle.image.specs.RoundTrip.{found, trimmed}
use Rattle.store.specs.Store.{store_in, room_in}
use Rattle.machine.specs.Machine.{State, finished, refused, Called, call}
use Rattle.machine.specs.Runs.{Given, run_of, ended_of, handed}
use Rattle.stream.specs.Answers.{OpenAnswer, HoldingOpenAnswer}
use Rattle.stream.specs.Promises.{state_of, holding_state_of, Opens, OpensHolding}
use Rattle.claims.specs.Demands.{Answered, Able, Demand2, Demand3}
use Rattle.claims.specs.WriteRefusals.{NeedsTwo}
use Rattle.claims.specs.CallsInRow.{InRow}

-- What a slice of bytes holds.
abbrev pub Bytes : List ℕ → Type 0
Bytes s = (k : ℕ) → get_or s k 0 < 256

-- What holds of public calls in a row, given gs and answering l, from the state q that open left in a store of c records to the state p: they are the run
-- of the rule's calls, so that demands 2 and 3 speak of them.
pub record Streamed (cat : Catalogue) (cells : List ℕ) (asked : Asked) (c : ℕ) (q : State) (gs : List Given) (l : List Called) (p : State) : Type 0 where
  pub answers : l ≡ run_of (call cat cells) gs q
  pub state : p ≡ ended_of (call cat cells) gs q
  -- "Cut short, it has handed out only such sets, none twice"; drained, every one of them.
  pub only : (k : ℕ) → Memᴰ k (handed l) → (T : List ℕ) × Sought (world_of cat cells) asked T × (k ≡ key_of bits_per_row T)
  pub once : Distinct (handed l)
  pub every : Answered finished l → (T : List ℕ) → Sought (world_of cat cells) asked T → Memᴰ (key_of bits_per_row T) (handed l)
  -- "A drain meets 'full' exactly when there are more maximal sets than records."
  pub full : Able cat gs → c * (total cat + 1) < length gs → Answered (refused 12) l ↔ MoreOf (Sought (world_of cat cells) asked) c

-- From a state q that open left in a store of c records: demands 2 and 3, and all public calls in a row.
pub record FromOpen (cat : Catalogue) (cells : List ℕ) (asked : Asked) (c : ℕ) (q : State) : Type 0 where
  pub demand2 : Demand2 cat cells asked (call cat cells) q
  pub demand3 : Demand3 cat cells asked (call cat cells) c q
  pub calls : (gs : List Given) (l : List Called) (p : State) → InRow cat cells q gs l p → Streamed cat cells asked c q gs l p

-- The image s was loaded and found good, and a stream was opened on what the load gave.
pub record LoadedDemands : Type 0 where
  -- In a store that has a record if there is a row: then open has refused nothing, and all of it holds from the record and the slices that it left.
  pub all_sets : (s lent cells : List ℕ) (r : Loaded) → Bytes s → Loads s lent r cells → r.verdict ≡ Good
      → (low high left right : List ℕ) → (0 < total r.catalogue → 0 < room_in (store_in low high left right 0))
      → (o : OpenAnswer) (ks hs ls rs : List ℕ) → Opens r.catalogue cells low high left right o ks hs ls rs
      → (o.refusal ≡ 0) × FromOpen r.catalogue cells every_set (room_in (store_in low high left right 0)) (state_of o.stream ks hs ls rs)
  -- The same for one row that is there, of the stream of the sets that hold it (#109).
  pub holding : (s lent cells : List ℕ) (r : Loaded) → Bytes s → Loads s lent r cells → r.verdict ≡ Good
      → (low high left right : List ℕ) (table row : ℕ) → There r.catalogue table row → 0 < room_in (store_in low high left right 0)
      → (o : HoldingOpenAnswer) (ks hs ls rs : List ℕ) → OpensHolding r.catalogue cells low high left right table row o ks hs ls rs
      → (o.refusal ≡ 0)
      × FromOpen r.catalogue cells (every_with (record { table = table; row = row })) (room_in (store_in low high left right 0)) (holding_state_of o.stream ks hs ls rs)

-- Both ways between an image and its tables.
pub record RoundTrips : Type 0 where
  -- What a load found good, a write puts back byte for byte, if the output is long enough; bytes behind it stay.
  pub loaded : (s lent cells out wrote : List ℕ) (r : Loaded) (w : Written) → Bytes s → Loads s lent r cells → r.verdict ≡ Good
      → length s ≤ length out → Writes r.catalogue cells out w wrote → (w ≡ Length (length s)) × (wrote ≡ put s out)
  -- What a write put down, a load finds again, if the cells are enough: "entries from n on .. are 0 after a load", and cells behind the tables' stay.
  pub written : (cat : Catalogue) (cells out wrote lent after : List ℕ) (n : ℕ) (r : Loaded)
      → length cat.schemes ≡ most_tables → length cat.rows ≡ most_tables → first_cell cat cat.n ≤ length lent
      → Writes cat cells out (Length n) wrote → Loads (take n wrote) lent r after
      → (r ≡ found (trimmed cat)) × (after ≡ put (take (first_cell cat cat.n) cells) lent)

-- "Images with a table above 255 rows carry version 2, all others version 1" (#110): the first byte that a write puts down, exactly when.
pub record Carries : Type 0 where
  pub two : (cat : Catalogue) (cells out wrote : List ℕ) (n : ℕ) → Writes cat cells out (Length n) wrote
      → (get_or wrote 0 0 ≡ version_two) ↔ NeedsTwo cat
  pub one : (cat : Catalogue) (cells out wrote : List ℕ) (n : ℕ) → Writes cat cells out (Length n) wrote
      → (get_or wrote 0 0 ≡ version_one) ↔ ((t : ℕ) → t < cat.n → count_of cat t ≤ most_rows_one)
