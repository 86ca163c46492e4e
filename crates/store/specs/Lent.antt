-- The code's types, in the words of specs/Store: what a search and an offer give, and the store in four lent slices.
-- Assumes nothing.
use Rattle.std.specs.Prelude.{ℕ, ◌≡◌, Result, Ok, Err, length}
use Rattle.refusals.specs.declared.Refusal.{Refusal}
use Rattle.refusals.specs.declared.Refusal.TheVariants.{FullStore, DamagedStore}
use Rattle.store.specs.declared.Search.{Search}
use Rattle.store.specs.declared.Search.TheVariants as search
use Rattle.store.specs.declared.Damaged.{Damaged}
use Rattle.store.specs.declared.Offered.{Offered}
use Rattle.store.specs.declared.Offered.TheVariants as offer
use Rattle.store.specs.declared.Store as lent
use Rattle.store.specs.Looks as looks
use Rattle.store.specs.Looks.{Looked, Placed}
use Rattle.store.specs.Store.{Store, store_in, room_of, Holds}

-- What a search says, by what the code gives, ..
abbrev pub looked_of : Result Search Damaged → Looked
looked_of (Ok (search.Found p n)) = looks.Found p n
looked_of (Ok (search.Absent l n)) = looks.Absent l.place l.right n
looked_of (Err e) = looks.Damaged e.looks

-- .. and what the code gives for what an offer says: its two refusals are errors.
abbrev pub offer_of : Placed → Result Offered Refusal
offer_of (looks.Known n) = Ok (offer.Known n)
offer_of (looks.Added n) = Ok (offer.Added n)
offer_of looks.Full = Err FullStore
offer_of looks.Broken = Err DamagedStore

-- ---- the four slices of a store

-- The store in them, of which so many records are used.
abbrev pub kept : lent.Store → ℕ → Store
kept s found = store_in s.low.now s.high.now s.left.now s.right.now found

-- How many records they have room for.
abbrev pub room_for : lent.Store → ℕ
room_for s = room_of (length s.low.now) (length s.high.now) (length s.left.now) (length s.right.now)

-- They hold what a store says.
abbrev pub Leaves : lent.Store → Store → Type 0
Leaves s q = Holds s.low.now s.high.now s.left.now s.right.now q

-- They are the same slices of the caller, whatever they hold.
abbrev pub SameSlices : lent.Store → lent.Store → Type 0
SameSlices s t =
    (t.low.ghost_name ≡ s.low.ghost_name) × (t.high.ghost_name ≡ s.high.ghost_name) × (t.left.ghost_name ≡ s.left.ghost_name)
    × (t.right.ghost_name ≡ s.right.ghost_name)
