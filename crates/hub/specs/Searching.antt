-- What the functions of this crate promise each other: searches of the listed words, the tree that answers them, the first pass over the entries, and
-- the set that is not listed. Assumes nothing.
use Rattle.std.specs.Prelude.{ℕ, ◌*◌, ◌≤◌, ◌<◌, min, ◌≡◌, Bool, false, List, length, get_or, eqb, Option, Some, None}
use Rattle.laws.specs.Tests.{any, Lowest, lowest, without}
use Rattle.keys.specs.Keys.{bits_per_row}
use Rattle.keys.specs.declared.Key.{Key}
use Rattle.disjunction.specs.Sets.{Tables}
use Rattle.rows.specs.World.{world_of}
use Rattle.store.specs.declared.Keys.{Keys}
use Rattle.store.specs.declared.Link.{Link}
use Rattle.store.specs.Looks.{Absent}
use Rattle.store.specs.Store.{store_in, most_records, link_of, search_of}
use Rattle.store.specs.Good as good
use Rattle.sets.specs.declared.Layout.{Layout}
use Rattle.hub.specs.Answers.{ListVerdict, Right, Missing}
use Rattle.hub.specs.Promises.{word_sets, listed_keys}

-- The tables that a layout is of.
abbrev pub world_in : Layout → Tables
world_in l = world_of l.tables.catalogue l.tables.cells.now

-- The listed keys, whose words lie in two slices, ..
abbrev pub listed_in : Keys → List ℕ
listed_in k = listed_keys k.low.now k.high.now

-- .. and the sets that they name.
abbrev pub sets_in : Layout → Keys → List (List ℕ)
sets_in l k = word_sets l.tables.catalogue (listed_in k)

-- One of the first k words is this.
unfoldable pub among : List ℕ → ℕ → ℕ → Bool
among words k word = any k (λ j. eqb (get_or words j 0) word)

-- The first spoilt entry, or that there is none.
abbrev pub lowest_of : Option ℕ → Lowest
lowest_of None = without
lowest_of (Some i) = lowest i

-- What is answered with the key of a set that is not listed, or with none: then the list is right.
abbrev pub out_of : Option Key → ListVerdict
out_of None = Right
out_of (Some key) = Missing key

-- A key has no row from n on, so that a search tells it from others.
abbrev pub Low : ℕ → ℕ → Type 0
Low n key = good.Key bits_per_row n key

-- The first k listed keys lie in a good search tree: the slices of their words are its keys, these are its links, and those of records not used yet are 0.
pub record Linked (n : ℕ) (low high left right : List ℕ) (k : ℕ) : Type 0 where
  pub long-left : length left ≡ most_records
  pub long-right : length right ≡ most_records
  pub good : 0 < k → good.GoodStore bits_per_row n (store_in low high left right k)
  pub bare : (s : Bool) (p : ℕ) → k ≤ p → link_of left right s p ≡ 0

-- How many of so many words have a record.
abbrev pub records_of : ℕ → ℕ
records_of k = min k most_records

-- A search of that tree for a key ends at this empty link, and the key is none of those in it.
pub record EndsAt (n : ℕ) (low high left right : List ℕ) (k word : ℕ) (link : Link) : Type 0 where
  pub new : among (listed_keys low high) k word ≡ false
  pub looks : ℕ
  pub search : Absent link.place link.right looks ≡ search_of (store_in low high left right k) word (bits_per_row * n)
