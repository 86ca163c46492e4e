-- The store: its records and links, a search for a key, and what an offer of a key leaves, as the paragraphs on looks and trials have them.
-- What follows from them stands in proofs/LookLaws (a search, of any store), proofs/Tree and proofs/StoreLaws (a good store). Assumes nothing.
use Rattle.std.specs.Prelude.{ℕ, zero, suc, ◌+◌, ◌-◌, ◌<◌, min, ◌≡◌, Bool, true, false, not, cond, List, eqb, ltb, length, get_or, set}
use Rattle.words.specs.Words.{bit_of}
use Rattle.keys.specs.TwoWords.{number_in, low_of, high_of}
use Rattle.store.specs.Looks.{Looked, Found, Absent, Damaged, Placed, Known, Added, Full, Broken}

-- What lies in the four lent slices, and how many records are used. "Words lie in two slices": the first words of the keys, and the second ones.
pub record Store : Type 0 where
  pub low : List ℕ
  pub high : List ℕ
  pub left : List ℕ
  pub right : List ℕ
  pub found : ℕ

-- The store of four lists, of which so many records are used.
abbrev pub store_in : List ℕ → List ℕ → List ℕ → List ℕ → ℕ → Store
store_in low high left right found = record { low = low; high = high; left = left; right = right; found = found }

-- The key of record p, as a number.
abbrev pub key_at : Store → ℕ → ℕ
key_at q p = number_in (get_or q.low p 0) (get_or q.high p 0)

-- "A store has as many records as the shortest of its .. lent slices", which are four (#110), "and never more than 65,535."
abbrev pub most_records : ℕ
most_records = 65535

-- How many records slices of these lengths have.
abbrev pub room_of : ℕ → ℕ → ℕ → ℕ → ℕ
room_of low high left right = min (min (min (min most_records low) high) left) right

-- How many records a store has.
abbrev pub room_in : Store → ℕ
room_in q = room_of (length q.low) (length q.high) (length q.left) (length q.right)

-- ---- a search

-- ".. chooses left for 0, right for 1. A link holds the record's place plus 1; 0 means absent." A side is true for right.
unfoldable pub link_of : List ℕ → List ℕ → Bool → ℕ → ℕ
link_of left right true p = get_or right p 0
link_of left right false p = get_or left p 0

-- "A look compares the record's key. If it differs, bit d of the sought key at depth d (lowest is bit 0) chooses left for 0, right for 1."
-- "14 is met .. when a link that a search follows passes found, or when look" 12n + 1 (#110) "finds another key than the sought one (no bit is then
-- taken and no link followed)."
-- `hit p`: record p has the sought key. `bit d`: the sought key's bit d. `link s p`: the link of record p on side s.
-- The search goes on with so many bits left to turn by (as many looks are left after this one), at a depth, at the record of a place.
module _ (hit bit : ℕ → Bool) (link : Bool → ℕ → ℕ) (found : ℕ) where
  -- The search from there on.
  unfoldable pub walk : ℕ → ℕ → ℕ → Looked
  walk zero d p = cond (hit p) (Found p (d + 1)) (Damaged (d + 1))
  walk (suc more) d p =
      cond (hit p) (Found p (d + 1))
      (cond (eqb (link (bit d) p) 0) (Absent p (bit d) (d + 1))
      (cond (ltb found (link (bit d) p)) (Damaged (d + 1))
      (walk more (d + 1) (link (bit d) p - 1))))

-- The same with the keys of a store: "at depth d the search takes bit d mod 12 of table d / 12's row" (#110), which is bit d of the key, ..
abbrev pub walk_in : Store → ℕ → ℕ → ℕ → ℕ → Looked
walk_in q sought = walk (λ p. eqb (key_at q p) sought) (bit_of sought) (link_of q.left q.right) q.found

-- .. and from the start: "a search for a key starts at record 0, depth 0." Look 12n + 1 is the look at depth 12n, the deepest.
unfoldable pub search_of : Store → ℕ → ℕ → Looked
search_of q sought deepest = walk_in q sought deepest 0 0

-- ---- an offer

-- "The key becomes the next record with both links 0, .."
unfoldable pub filed : Store → ℕ → Store
filed q key =
    record {
      low = set q.low q.found (low_of key);
      high = set q.high q.found (high_of key);
      left = set q.left q.found 0;
      right = set q.right q.found 0;
      found = q.found + 1;
    }

-- The links of one side, with record p's set where that side is meant.
unfoldable pub named : Bool → List ℕ → ℕ → ℕ → List ℕ
named true links p link = set links p link
named false links p link = links

-- Both sides, once record p names record `at` on side s.
pub record Hangs (ls rs : List ℕ) (p : ℕ) (s : Bool) (at : ℕ) (ls' rs' : List ℕ) : Type 0 where
  pub left : ls' ≡ named (not s) ls p (at + 1)
  pub right : rs' ≡ named s rs p (at + 1)

-- ".. and the empty link that ended the search names it": that of record p on side s.
unfoldable pub added : Store → ℕ → ℕ → Bool → Store
unfolding filed
added q key p s =
    record {
      low = (filed q key).low;
      high = (filed q key).high;
      left = named (not s) (filed q key).left p (q.found + 1);
      right = named s (filed q key).right p (q.found + 1);
      found = (filed q key).found;
    }

-- "If absent, the key becomes the next record .. If no record is free, 12." What the search said decides the answer, ..
unfoldable pub answer_of : Store → Looked → Placed
answer_of q (Found p looks) = Known looks
answer_of q (Absent p s looks) = cond (ltb q.found (room_in q)) (Added looks) Full
answer_of q (Damaged looks) = Broken

-- .. and the store afterwards.
unfoldable pub store_after : Store → ℕ → Looked → Store
store_after q key (Found p looks) = q
store_after q key (Absent p s looks) = cond (ltb q.found (room_in q)) (added q key p s) q
store_after q key (Damaged looks) = q

-- Four slices hold what the store says.
pub record Holds (ks hs ls rs : List ℕ) (q : Store) : Type 0 where
  pub low : ks ≡ q.low
  pub high : hs ≡ q.high
  pub left : ls ≡ q.left
  pub right : rs ≡ q.right

-- What an offer promises, of every store, a damaged one too: its answer, and the four slices afterwards.
pub record OfferPost (q : Store) (sought deepest : ℕ) (r : Placed) (ks hs ls rs : List ℕ) : Type 0 where
  pub answer : r ≡ answer_of q (search_of q sought deepest)
  pub after : Holds ks hs ls rs (store_after q sought (search_of q sought deepest))

-- ---- a copy

-- "The caller may copy the records to a longer store and go on": r has the records of q.
pub record Copy (q r : Store) : Type 0 where
  pub found : r.found ≡ q.found
  pub low : (p : ℕ) → p < q.found → get_or r.low p 0 ≡ get_or q.low p 0
  pub high : (p : ℕ) → p < q.found → get_or r.high p 0 ≡ get_or q.high p 0
  pub left : (p : ℕ) → p < q.found → get_or r.left p 0 ≡ get_or q.left p 0
  pub right : (p : ℕ) → p < q.found → get_or r.right p 0 ≡ get_or q.right p 0
