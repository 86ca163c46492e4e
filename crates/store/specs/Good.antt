-- A good store: every record is reached by the bits of its own key, and no key stands in it twice. Over any keys K and any bits of them; and for the
-- store of row sets' keys, at w bits for each of n rows. What a search of it answers stands in proofs/Tree and proofs/StoreLaws. Assumes nothing.
use Rattle.std.specs.Prelude.{ℕ, ◌+◌, ◌-◌, ◌*◌, ◌^◌, ◌≤◌, ◌<◌, ◌≡◌, Bool}
use Rattle.words.specs.Words.{bit_of}
use Rattle.store.specs.Store.{Store, key_at, link_of}

-- `depth` is at which depth a record lies; the path to it is that many bits of its own key.
module _ {K : Type 0} (bit : K → ℕ → Bool) where
  -- Two keys have the same bits below d.
  abbrev pub Agree : K → K → ℕ → Type 0
  Agree a b d = (i : ℕ) → i < d → bit a i ≡ bit b i

  -- What a link l on side s of record p names: a record one deeper, whose key goes p's way and then to s.
  pub record Child (found : ℕ) (key : ℕ → K) (depth : ℕ → ℕ) (s : Bool) (p l : ℕ) : Type 0 where
    pub within : l ≤ found
    pub deeper : depth (l - 1) ≡ depth p + 1
    pub turned : bit (key (l - 1)) (depth p) ≡ s
    pub along : Agree (key (l - 1)) (key p) (depth p)

  -- A store is good: it has a record 0 at depth 0, only good keys and none twice, every link leads to a child, and every record is reached.
  pub record Tree (Good : K → Type 0) (found : ℕ) (key : ℕ → K) (link : Bool → ℕ → ℕ) (depth : ℕ → ℕ) : Type 0 where
    pub some : 0 < found
    pub root : depth 0 ≡ 0
    pub good : (p : ℕ) → p < found → Good (key p)
    pub down : (s : Bool) (p : ℕ) → p < found → (link s p ≡ 0 → ⊥) → Child found key depth s p (link s p)
    -- A record whose key goes p's way down to p lies below p, on the side of its bit.
    pub cover : (p q : ℕ) → p < found → q < found → (p ≡ q → ⊥) → depth p ≤ depth q → Agree (key q) (key p) (depth p)
        → (link (bit (key q) (depth p)) p ≡ 0 → ⊥) × (depth p < depth q)
    pub once : (p q : ℕ) → p < found → q < found → key p ≡ key q → p ≡ q

-- ---- keys of row sets

-- The link of record p on a side.
abbrev pub link_at : Store → Bool → ℕ → ℕ
link_at q = link_of q.left q.right

-- A key of n rows: its rows from n on are 0.
abbrev pub Key : ℕ → ℕ → ℕ → Type 0
Key w n k = k < 2 ^ (w * n)

-- The store is good with these depths, ..
abbrev pub StoreTree : ℕ → ℕ → Store → (ℕ → ℕ) → Type 0
StoreTree w n q depth = Tree bit_of (Key w n) q.found (key_at q) (link_at q) depth

-- .. and with some.
abbrev pub GoodStore : ℕ → ℕ → Store → Type 0
GoodStore w n q = (depth : ℕ → ℕ) × StoreTree w n q depth

-- A key is among the records.
abbrev pub Stored : Store → ℕ → Type 0
Stored q k = (p : ℕ) × (p < q.found) × (key_at q p ≡ k)
