-- The merged row of a set: the attributes that its members have, and one code for each of them, such that a row fits every member exactly where it has
-- these codes at the attributes that it shares (proofs/MergedLaws). A member is a row number f u above 0 of table u. Assumes nothing.
use Rattle.std.specs.Prelude.{ℕ, ◌+◌, ◌*◌, ◌%◌, ◌^◌, ◌≤◌, ◌<◌, ◌≡◌, ◌≢◌, Bool, true, false, not, cond, ◌&&◌, ◌||◌, List, get_or, length, eqb}
use Rattle.std.specs.Int.Bits.{bit_or}
use Rattle.std.specs.Int.Count.{ones}
use Rattle.laws.specs.Tests.{all}
use Rattle.words.specs.Words.{bit_of}
use Rattle.tables.specs.declared.Catalogue.{Catalogue}
use Rattle.tables.specs.Catalogues.{scheme_of, code_at, code_of}
use Rattle.disjunction.specs.Cells.{same}

-- A merged row has a code for each bit of a scheme's word.
abbrev pub merged_length : ℕ
merged_length = 64

-- "Has a value .. the same one": code x is a value, and it is v.
abbrev pub Same : ℕ → ℕ → Type 0
Same x v = (0 < x) × (x ≡ v)

-- Every attribute of the first mask is in the second.
abbrev pub Under : ℕ → ℕ → Type 0
Under part whole = (a : ℕ) → bit_of part a ≡ true → bit_of whole a ≡ true

-- The merged row has a value at every attribute of the mask.
abbrev pub Values : ℕ → List ℕ → Type 0
Values mask codes = (a : ℕ) → bit_of mask a ≡ true → 0 < get_or codes a 0

-- `mask` has the attributes of the members, and no other.
pub record Attributes (cat : Catalogue) (f : ℕ → ℕ) (mask : ℕ) : Type 0 where
  pub narrow : mask < 2 ^ cat.m
  pub has : (a : ℕ) → bit_of mask a ≡ true → (u : ℕ) × (0 < f u) × (bit_of (scheme_of cat u) a ≡ true)
  pub of-has : (a u : ℕ) → 0 < f u → bit_of (scheme_of cat u) a ≡ true → bit_of mask a ≡ true

-- `codes` has for each of these attributes a code that is the value v exactly where every member with the attribute has v.
-- So it is 0, and matches nothing, where members disagree or one has null.
pub record Merged (cat : Catalogue) (cells : List ℕ) (f : ℕ → ℕ) (codes : List ℕ) (mask : ℕ) : Type 0 where
  pub long : length codes ≡ merged_length
  pub attributes : Attributes cat f mask
  pub each : (a v : ℕ) → Same (get_or codes a 0) v → (u : ℕ) → 0 < f u → bit_of (scheme_of cat u) a ≡ true → Same (code_of cat cells u (f u) a) v
  pub of-each : (a v : ℕ) → bit_of mask a ≡ true
      → ((u : ℕ) → 0 < f u → bit_of (scheme_of cat u) a ≡ true → Same (code_of cat cells u (f u) a) v) → Same (get_or codes a 0) v

-- The row of this scheme at `start` has the merged codes at all attributes of the mask `shared`, each of them a value.
unfoldable pub matches : List ℕ → ℕ → ℕ → ℕ → List ℕ → Bool
matches cells scheme start shared codes = all merged_length (λ a. not (bit_of shared a) || same (get_or codes a 0) (code_at cells scheme start a))

-- The merged code of an attribute that a new row has: the row's own where no member has the attribute, the old one where the two are equal, else 0.
unfoldable pub joint : Bool → ℕ → ℕ → ℕ
joint seen old code = cond seen (cond (eqb old code) old 0) code

-- `after` is the merged row `before`, of members with the attributes `mask`, with the row of this scheme at `start` more.
pub record Joined (cells : List ℕ) (scheme start mask : ℕ) (before after : List ℕ) : Type 0 where
  pub long : length after ≡ merged_length
  pub own : (a : ℕ) → a < merged_length → bit_of scheme a ≡ true → get_or after a 0 ≡ joint (bit_of mask a) (get_or before a 0) (code_at cells scheme start a)
  pub other : (a : ℕ) → bit_of scheme a ≡ false → get_or after a 0 ≡ get_or before a 0

-- The merged row and the attributes, with that row more.
pub record Added (cells : List ℕ) (scheme start mask : ℕ) (before after : List ℕ) (mask' : ℕ) : Type 0 where
  pub attributes : mask' ≡ bit_or mask scheme
  pub joined : Joined cells scheme start mask before after

-- Where row i of a table begins, rows from 0, by where its cells begin.
abbrev pub row_in : ℕ → ℕ → ℕ → ℕ
row_in base scheme i = base + i * ones scheme

-- The one member row r of table t.
unfoldable pub only : ℕ → ℕ → ℕ → ℕ
only t r u = cond (eqb u t) r 0

-- `places` has, for each attribute of the mask, where its cell lies in a row of this scheme.
pub record Places (scheme mask : ℕ) (places : List ℕ) : Type 0 where
  pub long : length places ≡ merged_length
  pub each : (a : ℕ) → bit_of mask a ≡ true → get_or places a 0 ≡ ones (scheme % 2 ^ a)

-- r is the next of k rows, from row i on, that has the code v in one cell; k where none has it. Row 0's cell lies at `first`, and a row is w cells wide.
pub record NextEqual (cells : List ℕ) (first w i k v r : ℕ) : Type 0 where
  pub from : i ≤ r
  pub within : r ≤ k
  pub before : (j : ℕ) → j < r → i ≤ j → get_or cells (first + j * w) 0 ≢ v
  pub found : r < k → get_or cells (first + r * w) 0 ≡ v

-- A column does not fall: of k rows, no later one has a smaller code in it. Row 0's cell lies at `first`, and a row is w cells wide.
pub record Rising (cells : List ℕ) (first w k : ℕ) : Type 0 where
  pub each : (i j : ℕ) → i ≤ j → j < k → get_or cells (first + i * w) 0 ≤ get_or cells (first + j * w) 0

-- r is the first of k rows, from row i on, whose code in one cell is not below v, and every code before it is; k where there is none.
pub record AtLeast (cells : List ℕ) (first w i k v r : ℕ) : Type 0 where
  pub from : i ≤ r
  pub within : r ≤ k
  pub before : (j : ℕ) → j < r → i ≤ j → get_or cells (first + j * w) 0 < v
  pub found : r < k → v ≤ get_or cells (first + r * w) 0

-- Row j of a table has the code v in one cell, and the merged codes at all attributes of the mask. Row 0's cell lies at `first`, and a row is w cells wide.
unfoldable pub fits_at : List ℕ → ℕ → ℕ → ℕ → ℕ → ℕ → ℕ → List ℕ → ℕ → Bool
fits_at cells first w v scheme base mask codes j = eqb (get_or cells (first + j * w) 0) v && matches cells scheme (row_in base scheme j) mask codes
