-- Demand 1 of the loader, and of the C door: each refusal "given exactly when its condition holds and no earlier one does". A reading of an image comes
-- from one thing due to the next (`Passes`), and whatever is due may be at fault (`Meets`). Proved in proofs/NumberExactly and proofs/LoadExactly. Assumes nothing.
use Rattle.std.specs.Prelude.{ℕ, zero, suc, ◌+◌, ◌*◌, ◌^◌, ◌≤◌, ◌<◌, ◌≡◌, ◌⊎◌, ◌↔◌, Bool, true, false, ◌||◌, List, length, get_or, ltb}
use Rattle.std.specs.Int.Count.{ones}
use Rattle.numbers.specs.Readings.{Number, NumberFault}
use Rattle.numbers.specs.Numbers.{most_bytes, decode}
use Rattle.tables.specs.Sizes.{most_attributes, most_tables, most_rows_one, most_cells, version_one, version_two}
use Rattle.tables.specs.Versions.{most_rows_in}
use Rattle.tables.specs.Rows.{below, all_null}
use Rattle.loader.specs.Faults.{Fault, Good, Refused}
use Rattle.loader.specs.Reading.{refusal_at, codes}
use Rattle.loader.specs.Load.{scan_of}
use Rattle.door.specs.Door.{check_of}

-- ---- a number's own faults

-- "The top bit of a byte set on all but the last": k bytes from place i on that are there and have it.
abbrev pub GoesOn : List ℕ → ℕ → ℕ → Type 0
GoesOn s i k = (d : ℕ) → d < k → (i + d < length s) × (128 ≤ get_or s (i + d) 0)

-- "1: the image ends inside a number, or where one is due": behind c bytes, which are those looked at.
abbrev pub EndsInside : List ℕ → ℕ → ℕ → Type 0
EndsInside s i c = (c < most_bytes) × GoesOn s i c × (length s ≤ i + c)

-- Request #107: "2 now means a last group of zero after the first byte", the last of the c bytes looked at.
abbrev pub NotShortest : List ℕ → ℕ → ℕ → Type 0
NotShortest s i c = (k : ℕ) × (c ≡ suc k) × (0 < k) × (k < most_bytes) × GoesOn s i k × (i + k < length s) × (get_or s (i + k) 0 ≡ 0)

-- Request #107: "17 means a ninth byte with its top bit set": nine bytes have, and nine are looked at.
abbrev pub TooLong : List ℕ → ℕ → ℕ → Type 0
TooLong s i c = (c ≡ most_bytes) × GoesOn s i most_bytes

-- Of the number that is due at place i: each refusal, with how many bytes were looked at.
pub record NumberExact (s : List ℕ) (i : ℕ) : Type 0 where
  pub ends : (c : ℕ) → (decode s i ≡ NumberFault 1 c) ↔ EndsInside s i c
  pub not-shortest : (c : ℕ) → (decode s i ≡ NumberFault 2 c) ↔ NotShortest s i c
  pub too_long : (c : ℕ) → (decode s i ≡ NumberFault 17 c) ↔ TooLong s i c
  pub no_other : (k c : ℕ) → decode s i ≡ NumberFault k c → (k ≡ 1) ⊎ ((k ≡ 2) ⊎ (k ≡ 17))

-- ---- what is due in an image, "in reading order"

-- The row before the one that is read: none, or the one that starts at a place.
pub data Before : Type 0 where
  none : Before
  row_at : ℕ → Before

-- v is the version, m the number of attributes, k how many tables are still to come, u the cells so far, l whether a table so far passes 255 rows.
pub data Due : Type 0 where
  the_version : Due
  attributes : (v : ℕ) → Due
  tables : (v m : ℕ) → Due
  -- k tables, the first of which begins with its scheme; with none, nothing
  table : (v m k u : ℕ) (l : Bool) → Due
  -- the row count of a table with scheme x
  row_count : (v m k u : ℕ) (l : Bool) (x : ℕ) → Due
  -- c rows of it, behind the row before
  rows : (v m k u : ℕ) (l : Bool) (x c : ℕ) → Before → Due
  -- w cells of the row that starts at place p, behind which c rows follow
  cells : (v m k u : ℕ) (l : Bool) (x c : ℕ) → Before → (p w : ℕ) → Due

-- Whether a table passes 255 rows, with one of c rows.
abbrev pub longer : ℕ → Bool → Bool
longer c l = ltb most_rows_one c || l

-- Where a number is due. With no tables or cells left, none is, and none where a row begins.
abbrev pub NumberDue : Due → Type 0
NumberDue the_version = Unit
NumberDue (attributes v) = Unit
NumberDue (tables v m) = Unit
NumberDue (table v m zero u l) = ⊥
NumberDue (table v m (suc k) u l) = Unit
NumberDue (row_count v m k u l x) = Unit
NumberDue (rows v m k u l x c b) = ⊥
NumberDue (cells v m k u l x c b p zero) = ⊥
NumberDue (cells v m k u l x c b p (suc w)) = Unit

-- The row at place p, of w cells, rises above the one before, if there is one.
abbrev pub Rises : List ℕ → ℕ → Before → ℕ → Type 0
Rises s w none p = Unit
Rises s w (row_at q) p = below (codes w s q) (codes w s p) ≡ true

-- In version 2 the row at place p, of w cells, has a value (#111); version 1 may hold an all-null row.
abbrev pub Valued : List ℕ → ℕ → ℕ → ℕ → Type 0
Valued s v w p = v ≡ version_two → all_null (codes w s p) ≡ false

-- What is due at place i is not at fault, and the other is due next, at place j.
pub data Passes (s : List ℕ) (room : ℕ) : Due → ℕ → Due → ℕ → Type 0 where
  version-is : {i j v : ℕ} → decode s i ≡ Number v j → (v ≡ version_one) ⊎ (v ≡ version_two) → Passes s room the_version i (attributes v) j
  m-is : {i j v m : ℕ} → decode s i ≡ Number m j → 1 ≤ m → m ≤ most_attributes → Passes s room (attributes v) i (tables v m) j
  n-is : {i j v m n : ℕ} → decode s i ≡ Number n j → 1 ≤ n → n ≤ most_tables → Passes s room (tables v m) i (table v m n 0 false) j
  scheme-is : {i j v m k u x : ℕ} {l : Bool} → decode s i ≡ Number x j → 0 < x → x < 2 ^ m → Passes s room (table v m (suc k) u l) i (row_count v m k u l x) j
  count-is : {i j v m k u x c : ℕ} {l : Bool} → decode s i ≡ Number c j → c ≤ most_rows_in v → u + c * ones x ≤ most_cells → u + c * ones x ≤ room
      → Passes s room (row_count v m k u l x) i (rows v m k (u + c * ones x) (longer c l) x c none) j
  row-begins : {i v m k u x c : ℕ} {l : Bool} {b : Before} → Passes s room (rows v m k u l x (suc c) b) i (cells v m k u l x c b i (ones x)) i
  cell-is : {i j v m k u x c d p w : ℕ} {l : Bool} {b : Before} → decode s i ≡ Number d j
      → Passes s room (cells v m k u l x c b p (suc w)) i (cells v m k u l x c b p w) j
  row-rises : {i v m k u x c p : ℕ} {l : Bool} {b : Before} → Valued s v (ones x) p → Rises s (ones x) b p
      → Passes s room (cells v m k u l x c b p 0) i (rows v m k u l x c (row_at p)) i
  rows_end : {i v m k u x : ℕ} {l : Bool} {b : Before} → Passes s room (rows v m k u l x 0 b) i (table v m k u l) i

-- What is due at place i is at fault: the refusal, and its place. "The place is the first byte of the number at fault, for 7 of the row, for 9 of the surplus."
pub data Meets (s : List ℕ) (room : ℕ) : Due → ℕ → Fault → Type 0 where
  -- "a number's own faults (1, 2) as it is read, then its meaning"; request #107: 17 is "met where 2 was", and "the loader passes both on, with count 0
  -- under other refusals"
  number : {d : Due} {i f c : ℕ} → NumberDue d → decode s i ≡ NumberFault f c → Meets s room d i (refusal_at f i c)
  -- "3 now means neither 1 nor 2" (#110)
  other-version : {i j v : ℕ} → decode s i ≡ Number v j → (v ≡ version_one → ⊥) → (v ≡ version_two → ⊥) → Meets s room the_version i (refusal_at 3 i 0)
  -- "4: m or n out of range"
  m-out : {i j v m : ℕ} → decode s i ≡ Number m j → (m < 1) ⊎ (most_attributes < m) → Meets s room (attributes v) i (refusal_at 4 i 0)
  n-out : {i j v m n : ℕ} → decode s i ≡ Number n j → (n < 1) ⊎ (most_tables < n) → Meets s room (tables v m) i (refusal_at 4 i 0)
  -- "5: a scheme is 0 or not below 2^m"
  bad-scheme : {i j v m k u x : ℕ} {l : Bool} → decode s i ≡ Number x j → (x ≡ 0) ⊎ (2 ^ m ≤ x) → Meets s room (table v m (suc k) u l) i (refusal_at 5 i 0)
  -- "6 means above 255 in version 1, above 4,095 in version 2" (#110)
  many-rows : {i j v m k u x c : ℕ} {l : Bool} → decode s i ≡ Number c j → most_rows_in v < c → Meets s room (row_count v m k u l x) i (refusal_at 6 i 0)
  -- "8: cells so far, this table included, pass 8,192 or the lent cell slice"; "at a row count 6, then 8"
  many-cells : {i j v m k u x c : ℕ} {l : Bool} → decode s i ≡ Number c j → c ≤ most_rows_in v → (most_cells < u + c * ones x) ⊎ (room < u + c * ones x)
      → Meets s room (row_count v m k u l x) i (refusal_at 8 i 0)
  -- "21, an all-null row where version 2 is read ..; after the row's last cell, before 7, with the row's place on loading" (#111)
  all-null : {i m k u x c p : ℕ} {l : Bool} {b : Before} → all_null (codes (ones x) s p) ≡ true
      → Meets s room (cells version_two m k u l x c b p 0) i (refusal_at 21 p 0)
  -- "7: a row doesn't rise above the one before", "after the row's last cell"
  not-rising : {i v m k u x c p q : ℕ} {l : Bool} → Valued s v (ones x) p → below (codes (ones x) s q) (codes (ones x) s p) ≡ false
      → Meets s room (cells v m k u l x c (row_at q) p 0) i (refusal_at 7 p 0)
  -- "9: bytes after the last table"
  surplus : {i v m u : ℕ} {l : Bool} → i < length s → Meets s room (table v m 0 u l) i (refusal_at 9 i 0)
  -- "20, a version 2 image in which no table passes 255, after all else with place 0" (#110)
  no-need : {i m u : ℕ} → length s ≤ i → Meets s room (table version_two m 0 u false) i (refusal_at 20 0 0)

-- The reading comes to what is due at a place: nothing before it is at fault.
pub data Reaches (s : List ℕ) (room : ℕ) : Due → ℕ → Type 0 where
  start : Reaches s room the_version 0
  on : {d e : Due} {i j : ℕ} → Reaches s room d i → Passes s room d i e j → Reaches s room e j

-- "The first fault in reading order": its condition holds, and no earlier one does.
abbrev pub FirstFault : List ℕ → ℕ → Fault → Type 0
FirstFault s room f = (d : Due) × (i : ℕ) × Reaches s room d i × Meets s room d i f

-- The reading comes to the end behind the last table, nothing follows, and version 2 is needed.
abbrev pub ReadWhole : List ℕ → ℕ → Type 0
ReadWhole s room =
    (v : ℕ) × (m : ℕ) × (u : ℕ) × (l : Bool) × (i : ℕ) × Reaches s room (table v m 0 u l) i × (length s ≤ i) × (v ≡ version_two → l ≡ true)

-- ---- the demand

-- Of a load of the bytes s into `room` cells.
pub record LoadExact (s : List ℕ) (room : ℕ) : Type 0 where
  pub refuses : (f : Fault) → ((scan_of s room).verdict ≡ Refused f) ↔ FirstFault s room f
  pub accepts : ((scan_of s room).verdict ≡ Good) ↔ ReadWhole s room

-- Of the C door, which "assumes 8,192 cells of room" and tells no count.
pub record CheckExact (s : List ℕ) : Type 0 where
  pub refuses : (k p : ℕ) → k < 32 → 0 < k → (check_of s ≡ p * 32 + k) ↔ ((c : ℕ) × FirstFault s most_cells (refusal_at k p c))
  pub accepts : (check_of s ≡ 0) ↔ ReadWhole s most_cells
