-- "Load reports the first fault in reading order: a number's own faults (1, 2) as it is read, then its meaning; at a row count 6, then 8;
-- 7 after the row's last cell." Refusals stand in the order in which they are met; request #107 puts 17 where 2 was, #110 puts 20 "after all else",
-- and #111 puts 21 before 7. Assumes nothing.
use Rattle.std.specs.Prelude.{ℕ, zero, suc, ◌+◌, ◌*◌, ◌≤◌, ◌≡◌, List, [], ◌++◌, true, cond, length, set, replicate, ltb, Result, Ok, Err}
use Rattle.std.specs.Int.Count.{ones}
use Rattle.laws.specs.Lists.{put}
use Rattle.numbers.specs.Numbers.{decode}
use Rattle.tables.specs.declared.Catalogue.{Catalogue}
use Rattle.tables.specs.Catalogues.{filled, given, no_tables}
use Rattle.tables.specs.Sizes.{most_attributes, most_tables, version_one, version_two}
use Rattle.tables.specs.Checks.{outside, bad_scheme, count_fault}
use Rattle.tables.specs.Versions.{most_rows_in, needless}
use Rattle.loader.specs.declared.Fault.{Fault as FaultMet}
use Rattle.loader.specs.Faults.{fault_of, Fault, Walk, To, WalkFault, Field, Value, FieldFault, Entry, Table, TableFault, Verdict, Good, Refused, Loaded}
use Rattle.loader.specs.Reading.{refusal_at, on_number, run_end, codes, rows_from}

-- The version, m and n of a good image are below 128 and take one byte each, so its first table is at place 3.
abbrev pub first_table : ℕ
first_table = 3

-- What a load gives that is refused by a fault: "a refusal gives a catalogue of zeros".
abbrev pub refused : Fault → Loaded
refused f = record { verdict = Refused f; catalogue = no_tables }

-- What the code's answer to a load is.
abbrev pub loaded_of : Result Catalogue FaultMet → Loaded
loaded_of (Ok cat) = record { verdict = Good; catalogue = cat }
loaded_of (Err f) = refused (fault_of f)

-- The number at place i and the place behind it, where it lies in its range; else its own refusal, or the one given.
unfoldable pub field_at : List ℕ → ℕ → ℕ → ℕ → ℕ → Field
field_at s i low high k =
    on_number (decode s i)
    (λ x n. cond (outside low high x) (FieldFault (refusal_at k i 0)) (Value x n))
    (λ f c. FieldFault (refusal_at f i c))

-- Go on with the field's value and the place behind it, or with its refusal.
abbrev pub on_field : Field → (ℕ → ℕ → Loaded) → Loaded
on_field (Value x n) go = go x n
on_field (FieldFault f) go = refused f

-- Where there is a refusal it is the answer; else go on.
abbrev pub on_fault : {A : Type 0} → ℕ → (ℕ → A) → A → A
on_fault zero refuse go = go
on_fault (suc k) refuse go = refuse (suc k)

-- The end of a table's rows makes the table's entry.
abbrev pub entry_of : ℕ → ℕ → ℕ → Walk → Entry
entry_of scheme rows used (To n) = Table scheme rows used n
entry_of scheme rows used (WalkFault f) = TableFault f

-- A table behind its scheme, from place i on, where its row count stands, in an image of version v. `room` cells are lent and `used` cells lie before
-- it. Its entry holds its scheme, its row count, the cells with it and the place behind it.
unfoldable pub count_at : List ℕ → ℕ → ℕ → ℕ → ℕ → ℕ → Entry
count_at s v room scheme used i =
    on_number (decode s i)
    (λ rows n. on_fault (count_fault (most_rows_in v) room used scheme rows) (λ k. TableFault (refusal_at k i 0))
    (entry_of scheme rows (used + rows * ones scheme) (rows_from rows (ones scheme) s v true 0 n)))
    (λ f c. TableFault (refusal_at f i c))

-- A table from place i on, when there are m attributes.
unfoldable pub table_at : List ℕ → ℕ → ℕ → ℕ → ℕ → ℕ → Entry
table_at s v room m used i =
    on_number (decode s i)
    (λ scheme n. cond (bad_scheme m scheme) (TableFault (refusal_at 5 i 0)) (count_at s v room scheme used n))
    (λ f c. TableFault (refusal_at f i c))

-- Go on with the table's entry, or with its refusal.
abbrev pub on_entry : {A : Type 0} → Entry → (ℕ → ℕ → ℕ → ℕ → A) → (Fault → A) → A
on_entry (Table scheme rows used n) go refuse = go scheme rows used n
on_entry (TableFault f) go refuse = refuse f

-- Behind the last of these tables, at place i: "9: bytes after the last table", at the place "of the surplus"; "20, a version 2 image in which no table
-- passes 255, after all else with place 0" (#110). A good image's catalogue has its places and masks filled (#106).
unfoldable pub tables_end : List ℕ → ℕ → Catalogue → ℕ → Loaded
tables_end s v cat i =
    cond (ltb i (length s)) (refused (refusal_at 9 i 0))
    (cond (needless v cat) (refused (refusal_at 20 0 0))
    (record { verdict = Good; catalogue = filled cat }))

-- k tables from place i on, the next of which is table t; `used` cells, these schemes and these row counts lie before it.
unfoldable pub tables_from : ℕ → List ℕ → ℕ → ℕ → ℕ → ℕ → ℕ → ℕ → List ℕ → List ℕ → ℕ → Loaded
tables_from zero s v room m n t used schemes rows i = tables_end s v (given m n schemes rows) i
tables_from (suc k) s v room m n t used schemes rows i =
    on_entry (table_at s v room m used i) (λ x c u e. tables_from k s v room m n (t + 1) u (set schemes t x) (set rows t c) e) refused

-- "In order: version (1), m, n; then for each table its scheme, its row count and its cells. Nothing follows." "3 now means neither 1 nor 2" (#110).
-- The answer of a load of s into `room` cells; entries of the catalogue from n on are 0.
unfoldable pub scan_of : List ℕ → ℕ → Loaded
scan_of s room =
    on_field (field_at s 0 version_one version_two 3) (λ v i.
    on_field (field_at s i 1 most_attributes 4) (λ m j.
    on_field (field_at s j 1 most_tables 4) (λ n k.
    tables_from n s v room m n 0 0 (replicate 8 0) (replicate 8 0) k)))

-- Go on from the place that a walk came to; a walk that was refused gives nothing.
abbrev pub on_end : {A : Type 0} → Walk → (ℕ → List A) → List A
on_end (To n) go = go n
on_end (WalkFault f) go = []

-- The codes of k tables from place i on, one table behind the other.
unfoldable pub tables_codes : ℕ → List ℕ → ℕ → List ℕ
tables_codes zero s i = []
tables_codes (suc k) s i =
    on_number (decode s i)
    (λ scheme n. on_number (decode s n)
    (λ rows e. codes (rows * ones scheme) s e ++ on_end (run_end (rows * ones scheme) s e) (λ j. tables_codes k s j))
    (λ f c. []))
    (λ f c. [])

-- "Success writes the cells and leaves those behind them"; a refusal "leaves the cells untouched".
abbrev pub cells_after : Verdict → List ℕ → List ℕ → List ℕ
cells_after Good new old = put new old
cells_after (Refused f) new old = old

-- No refusal of an image is placed beyond this: a number takes nine bytes at most, and only so many can be read before a table is refused.
abbrev pub farthest : ℕ
farthest = 590000

-- No refusal of an image has a number above this.
abbrev pub highest : ℕ
highest = 21

-- A fault lies at a place of at most b, and its number is at most the highest.
abbrev pub NearFault : ℕ → Fault → Type 0
NearFault b f = (f.place ≤ b) × (f.refusal ≤ highest)

-- An image is good, or its fault is near.
abbrev pub NearVerdict : ℕ → Verdict → Type 0
NearVerdict b Good = Unit
NearVerdict b (Refused f) = NearFault b f

-- k tables from place i on, each of them good, and nothing behind them: what the first pass has found before the second begins.
pub data Sound (s : List ℕ) (v room m : ℕ) : ℕ → ℕ → ℕ → Type 0 where
  none : {used i : ℕ} → length s ≤ i → Sound s v room m 0 used i
  more : {k used i x c u e : ℕ} → table_at s v room m used i ≡ Table x c u e → Sound s v room m k u e → Sound s v room m (suc k) used i

-- The same, whatever the version and the number of attributes.
abbrev pub Fillable : List ℕ → ℕ → ℕ → ℕ → ℕ → Type 0
Fillable s room k used i = (v : ℕ) × (m : ℕ) × Sound s v room m k used i

-- What a copy of k numbers from place i on into the lent cells gives, and what these hold then.
pub record Copied (k : ℕ) (s : List ℕ) (i : ℕ) (lent : List ℕ) (r : Walk) (after : List ℕ) : Type 0 where
  pub end : r ≡ run_end k s i
  pub cells : after ≡ put (codes k s i) lent

-- What a load of the bytes s into the lent cells gives, and what these hold then.
pub record Loads (s lent : List ℕ) (r : Loaded) (after : List ℕ) : Type 0 where
  pub answer : r ≡ scan_of s (length lent)
  pub cells : after ≡ cells_after r.verdict (tables_codes r.catalogue.n s first_table) lent
