-- The equations of a table, of the tables and of the head, one for each way that the code goes; and what a good table is. Assumes nothing.
use Prim.Native.Nat.{ℕ, zero, suc, ◌+◌, ◌-◌, ◌*◌, ◌<◌, ◌≤◌}
use native.Mathlib.Decide.{dec_lt, ℕ_discrete}
use native.Mathlib.Omega.{arith}
use native.Mathlib.Numerals.{sub-one}
use mathlib.Core.Path.{◌≡◌, refl, sym, ap, ◌∙◌}
use mathlib.Core.List.{List}
use mathlib.Core.Bool.{Bool, true, false}
use lib.ListN.{length, set, replicate}
use lib.Count.{ones}
use borrow.Author.Tests.{lt-ltb, le-ltb}
use Rattle.numbers.specs.Numbers.{decode}
use Rattle.numbers.specs.Readings.{Reading, Number, NumberFault}
use Rattle.tables.specs.Sizes.{most_attributes, most_tables, most_rows, version_one, version_two}
use Rattle.tables.specs.declared.Catalogue.{Catalogue}
use Rattle.tables.specs.Checks.{outside, bad_scheme, count_fault, table_fault}
use Rattle.tables.specs.declared.Version.{Version}
use Rattle.tables.specs.declared.Version.TheVariants.{One, Two}
use Rattle.tables.specs.Versions.{version_number, most_rows_in, needless}
use Rattle.tables.proofs.VersionLaws.{most-in}
use Rattle.tables.proofs.CheckLaws.{inside, below, above, count-good, fault-counted, Clear, fault-clear}
use Rattle.tables.proofs.CheckLaws as checks
use Rattle.loader.specs.Faults.{Fault, Walk, To, WalkFault, Field, Value, FieldFault, Entry, Table, TableFault, Good}
use Rattle.loader.specs.Reading.{refusal_at, number_at, rows_from}
use Rattle.loader.proofs.ReadingLaws.{read-bad}
use Rattle.tables.specs.Catalogues.{filled, given}
use Rattle.loader.specs.Load.{refused, field_at, on_fault, entry_of, count_at, table_at, tables_end, tables_from, scan_of}

-- ---- a refusal in the way

pub fault-some : {A : Type 0} (f : ℕ) (refuse : ℕ → A) (go : A) → (f ≡ 0 → ⊥) → on_fault f refuse go ≡ refuse f
fault-some zero refuse go h = absurd (h refl)
fault-some (suc f) refuse go h = refl

-- ---- a table

module _ (s : List ℕ) (v room x used i : ℕ) where
  pub count-bad : (k l : ℕ) → decode s i ≡ NumberFault k l → count_at s v room x used i ≡ TableFault (refusal_at k i l)
  unfolding count_at
  count-bad k l e = rw e

  module _ (c n : ℕ) (e : decode s i ≡ Number c n) where
    -- What the row count's rows come to.
    abbrev pub rows_entry : Entry
    rows_entry = entry_of x c (used + c * ones x) (rows_from c (ones x) s v true 0 n)

    pub count-fault : (count_fault (most_rows_in v) room used x c ≡ 0 → ⊥) → count_at s v room x used i ≡ TableFault (refusal_at (count_fault (most_rows_in v) room used x c) i 0)
    unfolding count_at
    count-fault h = rw e (fault-some (count_fault (most_rows_in v) room used x c) (λ k. TableFault (refusal_at k i 0)) rows_entry h)

    pub count-rows : count_fault (most_rows_in v) room used x c ≡ 0 → count_at s v room x used i ≡ rows_entry
    unfolding count_at
    count-rows h = rw (e, h)

module _ (s : List ℕ) (v room m used i : ℕ) where
  pub table-bad : (k l : ℕ) → decode s i ≡ NumberFault k l → table_at s v room m used i ≡ TableFault (refusal_at k i l)
  unfolding table_at
  table-bad k l e = rw e

  pub table-scheme : (x n : ℕ) → decode s i ≡ Number x n → bad_scheme m x ≡ true → table_at s v room m used i ≡ TableFault (refusal_at 5 i 0)
  unfolding table_at
  table-scheme x n e b = rw (e, b)

  pub table-count : (x n : ℕ) → decode s i ≡ Number x n → bad_scheme m x ≡ false → table_at s v room m used i ≡ count_at s v room x used n
  unfolding table_at
  table-count x n e b = rw (e, b)

-- ---- where a number cannot be read

pub count-unread : (s : List ℕ) (v room x used i : ℕ) (f : Fault) → FieldFault f ≡ number_at s i → count_at s v room x used i ≡ TableFault f
count-unread s v room x used i f e = let d = read-bad s i f e in count-bad s v room x used i d.0 d.1 d.2 ∙ ap TableFault (sym d.3)

pub table-unread : (s : List ℕ) (v room m used i : ℕ) (f : Fault) → FieldFault f ≡ number_at s i → table_at s v room m used i ≡ TableFault f
table-unread s v room m used i f e = let d = read-bad s i f e in table-bad s v room m used i d.0 d.1 d.2 ∙ ap TableFault (sym d.3)

-- ---- what a good table is

pub no_table : {A : Type 0} (o : Entry) (f : Fault) (x c u e : ℕ) → o ≡ TableFault f → o ≡ Table x c u e → A
no_table o f x c u e a b = absurd (let z : ◌≡◌ {A = ℕ} 0 1 = cc in omega arith)

pub record GoodTable (s : List ℕ) (v room m used i x c u e : ℕ) : Type 0 where
  pub n : ℕ
  pub q : ℕ
  pub scheme : decode s i ≡ Number x n
  pub good : bad_scheme m x ≡ false
  pub count : decode s n ≡ Number c q
  pub fits : count_fault (most_rows_in v) room used x c ≡ 0
  pub cells : u ≡ used + c * ones x
  pub rows : rows_from c (ones x) s v true 0 q ≡ To e

module _ (s : List ℕ) (v room m used i x c u e : ℕ) (a : table_at s v room m used i ≡ Table x c u e) where
  good-rows : (y d n q : ℕ) → decode s i ≡ Number y n → bad_scheme m y ≡ false → decode s n ≡ Number d q → count_fault (most_rows_in v) room used y d ≡ 0
      → (r : Walk) → rows_from d (ones y) s v true 0 q ≡ r → entry_of y d (used + d * ones y) r ≡ Table x c u e → GoodTable s v room m used i x c u e
  good-rows y d n q p b z f (WalkFault w) r g = no_table (TableFault w) w x c u e refl g
  good-rows y d n q p b z f (To w) r g =
      let ex : y ≡ x = cc in
      let ec : d ≡ c = cc in
      let eu : used + d * ones y ≡ u = cc in
      let ee : w ≡ e = cc in
      record {
        n = n;
        q = q;
        scheme = rw ex at p;
        good = rw ex at b;
        count = rw ec at z;
        fits = rw (← ex, ← ec) f;
        cells = rw (← ex, ← ec) (sym eu);
        rows = rw (← ex, ← ec, ← ee) r;
      }

  good-count : (y n : ℕ) → decode s i ≡ Number y n → bad_scheme m y ≡ false → count_at s v room y used n ≡ Table x c u e
      → (d : Reading) → decode s n ≡ d → GoodTable s v room m used i x c u e
  good-count y n p b g (NumberFault k l) d = no_table _ (refusal_at k n l) x c u e (count-bad s v room y used n k l d) g
  good-count y n p b g (Number r q) d =
      elim (ℕ_discrete (count_fault (most_rows_in v) room used y r) 0) [
        | no h ↦ no_table _ (refusal_at (count_fault (most_rows_in v) room used y r) n 0) x c u e (count-fault s v room y used n r q d h) g
        | yes h ↦ good-rows y r n q p b d h (rows_from r (ones y) s v true 0 q) refl (sym (count-rows s v room y used n r q d h) ∙ g)
      ]

  good-scheme : (d : Reading) → decode s i ≡ d → GoodTable s v room m used i x c u e
  good-scheme (NumberFault k l) d = no_table _ (refusal_at k i l) x c u e (table-bad s v room m used i k l d) a
  good-scheme (Number y n) d = pick (bad_scheme m y) refl
    where
      pick : (b : Bool) → bad_scheme m y ≡ b → GoodTable s v room m used i x c u e
      pick true b = no_table _ (refusal_at 5 i 0) x c u e (table-scheme s v room m used i y n d b) a
      pick false b = good-count y n d b (sym (table-count s v room m used i y n d b) ∙ a) (decode s n) refl

  pub good-table : GoodTable s v room m used i x c u e
  good-table = good-scheme (decode s i) refl

-- No check of a catalogue refuses it.
pub good-fault : (s : List ℕ) (v room m used i x c u e : ℕ) → GoodTable s v room m used i x c u e → table_fault m room used x c ≡ 0
good-fault s v room m used i x c u e g =
    let k = fault-counted (most_rows_in v) room used x c g.fits in
    checks.table-count m room used x c g.good ∙ count-good most_rows room used x c (omega (arith, k.few, most-in v)) k.most k.room

pub good-clear : (s : List ℕ) (v room m used i x c u e : ℕ) → GoodTable s v room m used i x c u e → Clear m room used x c
good-clear s v room m used i x c u e g = fault-clear m room used x c (good-fault s v room m used i x c u e g)

-- ---- behind the last table

module _ (s : List ℕ) (v : ℕ) (cat : Catalogue) (i : ℕ) where
  pub end-over : i < length s → tables_end s v cat i ≡ refused (refusal_at 9 i 0)
  unfolding tables_end
  end-over h = rw (lt-ltb i (length s) h)

  pub end-needless : length s ≤ i → needless v cat ≡ true → tables_end s v cat i ≡ refused (refusal_at 20 0 0)
  unfolding tables_end
  end-needless h e = rw (le-ltb i (length s) h, e)

  pub end-good : length s ≤ i → needless v cat ≡ false → tables_end s v cat i ≡ record { verdict = Good; catalogue = filled cat }
  unfolding tables_end
  end-good h e = rw (le-ltb i (length s) h, e)

-- ---- the tables

module _ (s : List ℕ) (v room m n t used : ℕ) (xs cs : List ℕ) (i : ℕ) where
  pub tables-last : (k : ℕ) → k ≤ 0 → tables_from k s v room m n t used xs cs i ≡ tables_end s v (given m n xs cs) i
  unfolding tables_from
  tables-last zero z = refl
  tables-last (suc k) z = absurd (omega arith)

  pub tables-bad : (k : ℕ) (f : Fault) → 0 < k → table_at s v room m used i ≡ TableFault f → tables_from k s v room m n t used xs cs i ≡ refused f
  unfolding tables_from
  tables-bad zero f z e = absurd (omega arith)
  tables-bad (suc k) f z e = rw e

  pub tables_more : (k x c u e : ℕ) → 0 < k → table_at s v room m used i ≡ Table x c u e
      → tables_from k s v room m n t used xs cs i ≡ tables_from (k - 1) s v room m n (t + 1) u (set xs t x) (set cs t c) e
  unfolding tables_from
  tables_more zero x c u e z d = absurd (omega arith)
  tables_more (suc k) x c u e z d = rw (sub-one (suc k), d)

-- ---- the head

module _ (s : List ℕ) (i low high f : ℕ) where
  pub field-bad : (k l : ℕ) → decode s i ≡ NumberFault k l → field_at s i low high f ≡ FieldFault (refusal_at k i l)
  unfolding field_at
  field-bad k l e = rw e

  pub field_out : (x n : ℕ) → decode s i ≡ Number x n → outside low high x ≡ true → field_at s i low high f ≡ FieldFault (refusal_at f i 0)
  unfolding field_at
  field_out x n e h = rw (e, h)

  pub field_in : (x n : ℕ) → decode s i ≡ Number x n → outside low high x ≡ false → field_at s i low high f ≡ Value x n
  unfolding field_at
  field_in x n e h = rw (e, h)

pub field-unread : (s : List ℕ) (i low high k : ℕ) (f : Fault) → FieldFault f ≡ number_at s i → field_at s i low high k ≡ FieldFault f
field-unread s i low high k f e = let d = read-bad s i f e in field-bad s i low high k d.0 d.1 d.2 ∙ ap FieldFault (sym d.3)

-- the version that an image begins with, as the code reads it
pub version-in : (s : List ℕ) (n : ℕ) (v : Version) → decode s 0 ≡ Number (version_number v) n → field_at s 0 version_one version_two 3 ≡ Value (version_number v) n
version-in s n One d = field_in s 0 version_one version_two 3 version_one n d (inside version_one version_two version_one (omega arith) (omega arith))
version-in s n Two d = field_in s 0 version_one version_two 3 version_two n d (inside version_one version_two version_two (omega arith) (omega arith))

pub version-out : (s : List ℕ) (x n : ℕ) → decode s 0 ≡ Number x n → (x ≡ version_one → ⊥) → (x ≡ version_two → ⊥) → field_at s 0 version_one version_two 3 ≡ FieldFault (refusal_at 3 0 0)
version-out s x n d h k = field_out s 0 version_one version_two 3 x n d out
  where
    out : outside version_one version_two x ≡ true
    out = elim (dec_lt x version_one) [ yes l ↦ below version_one version_two x l | no l ↦ above version_one version_two x (omega arith) (omega arith) ]

pub no_field : {A : Type 0} (o : Field) (f : Fault) (x n : ℕ) → o ≡ FieldFault f → o ≡ Value x n → A
no_field o f x n a b = absurd (let z : ◌≡◌ {A = ℕ} 0 1 = cc in omega arith)

-- A field that is in its range was read there.
pub record GoodField (s : List ℕ) (i low high x n : ℕ) : Type 0 where
  pub low-bound : low ≤ x
  pub high-bound : x ≤ high
  pub read : decode s i ≡ Number x n

module _ (s : List ℕ) (i low high f x n : ℕ) (e : field_at s i low high f ≡ Value x n) where
  field-number : (d : Reading) → decode s i ≡ d → GoodField s i low high x n
  field-number (NumberFault k l) d = no_field _ (refusal_at k i l) x n (field-bad s i low high f k l d) e
  field-number (Number y m) d =
      elim (dec_lt y low) [
        | yes h ↦ no_field _ (refusal_at f i 0) x n (field_out s i low high f y m d (below low high y h)) e
        | no h ↦ elim (dec_lt high y) [
          | yes l ↦ no_field _ (refusal_at f i 0) x n (field_out s i low high f y m d (above low high y (omega arith) l)) e
          | no l ↦
              let a = field_in s i low high f y m d (inside low high y (omega arith) (omega arith)) in
              let p : y ≡ x = cc in
              let q : m ≡ n = cc in
              record { low-bound = omega arith; high-bound = omega arith; read = rw (p, q) at d }
        ]
      ]

  pub good-field : GoodField s i low high x n
  good-field = field-number (decode s i) refl

module _ (s : List ℕ) (room : ℕ) where
  pub head-version : (f : Fault) → field_at s 0 version_one version_two 3 ≡ FieldFault f → scan_of s room ≡ refused f
  unfolding scan_of
  head-version f e = rw e

  module _ (v i : ℕ) (a : field_at s 0 version_one version_two 3 ≡ Value v i) where
    pub head-m : (f : Fault) → field_at s i 1 most_attributes 4 ≡ FieldFault f → scan_of s room ≡ refused f
    unfolding scan_of
    head-m f e = rw (a, e)

    module _ (m j : ℕ) (b : field_at s i 1 most_attributes 4 ≡ Value m j) where
      pub head-n : (f : Fault) → field_at s j 1 most_tables 4 ≡ FieldFault f → scan_of s room ≡ refused f
      unfolding scan_of
      head-n f e = rw (a, b, e)

      pub head-good : (n k : ℕ) → field_at s j 1 most_tables 4 ≡ Value n k
          → scan_of s room ≡ tables_from n s v room m n 0 0 (replicate 8 0) (replicate 8 0) k
      unfolding scan_of
      head-good n k e = rw (a, b, e)
