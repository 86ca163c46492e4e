-- Writing what was loaded: a number has one form only, so each part that was read without fault is what the writer puts there. Assumes nothing.
use Prim.Native.Nat.{ℕ, zero, suc, ◌+◌, ◌-◌, ◌*◌, ◌^◌, ◌<◌, ◌≤◌}
use native.Mathlib.Decide.{dec_lt}
use native.Mathlib.Omega.{arith}
use mathlib.Core.Path.{◌≡◌, refl, sym, ap, subst, ◌∙◌}
use mathlib.Core.Logic.{◌⊎◌, inl, inr, ⊎_elim}
use mathlib.Core.Bool.{Bool, true, false, cond, ◌||◌}
use mathlib.Core.List.{List, ◌++◌, append_assoc}
use lib.ListN.{length, get_or, set, drop, replicate, length-append, length-drop, length-set, length-replicate, get_or-replicate, take-append-drop, drop_of_length-le}
use lib.Seq.{ext_get_or, get_or-drop, get_or-set_same, get_or-set_other}
use lib.Count.{ones}
use lib.Dec.{ltb}
use borrow.Author.Tests.{lt-leb, ltb-false}
use Rattle.laws.specs.Lists.{part}
use Rattle.laws.proofs.TestLaws.{or-none}
use Rattle.numbers.specs.Numbers.{encode, decode}
use Rattle.numbers.proofs.RoundTrip.{encode-decode}
use Rattle.tables.specs.declared.Catalogue.{Catalogue}
use Rattle.tables.specs.Catalogues.{scheme_of, count_of, first_cell, filled, given}
use Rattle.tables.specs.Sizes.{most_attributes, most_tables, version_one, version_two}
use Rattle.tables.specs.Rows.{below}
use Rattle.tables.specs.Versions.{some_long, version_of, most_rows_in, needless}
use Rattle.tables.proofs.VersionLaws.{version-only}
use Rattle.tables.specs.Checks.{outside, size_fault, tables_fault, Lawful}
use Rattle.tables.proofs.CatalogueLaws.{cells-next}
use Rattle.tables.proofs.CheckLaws.{fault_at, fault-counted, fault-clear, tables-none, tables_more, InRange, inside, size-good, shape-split}
use Rattle.tables.proofs.StoredLaws.{stored-lawful}
use Rattle.loader.specs.Faults.{To, Fault, Field, Value, FieldFault, Entry, Table, TableFault, Loaded}
use Rattle.loader.specs.Reading.{refusal_at, run_end, codes, rows_from}
use Rattle.loader.specs.Load.{first_table, field_at, on_field, table_at, on_entry, refused, tables_end, tables_from, scan_of, tables_codes}
use Rattle.writer.specs.Write.{encodes, cells_of, tables_image, too_high, rows_fault, rows_refusal, cells_fault}
use Rattle.image.specs.RoundTrip.{front, trimmed, found}
use Rattle.loader.proofs.LoadLaws.{good-table, good-fault}
use Rattle.writer.proofs.AcceptLaws.{cells-none, cells-more}
use Rattle.loader.proofs.ReadingLaws.{number-was, run-was, run-add, rows-was, rows_run, row-cells}
use Rattle.image.proofs.ThereLaws.{part-stands, one_byte, table-codes}

-- ---- an answer that is no refusal came by the way that goes on

module _ {A : Type 0} (a : A) where
  entry-was : {P : Type 0} (d : Entry) (go : ℕ → ℕ → ℕ → ℕ → A) (refuse : Fault → A) → ((k : Fault) → refuse k ≡ a → ⊥) → on_entry d go refuse ≡ a
      → ((x c u e : ℕ) → d ≡ Table x c u e → go x c u e ≡ a → P) → P
  entry-was (Table x c u e) go refuse z q f = f x c u e refl q
  entry-was (TableFault k) go refuse z q f = absurd (z k q)

  cond-was : (b : Bool) (x y : A) → (x ≡ a → ⊥) → cond b x y ≡ a → (b ≡ false) × (y ≡ a)
  cond-was true x y z e = absurd (z e)
  cond-was false x y z e = (refl, e)

no_field : (f : Fault) (x n : ℕ) → FieldFault f ≡ Value x n → ⊥
no_field f x n q = let z : ◌≡◌ {A = ℕ} 0 1 = cc in omega arith

no-good : (f : Fault) (cat : Catalogue) → refused f ≡ found cat → ⊥
no-good f cat q =
    let v = ap (λ (l : Loaded). l.verdict) q in
    let z : ◌≡◌ {A = ℕ} 0 1 = cc in
    omega arith

field-was : {P : Type 0} (d : Field) (go : ℕ → ℕ → Loaded) (cat : Catalogue) → on_field d go ≡ found cat → ((x n : ℕ) → d ≡ Value x n → go x n ≡ found cat → P) → P
field-was (Value x n) go cat e f = f x n refl e
field-was (FieldFault k) go cat e f = absurd (no-good k cat e)

-- ---- numbers one after the other

-- What k numbers that were read say of the bytes.
record Run (k : ℕ) (s : List ℕ) (i e : ℕ) : Type 0 where
  bytes : drop i s ≡ encodes (codes k s i) ++ drop e s
  low : too_high (codes k s i) ≡ false
  long : length (codes k s i) ≡ k

run-bytes : (s : List ℕ) → ((k : ℕ) → get_or s k 0 < 256) → (k i e : ℕ) → run_end k s i ≡ To e → Run k s i e
unfolding run_end codes encodes too_high
run-bytes s by zero i e q = let p : i ≡ e = cc in record { bytes = rw p; low = refl; long = refl }
run-bytes s by (suc k) i e q =
    let t = run-was k s i e q in
    let x = t.0 in
    let f = encode-decode s i x t.1 by t.2 in
    let r = run-bytes s by k t.1 e t.3 in
    record {
      bytes = rw (t.2, f.bytes, r.bytes) (sym (append_assoc (encode x) (encodes (codes k s t.1)) (drop e s)));
      low = rw (t.2, lt-leb (2 ^ 63) x f.small) r.low;
      long = rw t.2 (ap suc r.long);
    }

-- ---- rows

-- Rows that were read without fault are not refused by the writer, where their codes lie in the cells from `at` on. `same`: the row before them was written
-- as it was read, unless they are the first.
rows_back : (s : List ℕ) → ((k : ℕ) → get_or s k 0 < 256) → (v k w : ℕ) (cells : List ℕ) (first : Bool) (before at p i e : ℕ) (r : List ℕ) → rows_from k w s v first p i ≡ To e
    → ((ys : List ℕ) → (first || below (part before w cells) ys) ≡ (first || below (codes w s p) ys)) → drop at cells ≡ codes (k * w) s i ++ r
    → rows_fault k w cells v first before at ≡ 0
unfolding rows_fault
rows_back s by v zero w cells first before at p i e r q same d = refl
rows_back s by v (suc k) w cells first before at p i e r q same d =
    let t = rows-was k w s v first p i e q in
    let n = t.0 in
    let row = codes w s i in
    let run = run-bytes s by w i n t.1 in
    let all : drop at cells ≡ row ++ (codes (k * w) s n ++ r) = d ∙ rw (row-cells k w, (run-add w (k * w) s i n t.1).1) (append_assoc row (codes (k * w) s n) r) in
    let here = part-stands cells at w row (codes (k * w) s n ++ r) run.long all in
    let later = rows_back s by v k w cells false at (at + w) i n e r t.4 (λ ys. rw here.0) here.1 in
    rw (here.0, run.low, t.2, same row, t.3) later

-- ---- the catalogue

-- l is xs but for its entries t to t + k - 1.
record Kept (l xs : List ℕ) (t k : ℕ) : Type 0 where
  long : length l ≡ length xs
  same : (u : ℕ) → (u < t) ⊎ (t + k ≤ u) → get_or l u 0 ≡ get_or xs u 0

kept-all : {l xs : List ℕ} (t : ℕ) → l ≡ xs → Kept l xs t 0
kept-all t e = record { long = ap length e; same = λ u h. ap (λ (l : List ℕ). get_or l u 0) e }

kept_set : (l xs : List ℕ) (t k x : ℕ) → Kept l (set xs t x) (t + 1) k → Kept l xs t (suc k)
kept_set l xs t k x K =
    record {
      long = K.long ∙ length-set xs t x;
      same = λ u h.
          ⊎_elim
          (λ (b : u < t). K.same u (inl (omega arith)) ∙ get_or-set_other xs t u x 0 (λ z. omega arith))
          (λ (b : t + suc k ≤ u). K.same u (inr (omega arith)) ∙ get_or-set_other xs t u x 0 (λ z. omega arith))
          h;
    }

-- Of a list that was zeros but for its first n entries, those are all there is.
kept-front : (l : List ℕ) (n : ℕ) → n ≤ most_tables → Kept l (replicate most_tables 0) 0 n → front n l ≡ l
unfolding front
kept-front l n h K =
    let zeros : replicate (most_tables - n) 0 ≡ drop n l =
    ext_get_or 0 (replicate (most_tables - n) 0) (drop n l) (length-replicate (most_tables - n) 0 ∙ sym (length-drop n l ∙ ap (λ (k : ℕ). k - n) K.long))
    (λ i b.
    let few : i < most_tables - n = rw length-replicate at b in
    get_or-replicate (most_tables - n) i 0 0 few ∙ sym (get_or-drop n l i 0 ∙ K.same (n + i) (inr (omega arith)) ∙ get_or-replicate most_tables (n + i) 0 0 (omega arith))) in
    rw zeros (take-append-drop n l)

-- The catalogue with its places and masks worked out anew.
abbrev refilled : Catalogue → Catalogue
refilled cat = filled (given cat.m cat.n cat.schemes cat.rows)

-- A good answer has the m and n given, keeps the entries that no table sets, and is filled.
record Keeps (v : ℕ) (cat : Catalogue) (m n t k : ℕ) (xs cs : List ℕ) : Type 0 where
  m-is : cat.m ≡ m
  n-is : cat.n ≡ n
  schemes : Kept cat.schemes xs t k
  rows : Kept cat.rows cs t k
  stored : cat ≡ refilled cat
  needed : needless v cat ≡ false

keeps-trimmed : (v : ℕ) (cat : Catalogue) (m n : ℕ) → n ≤ most_tables → Keeps v cat m n 0 n (replicate most_tables 0) (replicate most_tables 0) → trimmed cat ≡ cat
keeps-trimmed v cat m n h K =
    let few : cat.n ≤ most_tables = omega (arith, K.n-is) in
    let xs = kept-front cat.schemes cat.n few (rw (← K.n-is) at K.schemes) in
    let cs = kept-front cat.rows cat.n few (rw (← K.n-is) at K.rows) in
    rw (xs, cs) (sym K.stored)

module _ (s : List ℕ) (v room m n : ℕ) (cat : Catalogue) where
  -- Behind the last table nothing lies, the catalogue is the one given, and the version is needed for it.
  end-was : (t used : ℕ) (xs cs : List ℕ) (i : ℕ) → tables_from zero s v room m n t used xs cs i ≡ found cat
      → (length s ≤ i) × (cat ≡ filled (given m n xs cs)) × (needless v cat ≡ false)
  unfolding tables_from tables_end needless some_long
  end-was t used xs cs i q =
      let G = given m n xs cs in
      let c = cond-was (found cat) (ltb i (length s)) (refused (refusal_at 9 i 0)) _ (no-good (refusal_at 9 i 0) cat) q in
      let d = cond-was (found cat) (needless v G) (refused (refusal_at 20 0 0)) (found (filled G)) (no-good (refusal_at 20 0 0) cat) c.1 in
      let e : cat ≡ filled G = sym (ap (λ (l : Loaded). l.catalogue) d.1) in
      (ltb-false i (length s) c.0, e, subst (λ (x : Catalogue). needless v x ≡ false) (sym e) d.0)

  more-was : {P : Type 0} (k t used : ℕ) (xs cs : List ℕ) (i : ℕ) → tables_from (suc k) s v room m n t used xs cs i ≡ found cat
      → ((x c u e : ℕ) → table_at s v room m used i ≡ Table x c u e → tables_from k s v room m n (t + 1) u (set xs t x) (set cs t c) e ≡ found cat → P) → P
  unfolding tables_from
  more-was k t used xs cs i q f =
      entry-was (found cat) (table_at s v room m used i) (λ x c u e. tables_from k s v room m n (t + 1) u (set xs t x) (set cs t c) e) refused (λ f. no-good f cat) q f

  keeps : (k t used : ℕ) (xs cs : List ℕ) (i : ℕ) → tables_from k s v room m n t used xs cs i ≡ found cat → Keeps v cat m n t k xs cs
  keeps zero t used xs cs i q =
      let e = (end-was t used xs cs i q).1 in
      record {
        m-is = ap (λ (d : Catalogue). d.m) e;
        n-is = ap (λ (d : Catalogue). d.n) e;
        schemes = kept-all t (ap (λ (d : Catalogue). d.schemes) e);
        rows = kept-all t (ap (λ (d : Catalogue). d.rows) e);
        stored = e ∙ sym (ap refilled e);
        needed = (end-was t used xs cs i q).2;
      }
  keeps (suc k) t used xs cs i q =
      more-was k t used xs cs i q
      (λ x c u e d g.
      let K = keeps k (t + 1) u (set xs t x) (set cs t c) e g in
      record {
        m-is = K.m-is;
        n-is = K.n-is;
        schemes = kept_set cat.schemes xs t k x K.schemes;
        rows = kept_set cat.rows cs t k c K.rows;
        stored = K.stored;
        needed = K.needed;
      })

-- ---- the tables

-- k tables from table t on are read from place i on as the catalogue has them, and nothing lies behind them.
pub data Tables (s : List ℕ) (v room : ℕ) (cat : Catalogue) : ℕ → ℕ → ℕ → Type 0 where
  none : {t i : ℕ} → length s ≤ i → Tables s v room cat 0 t i
  more : {k t i e : ℕ} → table_at s v room cat.m (first_cell cat t) i ≡ Table (scheme_of cat t) (count_of cat t) (first_cell cat (t + 1)) e
      → Tables s v room cat k (t + 1) e → Tables s v room cat (suc k) t i

-- An entry that was set and then kept.
kept_here : (l xs : List ℕ) (t k x : ℕ) → t < length xs → Kept l (set xs t x) (t + 1) k → get_or l t 0 ≡ x
kept_here l xs t k x h K = K.same t (inl (omega arith)) ∙ get_or-set_same xs t x 0 h

tables-were : (s : List ℕ) (v room n : ℕ) (cat : Catalogue) (k t : ℕ) (xs cs : List ℕ) (i : ℕ) → t + k ≤ length xs → t + k ≤ length cs
    → tables_from k s v room cat.m n t (first_cell cat t) xs cs i ≡ found cat → Tables s v room cat k t i
tables-were s v room n cat zero t xs cs i lx lc q = none (end-was s v room cat.m n cat t (first_cell cat t) xs cs i q).0
tables-were s v room n cat (suc k) t xs cs i lx lc q =
    more-was s v room cat.m n cat k t (first_cell cat t) xs cs i q
    (λ x c u e d g.
    let K = keeps s v room cat.m n cat k (t + 1) u (set xs t x) (set cs t c) e g in
    let ex : scheme_of cat t ≡ x = kept_here cat.schemes xs t k x (omega arith) K.schemes in
    let ec : count_of cat t ≡ c = kept_here cat.rows cs t k c (omega arith) K.rows in
    let eu : first_cell cat (t + 1) ≡ u = cells-next cat t ∙ rw (ex, ec) (sym (good-table s v room cat.m (first_cell cat t) i x c u e d).cells) in
    more (rw (ex, ec, eu) d)
    (tables-were s v room n cat k (t + 1) (set xs t x) (set cs t c) e (rw length-set (omega arith)) (rw length-set (omega arith)) (rw eu g)))

-- How many cells table t has.
abbrev cell_count : Catalogue → ℕ → ℕ
cell_count cat t = count_of cat t * ones (scheme_of cat t)

-- What table t, read from place i on, says: its bytes are those of its numbers, its codes lie before those behind it, and no check refuses it.
record TableRead (s : List ℕ) (v room : ℕ) (cat : Catalogue) (t i e : ℕ) : Type 0 where
  q : ℕ
  bytes : drop i s ≡ encode (scheme_of cat t) ++ (encode (count_of cat t) ++ (encodes (codes (cell_count cat t) s q) ++ drop e s))
  long : length (codes (cell_count cat t) s q) ≡ cell_count cat t
  all : (k : ℕ) → tables_codes (suc k) s i ≡ codes (cell_count cat t) s q ++ tables_codes k s e
  clear : fault_at cat room t ≡ 0
  rows : rows_from (count_of cat t) (ones (scheme_of cat t)) s v true 0 q ≡ To e

module _ (s : List ℕ) (by : (k : ℕ) → get_or s k 0 < 256) (v room : ℕ) (cat : Catalogue) where
  table-read : (t i u e : ℕ) → table_at s v room cat.m (first_cell cat t) i ≡ Table (scheme_of cat t) (count_of cat t) u e → TableRead s v room cat t i e
  table-read t i u e d =
      let x = scheme_of cat t in
      let c = count_of cat t in
      let b = good-table s v room cat.m (first_cell cat t) i x c u e d in
      let end = rows_run c (ones x) s v true 0 b.q e b.rows in
      let run = run-bytes s by (c * ones x) b.q e end in
      record {
        q = b.q;
        bytes = rw ((encode-decode s i x b.n by b.scheme).bytes, (encode-decode s b.n c b.q by b.count).bytes, run.bytes);
        long = run.long;
        all = λ k. table-codes s k i x b.n c b.q e b.scheme b.count end;
        clear = good-fault s v room cat.m (first_cell cat t) i x c u e b;
        rows = b.rows;
      }

  -- Each table has as many rows as the version allows.
  tables-allowed : (k t i : ℕ) → Tables s v room cat k t i → (u : ℕ) → t ≤ u → u < t + k → count_of cat u ≤ most_rows_in v
  tables-allowed zero t i T u l h = absurd (omega arith)
  tables-allowed (suc k) t i (more {e = e} d T) u l h =
      elim (dec_lt t u) [
        | yes j ↦ tables-allowed k (t + 1) e T u (omega arith) (omega arith)
        | no j ↦
            let q : t ≡ u = omega arith in
            let g = good-table s v room cat.m (first_cell cat t) i (scheme_of cat t) (count_of cat t) (first_cell cat (t + 1)) e d in
            rw q at (fault-counted (most_rows_in v) room (first_cell cat t) (scheme_of cat t) (count_of cat t) g.fits).few
      ]

  -- The tables have as many codes as cells, and fit in the room.
  pub tables-fit : (k t i n : ℕ) → t + k ≡ n → first_cell cat t ≤ room → Tables s v room cat k t i
      → (first_cell cat t + length (tables_codes k s i) ≡ first_cell cat n) × (first_cell cat n ≤ room)
  unfolding tables_codes
  tables-fit zero t i n e l (none h) = let q : t ≡ n = omega arith in (rw q (omega arith), rw (← q) l)
  tables-fit (suc k) t i n e l (more {e = e'} d T) =
      let b = table-read t i (first_cell cat (t + 1)) e' d in
      let fits = (fault-clear cat.m room (first_cell cat t) (scheme_of cat t) (count_of cat t) b.clear).room in
      let f = tables-fit k (t + 1) e' n (omega arith) (omega (arith, cells-next cat t)) T in
      (rw (b.all k) (simp length-append (omega (arith, cells-next cat t, f.0, b.long))), f.1)

  -- Where the codes from table t on lie in the cells: the table's cells are its codes, no row is refused, and behind them lie the later codes.
  table-back : v ≡ version_of cat → (cells r : List ℕ) (k t i e : ℕ) (b : TableRead s v room cat t i e)
      → drop (first_cell cat t) cells ≡ tables_codes (suc k) s i ++ r
      → (cells_of cat cells t ≡ codes (cell_count cat t) s b.q) × (rows_refusal cat cells t ≡ 0) × (drop (first_cell cat (t + 1)) cells ≡ tables_codes k s e ++ r)
  table-back carried cells r k t i e b d =
      let all : drop (first_cell cat t) cells ≡ codes (cell_count cat t) s b.q ++ (tables_codes k s e ++ r) = d ∙ rw (b.all k) (append_assoc (codes (cell_count cat t) s b.q) (tables_codes k s e) r) in
      let here = part-stands cells (first_cell cat t) (cell_count cat t) (codes (cell_count cat t) s b.q) (tables_codes k s e ++ r) b.long all in
      let rows = rows_back s by v (count_of cat t) (ones (scheme_of cat t)) cells true 0 (first_cell cat t) 0 b.q e (tables_codes k s e ++ r) b.rows (λ ys. refl) all in
      let written = subst (λ (x : ℕ). rows_fault (count_of cat t) (ones (scheme_of cat t)) cells x true 0 (first_cell cat t) ≡ 0) carried rows in
      (here.0, written, rw (cells-next cat t) here.1)

  -- No table is refused,
  pub tables-clear : (k t i : ℕ) → Tables s v room cat k t i → tables_fault k cat room t ≡ 0
  tables-clear zero t i T = tables-none cat room 0 t (omega arith)
  tables-clear (suc k) t i (more {e = e} h T) =
      tables_more cat room (suc k) k t refl (table-read t i (first_cell cat (t + 1)) e h).clear ∙ tables-clear k (t + 1) e T

  -- nor a row of theirs, where their codes lie in the cells; and there the writer makes of the tables the bytes that were read.
  pub tables-back : v ≡ version_of cat → (cells r : List ℕ) (k t i : ℕ) → Tables s v room cat k t i → drop (first_cell cat t) cells ≡ tables_codes k s i ++ r
      → (drop i s ≡ tables_image k cat cells t) × (cells_fault k cat cells t ≡ 0)
  unfolding tables_image
  tables-back carried cells r zero t i (none h) d = (drop_of_length-le s h, cells-none cat cells 0 t (omega arith))
  tables-back carried cells r (suc k) t i (more {e = e} h T) d =
      let b = table-read t i (first_cell cat (t + 1)) e h in
      let c = table-back carried cells r k t i e b d in
      let later = tables-back carried cells r k (t + 1) e T c.2 in
      (rw (c.0, ← later.0) b.bytes, cells-more cat cells (suc k) k t refl c.1 ∙ later.1)

-- ---- the head

-- What a number of the head says: it lies in its range, and its one byte is that of the number.
record FieldBack (s : List ℕ) (i low high x n : ℕ) : Type 0 where
  above : low ≤ x
  under : x ≤ high
  next : n ≡ i + 1
  bytes : drop i s ≡ encode x ++ drop n s

inside-was : (low high x : ℕ) → outside low high x ≡ false → (low ≤ x) × (x ≤ high)
inside-was low high x e =
    let c = or-none (ltb x low) (ltb high x) e in
    (ltb-false x low c.0, ltb-false high x c.1)

field_back : (s : List ℕ) → ((k : ℕ) → get_or s k 0 < 256) → (i low high f x n : ℕ) → high < 128 → field_at s i low high f ≡ Value x n → FieldBack s i low high x n
unfolding field_at
field_back s by i low high f x n h e =
    number-was (Value x n) (decode s i) (λ y k. cond (outside low high y) (FieldFault (refusal_at f i 0)) (Value y k)) (λ k c. FieldFault (refusal_at k i c)) (λ k c. no_field (refusal_at k i c) x n) e
    (λ y k d g.
    let c = cond-was (Value x n) (outside low high y) (FieldFault (refusal_at f i 0)) (Value y k) (no_field (refusal_at f i 0) x n) g in
    let v : Value y k ≡ Value x n = c.1 in
    let ex : y ≡ x = cc in
    let en : k ≡ n = cc in
    let r = inside-was low high y c.0 in
    let o = encode-decode s i y k by d in
    record { above = omega arith; under = omega arith; next = sym en ∙ o.next ∙ rw (one_byte y (omega arith)); bytes = rw (← ex, ← en) o.bytes })

-- What a good scan says: m and n are in range, the head's bytes are theirs, and behind it the tables are read. Each list has eight entries, 0 from n on.
pub record ScanBack (s : List ℕ) (room : ℕ) (cat : Catalogue) : Type 0 where
  pub range : InRange cat.m cat.n
  pub v : ℕ
  pub carried : v ≡ version_of cat
  pub bytes : s ≡ encode (version_of cat) ++ (encode cat.m ++ (encode cat.n ++ drop first_table s))
  pub tables : Tables s v room cat cat.n 0 first_table
  pub schemes : length cat.schemes ≡ most_tables
  pub rows : length cat.rows ≡ most_tables
  pub trim : trimmed cat ≡ cat
  pub lawful : Lawful cat room

range-good : {m n : ℕ} → InRange m n → size_fault m n ≡ 0
range-good {m = m} {n = n} R = size-good m n (inside 1 most_attributes m R.m-low R.m-high) (inside 1 most_tables n R.n-low R.n-high)

one-or-two : (v : ℕ) → version_one ≤ v → v ≤ version_two → (v ≡ version_one) ⊎ (v ≡ version_two)
one-or-two v l h =
    elim (dec_lt version_one v) [
      | yes b ↦ inr (omega arith)
      | no b ↦ inl (omega arith)
    ]

head-back : (s : List ℕ) → ((k : ℕ) → get_or s k 0 < 256) → (room v i m j n k : ℕ) (cat : Catalogue) → FieldBack s 0 version_one version_two v i → FieldBack s i 1 most_attributes m j → FieldBack s j 1 most_tables n k
    → tables_from n s v room m n 0 0 (replicate most_tables 0) (replicate most_tables 0) k ≡ found cat → ScanBack s room cat
unfolding first_cell
head-back s by room v i m j n k cat a b c e =
    let K = keeps s v room m n cat n 0 0 (replicate most_tables 0) (replicate most_tables 0) k e in
    let ek : k ≡ first_table = omega (arith, a.next, b.next, c.next) in
    let all : s ≡ encode v ++ (encode m ++ (encode n ++ drop k s)) = a.bytes ∙ ap (λ (l : List ℕ). encode v ++ l) (b.bytes ∙ ap (λ (l : List ℕ). encode m ++ l) c.bytes) in
    let same-m = subst (λ (x : ℕ). tables_from n s v room x n 0 0 (replicate most_tables 0) (replicate most_tables 0) k ≡ found cat) (sym K.m-is) e in
    let T = tables-were s v room n cat n 0 (replicate most_tables 0) (replicate most_tables 0) k (omega (arith, c.under)) (omega (arith, c.under)) same-m in
    let same-n : n ≡ cat.n = sym K.n-is in
    let ev : v ≡ version_of cat =
    version-only cat v (one-or-two v a.above a.under)
    (λ t l. tables-allowed s by v room cat n 0 k T t (omega arith) (omega (arith, same-n))) K.needed in
    let R : InRange cat.m cat.n = rw (K.m-is, K.n-is) (record { m-low = b.above; m-high = b.under; n-low = c.above; n-high = c.under }) in
    let clear : tables_fault cat.n cat room 0 ≡ 0 = subst (λ (x : ℕ). tables_fault x cat room 0 ≡ 0) (sym K.n-is) (tables-clear s by v room cat n 0 k T) in
    record {
      range = R;
      v = v;
      carried = ev;
      bytes = rw (ev, ← K.m-is, ← K.n-is, ek) at all;
      tables = rw (← K.n-is, ek) at T;
      schemes = K.schemes.long;
      rows = K.rows.long;
      trim = keeps-trimmed v cat m n c.under K;
      lawful = stored-lawful cat (given cat.m cat.n cat.schemes cat.rows) room K.stored ((shape-split cat room).1 (range-good R, clear));
    }

pub scan-back : (s : List ℕ) → ((k : ℕ) → get_or s k 0 < 256) → (room : ℕ) (cat : Catalogue) → scan_of s room ≡ found cat → ScanBack s room cat
unfolding scan_of
scan-back s by room cat e =
    let last : ℕ → ℕ → ℕ → ℕ → Loaded = λ v m n k. tables_from n s v room m n 0 0 (replicate most_tables 0) (replicate most_tables 0) k in
    field-was (field_at s 0 version_one version_two 3) (λ v i. on_field (field_at s i 1 most_attributes 4) (λ m j. on_field (field_at s j 1 most_tables 4) (last v m))) cat e
    (λ v i a ea. field-was (field_at s i 1 most_attributes 4) (λ m j. on_field (field_at s j 1 most_tables 4) (last v m)) cat ea
    (λ m j b eb. field-was (field_at s j 1 most_tables 4) (last v m) cat eb
    (λ n k c ec.
    head-back s by room v i m j n k cat (field_back s by 0 version_one version_two 3 v i (omega arith) a) (field_back s by i 1 most_attributes 4 m j (omega arith) b)
    (field_back s by j 1 most_tables 4 n k (omega arith) c) ec)))
