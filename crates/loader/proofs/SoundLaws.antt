-- What the second pass may go by: a good first pass says of each table that its numbers can be read and that its cells have room. Assumes nothing.
use Prim.Native.Nat.{ℕ, zero, suc, ◌+◌, ◌-◌, ◌*◌, ◌<◌, ◌≤◌}
use native.Mathlib.Omega.{arith}
use native.Mathlib.Numerals.{sub-one}
use native.Mathlib.Decide.{dec_lt}
use mathlib.Core.Path.{◌≡◌, refl, sym, ap, ◌∙◌}
use mathlib.Core.List.{List, [], ◌++◌, append-nil}
use Rattle.laws.specs.Lists.{put, over}
use mathlib.Core.Bool.{Bool, true, false}
use lib.ListN.{length, set, get_or, replicate, take, drop, length-take, length-drop, drop_of_length-le}
use lib.Count.{ones}
use Rattle.numbers.specs.Numbers.{decode}
use Rattle.numbers.specs.Readings.{Number}
use Rattle.numbers.proofs.EncodeLaws.{encode-last}
use Rattle.numbers.proofs.RoundTrip.{encode-decode}
use Rattle.tables.specs.declared.Catalogue.{Catalogue}
use Rattle.tables.specs.Sizes.{most_attributes, most_tables, most_rows, version_one, version_two}
use Rattle.tables.specs.Catalogues.{filled, given}
use Rattle.tables.specs.Versions.{needless}
use Rattle.std.specs.Prelude.{Result, IsOk}
use Rattle.numbers.specs.declared.Number.{Number as NumberRead}
use Rattle.loader.specs.declared.Fault.{Fault as FaultMet}
use Rattle.loader.specs.Faults.{field_of, Fault, To, Field, Value, FieldFault, Entry, Table, TableFault, Good, Refused, Loaded}
use Rattle.loader.specs.Reading.{refusal_at, number_at, run_end, codes}
use Rattle.loader.specs.Load.{first_table, field_at, table_at, tables_end, tables_from, scan_of, tables_codes, Sound, none, more, Fillable}
use Rattle.loader.proofs.ReadingLaws.{ok-read, codes-length, rows_run}
use Rattle.loader.proofs.LoadLaws.{GoodTable, good-table, good-clear, end-over, end-needless, end-good, tables-last, tables-bad, tables_more, good-field, head-version, head-m, head-n, head-good}

-- ---- the codes of the tables

pub codes-end : (k : ℕ) (s : List ℕ) (i : ℕ) → k ≤ 0 → tables_codes k s i ≡ []
unfolding tables_codes
codes-end zero s i z = refl
codes-end (suc k) s i z = absurd (omega arith)

pub codes-table : (k : ℕ) (s : List ℕ) (i x n c q e : ℕ) → 0 < k → decode s i ≡ Number x n → decode s n ≡ Number c q → run_end (c * ones x) s q ≡ To e
    → tables_codes k s i ≡ codes (c * ones x) s q ++ tables_codes (k - 1) s e
unfolding tables_codes
codes-table zero s i x n c q e z a b d = absurd (omega arith)
codes-table (suc k) s i x n c q e z a b d = rw (sub-one (suc k), a, b, d)

-- The part of xs from a to e was lent, and came back as ys, which bs fills. The left side is what the borrow checker says of the slice.
pub part-filled : (a e : ℕ) (xs bs ys : List ℕ) → e ≤ length xs → a + length bs ≡ e → ys ≡ put bs (take (e - a) (drop a xs))
    → take a xs ++ (ys ++ drop (e - a) (drop a xs)) ≡ over a bs xs
part-filled a e xs bs ys h k q =
    let n : e - a ≡ length bs = omega arith in
    let l : length (take (e - a) (drop a xs)) ≡ length bs = simp (length-take, length-drop) (omega arith) in
    let z : drop (length bs) (take (e - a) (drop a xs)) ≡ [] = drop_of_length-le (take (e - a) (drop a xs)) {i = length bs} (omega arith) in
    rw (q, z, append-nil, n)

-- ---- the next table of a sound image

pub record Next (s : List ℕ) (v room m k used i : ℕ) : Type 0 where
  pub x : ℕ
  pub c : ℕ
  pub u : ℕ
  pub e : ℕ
  pub table : GoodTable s v room m used i x c u e
  pub rest : Sound s v room m (k - 1) u e

pub sound-next : (s : List ℕ) (v room m k used i : ℕ) → 0 < k → Sound s v room m k used i → Next s v room m k used i
sound-next s v room m zero used i z h = absurd (omega arith)
sound-next s v room m (suc k) used i z (more {x = x} {c = c} {u = u} {e = e} t h) =
    record { x = x; c = c; u = u; e = e; table = good-table s v room m used i x c u e t; rest = rw (sub-one (suc k)) h }

-- What a turn of the second pass goes by, in its own terms: w is the width that it found.
pub record Turn (s : List ℕ) (room k used i c q w : ℕ) : Type 0 where
  pub e : ℕ
  pub few : c ≤ most_rows
  pub room-left : used + c * w ≤ room
  pub rows : run_end (c * w) s q ≡ To e
  pub rest : Fillable s room (k - 1) (used + c * w) e
  pub all : tables_codes k s i ≡ codes (c * w) s q ++ tables_codes (k - 1) s e
  pub long : length (codes (c * w) s q) ≡ c * w

module _ (s : List ℕ) (room k used i : ℕ) (z : 0 < k) (F : Fillable s room k used i) where
  next : Next s F.0 room F.1 k used i
  next = sound-next s F.0 room F.1 k used i z F.2

  -- its scheme can be read
  pub scheme-ok : (r : Result NumberRead FaultMet) → field_of r ≡ number_at s i → IsOk r
  scheme-ok r e = ok-read r s i _ _ e next.table.scheme

  -- and its count behind the scheme
  pub count-ok : (x n : ℕ) → decode s i ≡ Number x n → (r : Result NumberRead FaultMet) → field_of r ≡ number_at s n → IsOk r
  count-ok x n a r e =
      let b = next.table.scheme in
      let q : next.table.n ≡ n = cc in
      ok-read r s n _ _ e (rw q at next.table.count)

  pub turn : (x n c q w : ℕ) → decode s i ≡ Number x n → decode s n ≡ Number c q → w ≡ ones x → Turn s room k used i c q w
  turn x n c q w a b y =
      let h = next in
      let a' = h.table.scheme in
      let en : n ≡ h.table.n = cc in
      let ex : x ≡ h.x = cc in
      let b' : decode s n ≡ Number h.c h.table.q = rw en h.table.count in
      let ec : c ≡ h.c = cc in
      let eq : q ≡ h.table.q = cc in
      let ew : w ≡ ones h.x = y ∙ ap ones ex in
      let eu : used + c * w ≡ h.u = rw (ec, ew) (sym h.table.cells) in
      let k' = good-clear s F.0 room F.1 used i h.x h.c h.u h.e h.table in
      let r : run_end (c * w) s q ≡ To h.e = rw (ec, eq, ew) (rows_run h.c (ones h.x) s F.0 _ 0 h.table.q h.e h.table.rows) in
      record {
        e = h.e;
        few = rw ec k'.few;
        room-left = rw (ec, ew) k'.room;
        rows = r;
        rest = (F.0, F.1, rw eu h.rest);
        all = rw y (codes-table k s i x n c q h.e z a b (rw y at r));
        long = codes-length (c * w) s q h.e r;
      }

-- ---- a good first pass is sound

pub no-good : {A : Type 0} (r : Loaded) (f : Fault) → r.verdict ≡ Refused f → r.verdict ≡ Good → A
no-good r f a b = absurd (let z : ◌≡◌ {A = ℕ} 0 1 = cc in omega arith)

-- Behind the last table of a good image nothing lies, and its catalogue is the one given.
end-was : (s : List ℕ) (v : ℕ) (cat : Catalogue) (i : ℕ) → (tables_end s v cat i).verdict ≡ Good
    → (length s ≤ i) × (tables_end s v cat i ≡ record { verdict = Good; catalogue = filled cat })
end-was s v cat i g =
    elim (dec_lt i (length s)) [
      | yes h ↦ no-good (tables_end s v cat i) (refusal_at 9 i 0) (ap (λ (r : Loaded). r.verdict) (end-over s v cat i h)) g
      | no h ↦ by (needless v cat) refl (omega arith)
    ]
  where
    by : (b : Bool) → needless v cat ≡ b → length s ≤ i → (length s ≤ i) × (tables_end s v cat i ≡ record { verdict = Good; catalogue = filled cat })
    by true e h = no-good (tables_end s v cat i) (refusal_at 20 0 0) (ap (λ (r : Loaded). r.verdict) (end-needless s v cat i h e)) g
    by false e h = (h, end-good s v cat i h e)

-- What a good end of the tables is known to be.
pub record Begun (s : List ℕ) (v room m n k used i : ℕ) (r : Loaded) : Type 0 where
  pub m-is : r.catalogue.m ≡ m
  pub n-is : r.catalogue.n ≡ n
  pub sound : Sound s v room m k used i

begun : (k : ℕ) (s : List ℕ) (v room m n t used : ℕ) (xs cs : List ℕ) (i : ℕ) → (tables_from k s v room m n t used xs cs i).verdict ≡ Good
    → Begun s v room m n k used i (tables_from k s v room m n t used xs cs i)
begun zero s v room m n t used xs cs i g =
    let e = tables-last s v room m n t used xs cs i zero (omega arith) in
    let w = end-was s v (given m n xs cs) i (sym (ap (λ (r : Loaded). r.verdict) e) ∙ g) in
    let f = e ∙ w.1 in
    record { m-is = ap (λ (r : Loaded). r.catalogue.m) f; n-is = ap (λ (r : Loaded). r.catalogue.n) f; sound = none {used = used} {i = i} w.0 }
begun (suc k) s v room m n t used xs cs i g = pick (table_at s v room m used i) refl (λ x c u e. begun k s v room m n (t + 1) u (set xs t x) (set cs t c) e)
  where
    pick : (d : Entry) → table_at s v room m used i ≡ d
        → ((x c u e : ℕ) → (tables_from k s v room m n (t + 1) u (set xs t x) (set cs t c) e).verdict ≡ Good → Begun s v room m n k u e (tables_from k s v room m n (t + 1) u (set xs t x) (set cs t c) e))
        → Begun s v room m n (suc k) used i (tables_from (suc k) s v room m n t used xs cs i)
    pick (TableFault f) d ih = no-good (tables_from (suc k) s v room m n t used xs cs i) f (ap (λ (r : Loaded). r.verdict) (tables-bad s v room m n t used xs cs i (suc k) f (omega arith) d)) g
    pick (Table x c u e) d ih =
        let b : tables_from (suc k) s v room m n t used xs cs i ≡ tables_from k s v room m n (t + 1) u (set xs t x) (set cs t c) e =
        rw (sub-one (suc k)) at (tables_more s v room m n t used xs cs i (suc k) x c u e (omega arith) d) in
        let h = ih x c u e (rw b at g) in
        record { m-is = rw b h.m-is; n-is = rw b h.n-is; sound = more d h.sound }

-- A number below 128 takes one byte.
one_byte : (s : List ℕ) (i low high f x n : ℕ) → ((k : ℕ) → get_or s k 0 < 256) → high < 128 → field_at s i low high f ≡ Value x n → n ≡ i + 1
one_byte s i low high f x n by h e =
    let w = good-field s i low high f x n e in
    let c = encode-decode s i x n by w.read in
    c.next ∙ rw (encode-last x (omega (arith, w.high-bound)))

-- The head of a good image, and where its tables are.
pub record Headed (s : List ℕ) (room : ℕ) : Type 0 where
  pub v : ℕ
  pub m : ℕ
  pub n : ℕ
  pub same : scan_of s room ≡ tables_from n s v room m n 0 0 (replicate 8 0) (replicate 8 0) first_table

module _ (s : List ℕ) (room : ℕ) (by : (k : ℕ) → get_or s k 0 < 256) (g : (scan_of s room).verdict ≡ Good) where
  from-n : (v i m j : ℕ) → field_at s 0 version_one version_two 3 ≡ Value v i → field_at s i 1 most_attributes 4 ≡ Value m j
      → (d : Field) → field_at s j 1 most_tables 4 ≡ d → Headed s room
  from-n v i m j a b (FieldFault f) d = no-good (scan_of s room) f (ap (λ (r : Loaded). r.verdict) (head-n s room v i a m j b f d)) g
  from-n v i m j a b (Value n k) d =
      let e0 = one_byte s 0 version_one version_two 3 v i by (omega arith) a in
      let e1 = one_byte s i 1 most_attributes 4 m j by (omega arith) b in
      let e2 = one_byte s j 1 most_tables 4 n k by (omega arith) d in
      let e : k ≡ first_table = omega arith in
      record { v = v; m = m; n = n; same = head-good s room v i a m j b n k d ∙ rw e }

  from-m : (v i : ℕ) → field_at s 0 version_one version_two 3 ≡ Value v i → (d : Field) → field_at s i 1 most_attributes 4 ≡ d → Headed s room
  from-m v i a (FieldFault f) d = no-good (scan_of s room) f (ap (λ (r : Loaded). r.verdict) (head-m s room v i a f d)) g
  from-m v i a (Value m j) d = from-n v i m j a d (field_at s j 1 most_tables 4) refl

  from-version : (d : Field) → field_at s 0 version_one version_two 3 ≡ d → Headed s room
  from-version (FieldFault f) d = no-good (scan_of s room) f (ap (λ (r : Loaded). r.verdict) (head-version s room f d)) g
  from-version (Value v i) d = from-m v i d (field_at s i 1 most_attributes 4) refl

  pub headed : Headed s room
  headed = from-version (field_at s 0 version_one version_two 3) refl

  -- The tables of a good image are those of its catalogue, in some version.
  pub scan-sound : (v : ℕ) × Sound s v room (scan_of s room).catalogue.m (scan_of s room).catalogue.n 0 first_table
  scan-sound =
      let h = headed in
      let b = begun h.n s h.v room h.m h.n 0 0 (replicate 8 0) (replicate 8 0) first_table (rw h.same at g) in
      (h.v, rw (h.same, b.m-is, b.n-is) b.sound)
