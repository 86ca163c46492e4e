-- No refusal of the first pass is placed far from the start, since a number takes nine bytes at most, and its number is small: so the door's number
-- fits and tells both. Assumes nothing.
use Prim.Native.Nat.{ℕ, zero, suc, ◌+◌, ◌*◌, ◌≤◌}
use native.Mathlib.Nat.{suc-mul}
use native.Mathlib.Decide.{ℕ_discrete}
use native.Mathlib.Omega.{arith}
use mathlib.Core.Path.{◌≡◌, refl}
use mathlib.Core.List.{List}
use mathlib.Core.Bool.{Bool, true, false, cond, ◌||◌}
use lib.ListN.{length, set, replicate}
use lib.Count.{ones}
use lib.Dec.{ltb}
use Rattle.numbers.specs.Numbers.{decode}
use Rattle.numbers.specs.Readings.{Reading, Number, NumberFault}
use Rattle.numbers.proofs.DecodeLaws.{Near, decode-near}
use Rattle.tables.specs.Sizes.{most_attributes, most_tables, most_cells, version_one, version_two}
use Rattle.tables.specs.Rows.{below}
use Rattle.tables.specs.Checks.{outside, bad_scheme, count_fault}
use Rattle.tables.specs.declared.Catalogue.{Catalogue}
use Rattle.tables.specs.Versions.{most_rows_in, needless, blank}
use Rattle.tables.proofs.CheckLaws.{fault-counted}
use Rattle.loader.specs.Faults.{Walk, To, WalkFault, Field, Value, FieldFault, Entry, Table, TableFault, Verdict, Good, Refused}
use Rattle.loader.specs.Reading.{refusal_at, on_number, on_walk, run_end, codes, rows_from}
use Rattle.tables.specs.Catalogues.{filled, given}
use Rattle.loader.specs.Load.{refused, field_at, on_field, entry_of, count_at, table_at, on_entry, tables_end, tables_from, scan_of, farthest, NearFault, NearVerdict}
use Rattle.loader.proofs.LoadLaws.{count-bad, count-fault, count-rows, table-bad, table-scheme, table-count, good-field}

-- ---- a run of numbers, and rows

-- A walk came to a place of at most b, or was refused there.
abbrev pub NearWalk : ℕ → Walk → Type 0
NearWalk b (To n) = n ≤ b
NearWalk b (WalkFault f) = NearFault b f

walk-near : (a b : ℕ) (r : Walk) → a ≤ b → NearWalk a r → NearWalk b r
walk-near a b (To n) l h = omega arith
walk-near a b (WalkFault f) l h = omega arith

run-near-step : (w : ℕ) (s : List ℕ) (i : ℕ) (d : Reading) → Near (i + 9) d → ((n : ℕ) → NearWalk (n + 9 * w) (run_end w s n))
    → NearWalk (i + 9 * suc w) (on_number d (λ x n. run_end w s n) (λ k c. WalkFault (refusal_at k i c)))
run-near-step w s i (Number x n) h ih = walk-near (n + 9 * w) (i + 9 * suc w) (run_end w s n) (omega arith) (ih n)
run-near-step w s i (NumberFault k c) h ih = omega arith

run-near : (w : ℕ) (s : List ℕ) (i : ℕ) → NearWalk (i + 9 * w) (run_end w s i)
unfolding run_end
run-near zero s i = omega arith
run-near (suc w) s i = run-near-step w s i (decode s i) (decode-near s i) (λ n. run-near w s n)

rows-near-step : (k w : ℕ) (s : List ℕ) (v i : ℕ) (d : Walk) (a t : Bool) → NearWalk (i + 9 * w) d
    → ((n : ℕ) → NearWalk (n + 9 * (k * w)) (rows_from k w s v false i n))
    → NearWalk (i + 9 * (suc k * w)) (on_walk d (λ n. cond a (WalkFault (refusal_at 21 i 0)) (cond t (rows_from k w s v false i n) (WalkFault (refusal_at 7 i 0)))))
rows-near-step k w s v i (To n) true t h ih = omega arith
rows-near-step k w s v i (To n) false true h ih =
    walk-near (n + 9 * (k * w)) (i + 9 * (suc k * w)) (rows_from k w s v false i n) (omega (arith, suc-mul k w)) (ih n)
rows-near-step k w s v i (To n) false false h ih = omega arith
rows-near-step k w s v i (WalkFault f) a t h ih = omega (arith, suc-mul k w)

rows-near : (k w : ℕ) (s : List ℕ) (v : ℕ) (b : Bool) (p i : ℕ) → NearWalk (i + 9 * (k * w)) (rows_from k w s v b p i)
unfolding rows_from
rows-near zero w s v b p i = omega arith
rows-near (suc k) w s v b p i =
    rows-near-step k w s v i (run_end w s i) (blank v (codes w s i)) (b || below (codes w s p) (codes w s i)) (run-near w s i) (λ n. rows-near k w s v false i n)

-- ---- a table: two numbers and at most 8,192 cells

-- A table ends at a place of at most b, or is refused there.
abbrev pub NearEntry : ℕ → Entry → Type 0
NearEntry b (Table x c u e) = e ≤ b
NearEntry b (TableFault f) = NearFault b f

entry-near : (x c u a b : ℕ) (r : Walk) → a ≤ b → NearWalk a r → NearEntry b (entry_of x c u r)
entry-near x c u a b (To n) l h = omega arith
entry-near x c u a b (WalkFault f) l h = omega arith

count-few : (most room used x c : ℕ) → count_fault most room used x c ≤ 9
unfolding count_fault
count-few most room used x c = pick (ltb most c) (ltb most_cells (used + c * ones x) || ltb room (used + c * ones x))
  where
    pick : (a b : Bool) → cond a 6 (cond b 8 0) ≤ 9
    pick true b = omega arith
    pick false true = omega arith
    pick false false = omega arith

count-near : (s : List ℕ) (v room x used i : ℕ) → NearEntry (i + 9 + 9 * most_cells) (count_at s v room x used i)
count-near s v room x used i = pick (decode s i) refl (decode-near s i)
  where
    pick : (d : Reading) → decode s i ≡ d → Near (i + 9) (decode s i) → NearEntry (i + 9 + 9 * most_cells) (count_at s v room x used i)
    pick (NumberFault k q) d h = let l : k ≤ 17 = rw d at h in rw (count-bad s v room x used i k q d) (omega arith)
    pick (Number c n) d h =
        let l : n ≤ i + 9 = rw d at h in
        elim (ℕ_discrete (count_fault (most_rows_in v) room used x c) 0) [
          | no y ↦ rw (count-fault s v room x used i c n d y) (omega (arith, count-few (most_rows_in v) room used x c))
          | yes y ↦
              rw (count-rows s v room x used i c n d y)
              (entry-near x c (used + c * ones x) (n + 9 * (c * ones x)) (i + 9 + 9 * most_cells) (rows_from c (ones x) s v true 0 n)
              (omega (arith, (fault-counted (most_rows_in v) room used x c y).most)) (rows-near c (ones x) s v true 0 n))
        ]

table-near : (s : List ℕ) (v room m used i : ℕ) → NearEntry (i + 18 + 9 * most_cells) (table_at s v room m used i)
table-near s v room m used i = pick (decode s i) refl (decode-near s i)
  where
    farther : (n : ℕ) (e : Entry) → n ≤ i + 9 → NearEntry (n + 9 + 9 * most_cells) e → NearEntry (i + 18 + 9 * most_cells) e
    farther n (Table x c u e) l h = omega arith
    farther n (TableFault f) l h = omega arith

    scheme : (x n : ℕ) → n ≤ i + 9 → decode s i ≡ Number x n → (b : Bool) → bad_scheme m x ≡ b → NearEntry (i + 18 + 9 * most_cells) (table_at s v room m used i)
    scheme x n l d true b = rw (table-scheme s v room m used i x n d b) (omega arith)
    scheme x n l d false b = rw (table-count s v room m used i x n d b) (farther n (count_at s v room x used n) l (count-near s v room x used n))

    pick : (d : Reading) → decode s i ≡ d → Near (i + 9) (decode s i) → NearEntry (i + 18 + 9 * most_cells) (table_at s v room m used i)
    pick (NumberFault k q) d h = let l : k ≤ 17 = rw d at h in rw (table-bad s v room m used i k q d) (omega arith)
    pick (Number x n) d h = scheme x n (rw d at h) d (bad_scheme m x) refl

-- ---- the whole

verdict-near : (a b : ℕ) (v : Verdict) → a ≤ b → NearVerdict a v → NearVerdict b v
verdict-near a b Good l h = tt
verdict-near a b (Refused f) l h = omega arith

end-near : (s : List ℕ) (v : ℕ) (cat : Catalogue) (i b : ℕ) → i ≤ b → NearVerdict b (tables_end s v cat i).verdict
unfolding tables_end
end-near s v cat i b l = pick (ltb i (length s)) (needless v cat)
  where
    pick : (a c : Bool)
        → NearVerdict b (cond a (refused (refusal_at 9 i 0)) (cond c (refused (refusal_at 20 0 0)) (record { verdict = Good; catalogue = filled cat }))).verdict
    pick true c = omega arith
    pick false true = omega arith
    pick false false = tt

tables-near : (k : ℕ) (s : List ℕ) (v room m n t used : ℕ) (xs cs : List ℕ) (i : ℕ)
    → NearVerdict (i + (18 + 9 * most_cells) * k) (tables_from k s v room m n t used xs cs i).verdict
unfolding tables_from
tables-near zero s v room m n t used xs cs i = end-near s v (given m n xs cs) i (i + (18 + 9 * most_cells) * 0) (omega arith)
tables-near (suc k) s v room m n t used xs cs i = pick (table_at s v room m used i) (table-near s v room m used i) (λ x c u e. tables-near k s v room m n (t + 1) u (set xs t x) (set cs t c) e)
  where
    pick : (d : Entry) → NearEntry (i + 18 + 9 * most_cells) d
        → ((x c u e : ℕ) → NearVerdict (e + (18 + 9 * most_cells) * k) (tables_from k s v room m n (t + 1) u (set xs t x) (set cs t c) e).verdict)
        → NearVerdict (i + (18 + 9 * most_cells) * suc k) (on_entry d (λ x c u e. tables_from k s v room m n (t + 1) u (set xs t x) (set cs t c) e) refused).verdict
    pick (Table x c u e) h ih =
        verdict-near (e + (18 + 9 * most_cells) * k) (i + (18 + 9 * most_cells) * suc k) (tables_from k s v room m n (t + 1) u (set xs t x) (set cs t c) e).verdict (omega arith) (ih x c u e)
    pick (TableFault f) h ih = omega arith

-- A field ends at a place of at most b, or is refused there.
abbrev NearField : ℕ → Field → Type 0
NearField b (Value x n) = n ≤ b
NearField b (FieldFault f) = NearFault b f

field-near : (s : List ℕ) (i low high f : ℕ) → f ≤ 9 → NearField (i + 9) (field_at s i low high f)
unfolding field_at
field-near s i low high f l = pick (decode s i) (decode-near s i)
  where
    test : (t : Bool) (x n : ℕ) → n ≤ i + 9 → NearField (i + 9) (cond t (FieldFault (refusal_at f i 0)) (Value x n))
    test true x n h = omega arith
    test false x n h = h

    pick : (d : Reading) → Near (i + 9) d → NearField (i + 9) (on_number d (λ x n. cond (outside low high x) (FieldFault (refusal_at f i 0)) (Value x n)) (λ k c. FieldFault (refusal_at k i c)))
    pick (Number x n) h = test (outside low high x) x n h
    pick (NumberFault k c) h = omega arith

-- No refusal is placed beyond the farthest place, and none has a number above the highest.
pub scan-near : (s : List ℕ) (room : ℕ) → NearVerdict farthest (scan_of s room).verdict
unfolding scan_of
scan-near s room = head (field_at s 0 version_one version_two 3) (field-near s 0 version_one version_two 3 (omega arith))
  where
    tables : (v m j : ℕ) → j ≤ 18 → (d : Field) → field_at s j 1 most_tables 4 ≡ d → NearField (j + 9) d
        → NearVerdict farthest (on_field d (λ n k. tables_from n s v room m n 0 0 (replicate 8 0) (replicate 8 0) k)).verdict
    tables v m j h (FieldFault f) e g = omega arith
    tables v m j h (Value n k) e g =
        let w = (good-field s j 1 most_tables 4 n k e).high-bound in
        verdict-near (k + (18 + 9 * most_cells) * n) farthest (tables_from n s v room m n 0 0 (replicate 8 0) (replicate 8 0) k).verdict (omega arith) (tables-near n s v room m n 0 0 (replicate 8 0) (replicate 8 0) k)

    attributes : (v i : ℕ) → i ≤ 9 → (d : Field) → NearField (i + 9) d
        → NearVerdict farthest (on_field d (λ m j. on_field (field_at s j 1 most_tables 4) (λ n k. tables_from n s v room m n 0 0 (replicate 8 0) (replicate 8 0) k))).verdict
    attributes v i h (FieldFault f) g = omega arith
    attributes v i h (Value m j) g = tables v m j (omega arith) (field_at s j 1 most_tables 4) refl (field-near s j 1 most_tables 4 (omega arith))

    head : (d : Field) → NearField 9 d
        → NearVerdict farthest (on_field d (λ v i. on_field (field_at s i 1 most_attributes 4) (λ m j. on_field (field_at s j 1 most_tables 4) (λ n k. tables_from n s v room m n 0 0 (replicate 8 0) (replicate 8 0) k)))).verdict
    head (FieldFault f) g = omega arith
    head (Value v i) g = attributes v i g (field_at s i 1 most_attributes 4) (field-near s i 1 most_attributes 4 (omega arith))
