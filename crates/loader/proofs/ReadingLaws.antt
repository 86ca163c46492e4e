-- The equations of a run of numbers and of a table's rows, one for each way that the code goes; and what a run that ends well is: runs lie one
-- behind the other, and have as many codes as numbers. Assumes nothing.
use Prim.Native.Nat.{ℕ, zero, suc, ◌+◌, ◌-◌, ◌*◌, ◌<◌, ◌≤◌}
use native.Mathlib.Nat.{zero-mul, suc-mul, zero-add}
use native.Mathlib.Omega.{arith}
use native.Mathlib.Numerals.{sub-one}
use mathlib.Core.Path.{◌≡◌, refl, sym, ap, ◌∙◌}
use mathlib.Core.List.{List, [], ◌∷◌, ◌++◌}
use mathlib.Core.Bool.{Bool, true, false, cond, ◌||◌}
use lib.ListN.{length}
use mathlib.Core.Logic.{◌⊎◌, inl, inr}
use Rattle.std.specs.Prelude.{Option, None, Some, Result, Ok, Err, IsOk}
use Rattle.std.specs.Result.{MatchResult}
use Rattle.numbers.specs.Numbers.{decode}
use Rattle.numbers.specs.Readings.{Reading, Number, NumberFault}
use Rattle.tables.specs.Rows.{below}
use Rattle.tables.specs.Versions.{blank}
use Rattle.numbers.specs.declared.Number.{Number as NumberRead}
use Rattle.loader.specs.declared.Fault.{Fault as FaultMet}
use Rattle.loader.specs.Faults.{fault_of, walk_of, field_of, Fault, Walk, To, WalkFault, Value, FieldFault}
use Rattle.loader.specs.Reading.{refusal_at, on_number, number_at, on_walk, run_end, codes, rows_from}

-- ---- what a result says, by cases

pub result-cases : {A E : Type 0} (r : Result A E) (P : A → Type 0) (Q : E → Type 0) → MatchResult r P Q → ((x : A) × (r ≡ Ok x) × P x) ⊎ ((e : E) × (r ≡ Err e) × Q e)
result-cases (Ok x) P Q h = inl (x, refl, h)
result-cases (Err e) P Q h = inr (e, refl, h)

-- ---- what the image's reader of a number says

pub read-good : (s : List ℕ) (i x n : ℕ) → Value x n ≡ number_at s i → decode s i ≡ Number x n
read-good s i x n e = of (decode s i) refl e
  where
    of : (d : Reading) → decode s i ≡ d → Value x n ≡ on_number d Value (λ k c. FieldFault (refusal_at k i c)) → decode s i ≡ Number x n
    of (Number y m) d e = cc
    of (NumberFault k c) d e = cc

pub read-bad : (s : List ℕ) (i : ℕ) (f : Fault) → FieldFault f ≡ number_at s i → (k : ℕ) × (c : ℕ) × (decode s i ≡ NumberFault k c) × (f ≡ refusal_at k i c)
read-bad s i f e = of (decode s i) refl e
  where
    of : (d : Reading) → decode s i ≡ d → FieldFault f ≡ on_number d Value (λ k c. FieldFault (refusal_at k i c))
        → (k : ℕ) × (c : ℕ) × (decode s i ≡ NumberFault k c) × (f ≡ refusal_at k i c)
    of (Number y m) d e = cc
    of (NumberFault k c) d e = (k, c, d, cc)

-- what is known to be there is read
pub ok-read : (r : Result NumberRead FaultMet) (s : List ℕ) (i x n : ℕ) → field_of r ≡ number_at s i → decode s i ≡ Number x n → IsOk r
ok-read (Ok y) s i x n e d = refl
ok-read (Err f) s i x n e d = let z : FieldFault (fault_of f) ≡ Value x n = rw d at e in cc

pub ok-walk : (r : Result ℕ FaultMet) (e : ℕ) → walk_of r ≡ To e → IsOk r
ok-walk (Ok n) e q = refl
ok-walk (Err f) e q = cc

-- ---- runs and rows

pub run_none : (k : ℕ) (s : List ℕ) (i : ℕ) → k ≤ 0 → run_end k s i ≡ To i
unfolding run_end
run_none zero s i z = refl
run_none (suc k) s i z = absurd (omega arith)

pub run_more : (k : ℕ) (s : List ℕ) (i x n : ℕ) → 0 < k → Value x n ≡ number_at s i → run_end k s i ≡ run_end (k - 1) s n
unfolding run_end
run_more zero s i x n z e = absurd (omega arith)
run_more (suc k) s i x n z e = let d = read-good s i x n e in rw (sub-one (suc k), d)

pub run-bad : (k : ℕ) (s : List ℕ) (i : ℕ) (f : Fault) → 0 < k → FieldFault f ≡ number_at s i → run_end k s i ≡ WalkFault f
unfolding run_end
run-bad zero s i f z e = absurd (omega arith)
run-bad (suc k) s i f z e = let d = read-bad s i f e in rw d.2 (ap WalkFault (sym d.3))

pub codes-none : (k : ℕ) (s : List ℕ) (i : ℕ) → k ≤ 0 → codes k s i ≡ []
unfolding codes
codes-none zero s i z = refl
codes-none (suc k) s i z = absurd (omega arith)

pub codes-more : (k : ℕ) (s : List ℕ) (i x n : ℕ) → 0 < k → Value x n ≡ number_at s i → codes k s i ≡ x ∷ codes (k - 1) s n
unfolding codes
codes-more zero s i x n z e = absurd (omega arith)
codes-more (suc k) s i x n z e = let d = read-good s i x n e in rw (sub-one (suc k), d)

pub codes-bad : (k : ℕ) (s : List ℕ) (i : ℕ) (f : Fault) → FieldFault f ≡ number_at s i → codes k s i ≡ []
unfolding codes
codes-bad zero s i f e = refl
codes-bad (suc k) s i f e = let d = read-bad s i f e in rw d.2

-- one row more
pub rows_none : (k w : ℕ) (s : List ℕ) (v : ℕ) (b : Bool) (p i : ℕ) → k ≤ 0 → rows_from k w s v b p i ≡ To i
unfolding rows_from
rows_none zero w s v b p i z = refl
rows_none (suc k) w s v b p i z = absurd (omega arith)

pub rows-bad : (k w : ℕ) (s : List ℕ) (v : ℕ) (b : Bool) (p i : ℕ) (f : Fault) → 0 < k → run_end w s i ≡ WalkFault f → rows_from k w s v b p i ≡ WalkFault f
unfolding rows_from
rows-bad zero w s v b p i f z e = absurd (omega arith)
rows-bad (suc k) w s v b p i f z e = rw e

pub rows-blank : (k w : ℕ) (s : List ℕ) (v : ℕ) (b : Bool) (p i n : ℕ) → 0 < k → run_end w s i ≡ To n → blank v (codes w s i) ≡ true
    → rows_from k w s v b p i ≡ WalkFault (refusal_at 21 i 0)
unfolding rows_from
rows-blank zero w s v b p i n z e h = absurd (omega arith)
rows-blank (suc k) w s v b p i n z e h = rw (e, h)

pub rows_more : (k w : ℕ) (s : List ℕ) (v : ℕ) (b : Bool) (p i n : ℕ) → 0 < k → run_end w s i ≡ To n → blank v (codes w s i) ≡ false
    → (b || below (codes w s p) (codes w s i)) ≡ true → rows_from k w s v b p i ≡ rows_from (k - 1) w s v false i n
unfolding rows_from
rows_more zero w s v b p i n z e h t = absurd (omega arith)
rows_more (suc k) w s v b p i n z e h t = rw (sub-one (suc k), e, h, t)

pub rows-fall : (k w : ℕ) (s : List ℕ) (v : ℕ) (b : Bool) (p i n : ℕ) → 0 < k → run_end w s i ≡ To n → blank v (codes w s i) ≡ false
    → (b || below (codes w s p) (codes w s i)) ≡ false → rows_from k w s v b p i ≡ WalkFault (refusal_at 7 i 0)
unfolding rows_from
rows-fall zero w s v b p i n z e h t = absurd (omega arith)
rows-fall (suc k) w s v b p i n z e h t = rw (e, h, t)

-- ---- the row before the next, as the code has it: none before the first

abbrev pub is_first : Option ℕ → Bool
is_first None = true
is_first (Some p) = false

abbrev pub row_before : Option ℕ → ℕ
row_before None = 0
row_before (Some p) = p

-- ---- runs that end well

pub no_walk : {A : Type 0} (o : Walk) (f : Fault) (e : ℕ) → o ≡ WalkFault f → o ≡ To e → A
no_walk o f e a b = absurd (let z : ◌≡◌ {A = ℕ} 0 1 = cc in omega arith)

-- An answer that is no refusal came from a number.
pub number-was : {A P : Type 0} (a : A) (d : Reading) (go : ℕ → ℕ → A) (refuse : ℕ → ℕ → A) → ((k c : ℕ) → refuse k c ≡ a → ⊥) → on_number d go refuse ≡ a
    → ((x n : ℕ) → d ≡ Number x n → go x n ≡ a → P) → P
number-was a (Number x n) go refuse z e f = f x n refl e
number-was a (NumberFault k c) go refuse z e f = absurd (z k c e)

pub run-was : (k : ℕ) (s : List ℕ) (i e : ℕ) → run_end (suc k) s i ≡ To e → (x : ℕ) × (n : ℕ) × (decode s i ≡ Number x n) × (run_end k s n ≡ To e)
unfolding run_end
run-was k s i e q = number-was (To e) (decode s i) (λ x n. run_end k s n) (λ f c. WalkFault (refusal_at f i c)) (λ f c. no_walk (WalkFault (refusal_at f i c)) (refusal_at f i c) e refl) q (λ x n d r. (x, n, d, r))

-- w numbers, and k behind them
pub run-add : (w k : ℕ) (s : List ℕ) (i n : ℕ) → run_end w s i ≡ To n → (run_end (w + k) s i ≡ run_end k s n) × (codes (w + k) s i ≡ codes w s i ++ codes k s n)
unfolding run_end codes
run-add zero k s i n e = let q : i ≡ n = cc in (rw (zero-add, q), rw (zero-add, q))
run-add (suc w) k s i n e =
    let t = run-was w s i n e in
    let a = run-add w k s t.1 n t.3 in
    let m : suc w + k ≡ suc (w + k) = omega arith in
    (rw (m, t.2) a.0, rw (m, t.2) (ap (λ (l : List ℕ). t.0 ∷ l) a.1))

-- so many codes as numbers were read
pub codes-length : (k : ℕ) (s : List ℕ) (i e : ℕ) → run_end k s i ≡ To e → length (codes k s i) ≡ k
unfolding codes
codes-length zero s i e a = refl
codes-length (suc k) s i e a = let t = run-was k s i e a in rw t.2 (ap suc (codes-length k s t.1 e t.3))

-- ---- rows that end well

pub rows-was : (k w : ℕ) (s : List ℕ) (v : ℕ) (first : Bool) (p i e : ℕ) → rows_from (suc k) w s v first p i ≡ To e
    → (n : ℕ) × (run_end w s i ≡ To n) × (blank v (codes w s i) ≡ false) × ((first || below (codes w s p) (codes w s i)) ≡ true)
    × (rows_from k w s v false i n ≡ To e)
unfolding rows_from
rows-was k w s v first p i e q =
    by-walk (run_end w s i) (blank v (codes w s i)) (first || below (codes w s p) (codes w s i)) (λ n. rows_from k w s v false i n) q
  where
    by-walk : (d : Walk) (a b : Bool) (go : ℕ → Walk)
        → on_walk d (λ n. cond a (WalkFault (refusal_at 21 i 0)) (cond b (go n) (WalkFault (refusal_at 7 i 0)))) ≡ To e
        → (n : ℕ) × (d ≡ To n) × (a ≡ false) × (b ≡ true) × (go n ≡ To e)
    by-walk (To n) true b go q = no_walk (WalkFault (refusal_at 21 i 0)) (refusal_at 21 i 0) e refl q
    by-walk (To n) false true go q = (n, refl, refl, refl, q)
    by-walk (To n) false false go q = no_walk (WalkFault (refusal_at 7 i 0)) (refusal_at 7 i 0) e refl q
    by-walk (WalkFault f) a b go q = no_walk (WalkFault f) f e refl q

pub row-cells : (k w : ℕ) → suc k * w ≡ w + k * w
row-cells k w = suc-mul k w ∙ omega arith

-- their numbers lie one after the other
pub rows_run : (k w : ℕ) (s : List ℕ) (v : ℕ) (first : Bool) (p i e : ℕ) → rows_from k w s v first p i ≡ To e → run_end (k * w) s i ≡ To e
unfolding run_end rows_from
rows_run zero w s v first p i e q = rw zero-mul q
rows_run (suc k) w s v first p i e q =
    let t = rows-was k w s v first p i e q in
    rw (row-cells k w) ((run-add w (k * w) s i t.0 t.1).0 ∙ rows_run k w s v false i t.0 e t.4)
