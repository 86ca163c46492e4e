-- Numbers of an image one after the other, and the rows that they make. Everything is read from a list of bytes at a place, and the first
-- fault in reading order ends it. Assumes nothing.
use Rattle.std.specs.Prelude.{ℕ, zero, suc, List, [], ◌∷◌, Bool, false, cond, ◌||◌}
use Rattle.numbers.specs.Numbers.{decode}
use Rattle.numbers.specs.Readings.{Reading, Number, NumberFault}
use Rattle.tables.specs.Rows.{below}
use Rattle.tables.specs.Versions.{blank}
use Rattle.loader.specs.Faults.{Fault, Walk, To, WalkFault, Field, Value, FieldFault}

-- The refusal k at place p. Request #107: the number reader hands "back how many bytes it looked at; the loader passes both on, with count 0 under
-- other refusals".
abbrev pub refusal_at : ℕ → ℕ → ℕ → Fault
refusal_at k p looked = record { refusal = k; place = p; looked = looked }

-- Go on with the number and the place behind it, or with the refusal.
abbrev pub on_number : {A : Type 0} → Reading → (ℕ → ℕ → A) → (ℕ → ℕ → A) → A
on_number (Number x n) go refuse = go x n
on_number (NumberFault k c) go refuse = refuse k c

-- The number at place i and the place behind it, or its own refusal there.
abbrev pub number_at : List ℕ → ℕ → Field
number_at s i = on_number (decode s i) Value (λ k c. FieldFault (refusal_at k i c))

-- Go on from the place that a walk came to.
abbrev pub on_walk : Walk → (ℕ → Walk) → Walk
on_walk (To n) go = go n
on_walk (WalkFault f) go = WalkFault f

-- k numbers from place i on: the place behind them, or the first refusal. "The place is the first byte of the number at fault."
unfoldable pub run_end : ℕ → List ℕ → ℕ → Walk
run_end zero s i = To i
run_end (suc k) s i = on_number (decode s i) (λ x n. run_end k s n) (λ f c. WalkFault (refusal_at f i c))

-- The k numbers from place i on, as far as they can be read.
unfoldable pub codes : ℕ → List ℕ → ℕ → List ℕ
codes zero s i = []
codes (suc k) s i = on_number (decode s i) (λ x n. x ∷ codes k s n) (λ f c. [])

-- k rows of w cells from place i on, in an image of version v; the row before them, unless they are the first, starts at p.
-- "21, an all-null row where version 2 is read ..; after the row's last cell, before 7, with the row's place" (#111); "7: a row doesn't rise above the one
-- before", "after the row's last cell", at the place "of the row".
unfoldable pub rows_from : ℕ → ℕ → List ℕ → ℕ → Bool → ℕ → ℕ → Walk
rows_from zero w s v first p i = To i
rows_from (suc k) w s v first p i =
    on_walk (run_end w s i) (λ n.
    cond (blank v (codes w s i)) (WalkFault (refusal_at 21 i 0))
    (cond (first || below (codes w s p) (codes w s i)) (rows_from k w s v false i n)
    (WalkFault (refusal_at 7 i 0))))
