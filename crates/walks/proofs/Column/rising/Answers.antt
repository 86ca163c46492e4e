-- `walks::Column::rising` meets its contract: what `all` found of each row and the one before it makes the column rise. Assumes nothing.
use native.Mathlib.Omega.{arith}
use Prim.Native.Nat.{ℕ, ◌+◌, ◌-◌, ◌*◌, ◌≤◌, ◌<◌}
use mathlib.Core.Path.{◌≡◌, refl}
use lib.ListN.{length, get_or}
use borrow.Author.Tests.{tests}
use Rattle.std.proofs.Common.{rules}
use Rattle.std.proofs.lemmas.Iterator.{cases_from_all, YieldsList-from_range}
use Rattle.std.proofs.lemmas.List.FromFn.{length-range_with_len, get_or-range_with_len}
use Rattle.std.specs.Bool.{MatchBool}
use Rattle.std.specs.List.{range_with_len, AllWithin, HoldsAt}
use Rattle.walks.proofs.RisingLaws.{rising-steps}
use Rattle.walks.proofs.Column.rising.Goals as goal

-- what holds of each number from 1 to below k
each : (P : ℕ → Type 0) (k : ℕ) → AllWithin P (range_with_len 1 (k - 1)) 0 (length (range_with_len 1 (k - 1))) → (r : ℕ) → 0 < r → r < k → P r
each P k h r l b =
    let e : 1 + (r - 1) ≡ r = omega arith in
    rw (get_or-range_with_len 1 (k - 1) (r - 1) 0 (omega arith), e) at (h (r - 1) 0 (omega arith) (rw length-range_with_len (omega arith)))

pub invariant_of-result : goal.invariant_of-result
invariant_of-result c =
    let s = c.args.self.now in
    let code = λ (r : ℕ). get_or s.cells.now (s.first + r * s.width) 0 in
    let rows = range_with_len 1 (s.count - 1) in
    let ran : MatchBool c.all.result (AllWithin (λ (r : ℕ). code (r - 1) ≤ code r) rows 0 (length rows))
    ((k : ℕ) × (k < length rows) × HoldsAt (λ (r : ℕ). code r < code (r - 1)) rows k) =
    cases_from_all _ _ _ (λ (r : ℕ). code (r - 1) ≤ code r) (λ (r : ℕ). code r < code (r - 1)) c.all.ensures.ran
    (YieldsList-from_range 1 s.count (s.count - 1) refl refl) (λ x q k. search (rules, tests)) (λ x q k. search (rules, tests)) in
    record { rising = rising-steps _ _ _ _ (each (λ (r : ℕ). code (r - 1) ≤ code r) s.count (rw c.if-all.true at ran)) }
