-- `numbers::size` meets its contract: `encode-length` at the place of the highest set bit, which the leading zeros give. Assumes nothing.
use native.Mathlib.Omega.{arith}
use Prim.Native.Nat.{ℕ, ◌+◌, ◌-◌, ◌/◌, ◌^◌, ◌≤◌, ◌<◌}
use mathlib.Core.Path.{◌≡◌, sym, ap, ◌∙◌}
use lib.ListN.{length}
use lib.Count.{count_leading_zeros, leading_top}
use Rattle.numbers.specs.Numbers.{encode}
use Rattle.numbers.proofs.EncodeLaws.{encode-last, encode-length}
use Rattle.numbers.proofs.size.Goals as goal

-- a number that is not 0 has its highest set bit below place 63, with the leading zeros above it
from-top : (x : ℕ) → 0 < x → x < 2 ^ 63 → (count_leading_zeros 64 x ≤ 63) × ((63 - count_leading_zeros 64 x) / 7 + 1 ≡ length (encode x))
from-top x p h =
    let t = leading_top 64 x p (omega arith) in
    let e : 63 - count_leading_zeros 64 x ≡ t.0 = omega (arith, t.1) in
    (omega (arith, t.1), ap (λ (j : ℕ). j / 7 + 1) e ∙ sym (encode-length x t.0 h t.2 t.3))

pub returns-then-x-lt-GROUP : goal.returns-then-x-lt-GROUP
returns-then-x-lt-GROUP c = sym (ap length (encode-last c.args.x (omega arith)))

pub overflow_sub-highest : goal.overflow_sub-highest
overflow_sub-highest c = (from-top c.args.x (omega arith) (omega arith)).0

pub returns : goal.returns
returns c = (from-top c.args.x (omega arith) (omega arith)).1
