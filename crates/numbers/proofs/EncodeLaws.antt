-- The two equations of encode, with no bound on the bytes in sight. Assumes nothing.
use Prim.Native.Nat.{ℕ, zero, suc, ◌+◌, ◌-◌, ◌*◌, ◌/◌, ◌%◌, ◌^◌, ◌<◌, ◌≤◌}
use native.Mathlib.Nat.{pow-suc}
use lib.Pow.{pow-add, pow_mono}
use lib.ListN.{length}
use native.Mathlib.Decide.{dec_lt}
use native.Mathlib.Omega.{arith}
use mathlib.Core.Path.{◌≡◌, sym, ap, ◌∙◌}
use mathlib.Core.List.{List, [], ◌∷◌}
use borrow.Author.Tests.{lt-ltb, le-ltb}
use Rattle.numbers.specs.Numbers.{encode_in, encode}

pub more-in : (f x : ℕ) → 128 ≤ x → encode_in (suc f) x ≡ (128 + x % 128) ∷ encode_in f (x / 128)
more-in f x h = rw (le-ltb x 128 h)

pub last-in : (f x : ℕ) → x < 128 → encode_in (suc f) x ≡ x ∷ []
last-in f x h = rw (lt-ltb x 128 h)

-- one byte more than enough changes nothing
fuel-in : (f x : ℕ) → x < 128 ^ suc f → encode_in (suc (suc f)) x ≡ encode_in (suc f) x
fuel-in zero x h = rw (lt-ltb x 128 h)
fuel-in (suc f) x h =
    elim (dec_lt x 128) [
      | yes l ↦ last-in (suc (suc f)) x l ∙ sym (last-in (suc f) x l)
      | no l ↦ more-in (suc (suc f)) x (omega arith) ∙ ap (λ (t : List ℕ). (128 + x % 128) ∷ t) (fuel-in f (x / 128) (omega (arith, pow-suc 128 (suc f)))) ∙ sym (more-in (suc f) x (omega arith))
    ]

pub encode-last : (x : ℕ) → x < 128 → encode x ≡ x ∷ []
unfolding encode
encode-last x h = last-in 8 x h

pub encode-more : (x : ℕ) → 128 ≤ x → x < 2 ^ 63 → encode x ≡ (128 + x % 128) ∷ encode (x / 128)
unfolding encode
encode-more x l h = more-in 8 x l ∙ ap (λ (t : List ℕ). (128 + x % 128) ∷ t) (sym (fuel-in 7 (x / 128) (omega arith)))

-- a highest bit below 7 is that of a number of one group
low_bit : (x j : ℕ) → x < 128 → 2 ^ j ≤ x → j < 7
low_bit x j l top =
    elim (dec_lt j 7) [
      | yes h ↦ h
      | no h ↦ absurd (omega (arith, pow_mono {i = 7} {j = j} (omega arith)))
    ]

high_bit : (x j : ℕ) → 128 ≤ x → x < 2 ^ suc j → 7 ≤ j
high_bit x j l top =
    elim (dec_lt j 7) [
      | yes h ↦ absurd (omega (arith, pow_mono {i = suc j} {j = 7} (omega arith)))
      | no h ↦ omega arith
    ]

-- what is left behind the lowest group has its highest bit seven places lower
length-in : (f x j : ℕ) → x < 128 ^ suc f → 2 ^ j ≤ x → x < 2 ^ suc j → length (encode_in (suc f) x) ≡ j / 7 + 1
length-in zero x j h low top = rw (last-in zero x h) (omega (arith, low_bit x j h low))
length-in (suc f) x j h low top =
    elim (dec_lt x 128) [
      | yes l ↦ rw (last-in (suc f) x l) (omega (arith, low_bit x j l low))
      | no l ↦
          let k = j - 7 in
          let e : k + 7 ≡ j = omega (arith, high_bit x j (omega arith) top) in
          let a : 2 ^ j ≡ 2 ^ k * 128 = ap (λ (t : ℕ). 2 ^ t) (sym e) ∙ pow-add 2 k 7 in
          let n = length-in f (x / 128) k (omega (arith, pow-suc 128 (suc f))) (omega arith) (omega (arith, pow-suc 2 j, pow-suc 2 k)) in
          rw (more-in (suc f) x (omega arith)) (omega arith)
    ]

-- How many groups a number has, from the place j of its highest set bit: one for each seven bits up to it.
pub encode-length : (x j : ℕ) → x < 2 ^ 63 → 2 ^ j ≤ x → x < 2 ^ suc j → length (encode x) ≡ j / 7 + 1
unfolding encode
encode-length x j h low top = length-in 8 x j h low top
