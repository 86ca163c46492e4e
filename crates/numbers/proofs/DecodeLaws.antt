-- The equations of decode_in, one for each way that the reader goes, and the bounds of its weight. Assumes nothing.
use Prim.Native.Nat.{ℕ, zero, suc, ◌+◌, ◌-◌, ◌*◌, ◌^◌, ◌<◌, ◌≤◌}
use native.Mathlib.Nat.{pow-suc, pow-le-pow_right, one-le-pow, mul-le-mul_left, mul-le-mul_right, mul_assoc, mul_comm}
use native.Mathlib.Omega.{arith}
use native.Mathlib.Numerals.{sub-one}
use mathlib.Core.Path.{◌≡◌, refl}
use mathlib.Core.List.{List}
use mathlib.Core.Bool.{Bool, true, false, cond, ◌&&◌}
use lib.ListN.{length, get_or}
use lib.Dec.{ltb, leb, eqb}
use borrow.Author.Tests.{lt-ltb, lt-leb, le-leb, eq-eqb}
use Rattle.numbers.specs.Readings.{Reading, Number, NumberFault}
use Rattle.numbers.specs.Numbers.{most_bytes, decode_in, decode}

pub decode-none : (f w v : ℕ) (s : List ℕ) (i : ℕ) → f ≤ 0 → decode_in f w v s i ≡ NumberFault 17 most_bytes
decode-none zero w v s i p = refl
decode-none (suc f) w v s i p = absurd (omega arith)

pub decode-end : (f w v : ℕ) (s : List ℕ) (i : ℕ) → 0 < f → length s ≤ i → decode_in f w v s i ≡ NumberFault 1 (most_bytes - f)
decode-end zero w v s i p h = absurd (omega arith)
decode-end (suc f) w v s i p h = rw (le-leb (length s) i h)

pub decode-zero : (f w v : ℕ) (s : List ℕ) (i : ℕ) → 0 < f → i < length s → get_or s i 0 < 128 → 1 < w → get_or s i 0 ≡ 0
    → decode_in f w v s i ≡ NumberFault 2 (most_bytes + 1 - f)
decode-zero zero w v s i p h l q e = absurd (omega arith)
decode-zero (suc f) w v s i p h l q e =
    let c : most_bytes + 1 - suc f ≡ most_bytes - f = omega arith in
    rw (lt-leb (length s) i h, lt-leb 128 (get_or s i 0) l, lt-ltb 1 w q, eq-eqb (get_or s i 0) 0 e, c)

pub decode-last : (f w v : ℕ) (s : List ℕ) (i : ℕ) → 0 < f → i < length s → get_or s i 0 < 128 → (ltb 1 w && eqb (get_or s i 0) 0) ≡ false
    → decode_in f w v s i ≡ Number (v + get_or s i 0 * w) (i + 1)
decode-last zero w v s i p h l q = absurd (omega arith)
decode-last (suc f) w v s i p h l q = rw (lt-leb (length s) i h, lt-leb 128 (get_or s i 0) l, q)

pub decode-more : (f w v : ℕ) (s : List ℕ) (i : ℕ) → 0 < f → i < length s → 128 ≤ get_or s i 0
    → decode_in f w v s i ≡ decode_in (f - 1) (w * 128) (v + (get_or s i 0 - 128) * w) s (i + 1)
decode-more zero w v s i p h l = absurd (omega arith)
decode-more (suc f) w v s i p h l = rw (sub-one (suc f), lt-leb (length s) i h, le-leb 128 (get_or s i 0) l)

-- a refusal is no number
pub no_number : {A : Type 0} (o : Reading) (k c r n : ℕ) → o ≡ NumberFault k c → o ≡ Number r n → A
no_number o k c r n p q = absurd (let z : ◌≡◌ {A = ℕ} 0 1 = cc in omega arith)

-- a weight is not 0
pub pos128 : (f : ℕ) → 1 ≤ 128 ^ f
pos128 f = one-le-pow f 128 (omega arith)

-- a weight with room for f groups more
pub room : (f w : ℕ) → 0 < f → w * 128 ^ f ≤ 2 ^ 63 → w * 128 ≤ 2 ^ 63
room zero w p h = absurd (omega arith)
room (suc f) w p h =
    let a : 128 ≤ 128 ^ suc f = omega (arith, pow-suc 128 f, pos128 f) in
    omega (arith, mul-le-mul_left w a)

pub less-room : (f w : ℕ) → 0 < f → w * 128 ^ f ≤ 2 ^ 63 → w * 128 * 128 ^ (f - 1) ≤ 2 ^ 63
less-room zero w p h = absurd (omega arith)
less-room (suc f) w p h = rw (sub-one (suc f), mul_assoc, mul_comm 128 (128 ^ f), ← pow-suc 128 f) h

-- the weight of a group that is allowed, with the next
pub group-room : (t w : ℕ) → t < most_bytes → w ≡ 128 ^ t → w * 128 ≤ 2 ^ 63
group-room t w h e =
    let p : 0 < 128 = omega arith in
    let q : suc t ≤ most_bytes = omega arith in
    omega (arith, e, pow-suc 128 t, pow-le-pow_right p q)

-- only the first group weighs 1
pub heavier : (t w : ℕ) → 0 < t → w ≡ 128 ^ t → 1 < w
heavier zero w h e = absurd (omega arith)
heavier (suc t) w h e = omega (arith, e, pow-suc 128 t, pos128 t)

-- a group is at most 127
pub group : (g w : ℕ) → g < 128 → g * w ≤ 127 * w
group g w h = mul-le-mul_right w (omega arith)

-- The place behind a number lies at most f bytes on, and a refusal is 17 at most.
abbrev pub Near : ℕ → Reading → Type 0
Near b (Number x n) = n ≤ b
Near b (NumberFault k c) = k ≤ 17

near_on : (i f : ℕ) (r : Reading) → Near (i + 1 + f) r → Near (i + suc f) r
near_on i f (Number x n) h = omega arith
near_on i f (NumberFault k c) h = h

near_step : (f i v : ℕ) (r : Reading) (b₁ b₂ b₃ : Bool) → Near (i + 1 + f) r
    → Near (i + suc f) (cond b₁ (NumberFault 1 (most_bytes - suc f)) (cond b₂ r (cond b₃ (NumberFault 2 (most_bytes - f)) (Number v (i + 1)))))
near_step f i v r true b₂ b₃ h = omega arith
near_step f i v r false true b₃ h = near_on i f r h
near_step f i v r false false true h = omega arith
near_step f i v r false false false h = omega arith

near-in : (f w v : ℕ) (s : List ℕ) (i : ℕ) → Near (i + f) (decode_in f w v s i)
near-in zero w v s i = omega arith
near-in (suc f) w v s i =
    near_step f i (v + get_or s i 0 * w) (decode_in f (w * 128) (v + (get_or s i 0 - 128) * w) s (i + 1)) (leb (length s) i) (leb 128 (get_or s i 0)) (ltb 1 w && eqb (get_or s i 0) 0)
    (near-in f (w * 128) (v + (get_or s i 0 - 128) * w) s (i + 1))

pub decode-near : (s : List ℕ) (i : ℕ) → Near (i + most_bytes) (decode s i)
unfolding decode
decode-near s i = near-in most_bytes 1 0 s i
