-- The laws of a key's rows and bits, over the bits w of a row: a row put in is read back and the others stay, and a key is known by its rows or
-- its bits. Last, that the code's masks put a row in. Assumes nothing.
use Prim.Native.Nat.{ℕ, zero, suc, ◌+◌, ◌-◌, ◌*◌, ◌/◌, ◌%◌, ◌^◌, ◌≤◌, ◌<◌}
use mathlib.Core.Path.{◌≡◌, sym, ap, ap₂, ◌∙◌, subst}
use mathlib.Core.Logic.{◌≢◌}
use native.Mathlib.Omega.{arith}
use native.Mathlib.Decide.{dec_lt}
use native.Mathlib.Nat.{mod-lt, mod-mod, mul-suc, mul-le-mul_left, mul-le-mul_right, mul-sub, mul_comm, suc-mul, add-zero, one-mul, zero-div, zero-mod, div-add-mod, div-lt_iff_lt-mul, zero-mul, not-suc-le-zero}
use lib.Bits.{bit_and, bit_or, and_block, or_block, and_mask, and_high, or_shifted, or_zero_r}
use lib.Pow.{pow_pos, pow-add, pow_mono, split, high, low, shr-shr, shr_lt, shr_mod, shl_exact, ones_lt}
use Rattle.words.specs.Words.{bit_of}
use Rattle.words.proofs.WordLaws.{cut, shift, bit-low, bit_high, bits-eq}
use Rattle.keys.specs.Keys.{row_of, with_row}

-- Table u's bits lie below table t's.
pub below : (w : ℕ) {u t : ℕ} → u < t → w * u + w ≤ w * t
below w {u} {t} h = subst (λ (x : ℕ). x ≤ w * t) (mul-suc w u) (mul-le-mul_left w h)

pub row_lt : (w k t : ℕ) → row_of w k t < 2 ^ w
unfolding row_of
row_lt w k t = mod-lt (k / 2 ^ (w * t)) (pow_pos w)

pub row_zero : (w t : ℕ) → row_of w 0 t ≡ 0
unfolding row_of
row_zero w t = ap (λ (x : ℕ). x % 2 ^ w) (zero-div (2 ^ (w * t))) ∙ zero-mod (2 ^ w)

-- ---- a row put in

-- The row that was put in is read back.
pub row_same : (w k t r : ℕ) → r < 2 ^ w → row_of w (with_row w k t r) t ≡ r
unfolding row_of with_row
row_same w k t r h =
    ap (λ (x : ℕ). x % 2 ^ w) (high (k / 2 ^ (w * t) / 2 ^ w * 2 ^ w + r) (w * t) (mod-lt k (pow_pos (w * t))))
    ∙ low (k / 2 ^ (w * t) / 2 ^ w) w h

row_below : (w k t r u : ℕ) → u < t → row_of w (with_row w k t r) u ≡ row_of w k u
unfolding row_of with_row
row_below w k t r u l =
    sym (cut (with_row w k t r) (w * u) (w * t) w (below w l))
    ∙ ap (λ (x : ℕ). x / 2 ^ (w * u) % 2 ^ w) (low (k / 2 ^ (w * t) / 2 ^ w * 2 ^ w + r) (w * t) (mod-lt k (pow_pos (w * t))))
    ∙ cut k (w * u) (w * t) w (below w l)

-- A shift past table t, in steps.
past : (w n t u : ℕ) → t < u → n / 2 ^ (w * u) ≡ n / 2 ^ (w * t) / 2 ^ w / 2 ^ (w * u - (w * t + w))
past w n t u l = shift n (w * t + w) (w * u) (below w l) ∙ ap (λ (x : ℕ). x / 2 ^ (w * u - (w * t + w))) (sym (shr-shr n (w * t) w))

row-above : (w k t r u : ℕ) → r < 2 ^ w → t < u → row_of w (with_row w k t r) u ≡ row_of w k u
unfolding row_of with_row
row-above w k t r u h l =
    ap (λ (x : ℕ). x % 2 ^ w)
    (past w (with_row w k t r) t u l
    ∙ ap (λ (x : ℕ). x / 2 ^ w / 2 ^ (w * u - (w * t + w))) (high (k / 2 ^ (w * t) / 2 ^ w * 2 ^ w + r) (w * t) (mod-lt k (pow_pos (w * t))))
    ∙ ap (λ (x : ℕ). x / 2 ^ (w * u - (w * t + w))) (high (k / 2 ^ (w * t) / 2 ^ w) w h)
    ∙ sym (past w k t u l))

-- The rows of the other tables stay.
pub row_other : (w k t r u : ℕ) → r < 2 ^ w → u ≢ t → row_of w (with_row w k t r) u ≡ row_of w k u
row_other w k t r u h n = go (dec_lt u t)
  where
    go : Dec (u < t) → row_of w (with_row w k t r) u ≡ row_of w k u
    go (yes l) = row_below w k t r u l
    go (no g) = row-above w k t r u h (omega (arith, n))

-- Two numbers of j and k bits, the first on top of the second.
pub cat-lt : (j k a b : ℕ) → a < 2 ^ j → b < 2 ^ k → a * 2 ^ k + b < 2 ^ (j + k)
cat-lt j k a b ha hb = omega (arith, mul-le-mul_right (2 ^ k) ha, suc-mul a (2 ^ k), pow-add 2 j k)

-- A number of w bits put on top of a key of n rows makes one of n + 1 rows.
pub cons-lt : (w n a r : ℕ) → a < 2 ^ (w * n) → r < 2 ^ w → a * 2 ^ w + r < 2 ^ (w * suc n)
cons-lt w n a r ha hr = subst (λ (x : ℕ). a * 2 ^ w + r < 2 ^ x) (sym (mul-suc w n)) (cat-lt (w * n) w a r ha hr)

-- A key of n rows stays one.
pub with-lt : (w n k t r : ℕ) → t < n → r < 2 ^ w → k < 2 ^ (w * n) → with_row w k t r < 2 ^ (w * n)
unfolding with_row
with-lt w n k t r l h b =
    let q : w * t + w ≤ w * n = below w l in
    let e : w * n ≡ (w * n - (w * t + w)) + (w * t + w) = omega arith in
    let f : w * n ≡ ((w * n - (w * t + w)) + w) + w * t = omega arith in
    let x : k / 2 ^ (w * t) / 2 ^ w < 2 ^ (w * n - (w * t + w)) =
    rw (shr-shr k (w * t) w) (shr_lt (w * n - (w * t + w)) (w * t + w) (subst (λ (y : ℕ). k < 2 ^ y) e b)) in
    subst (λ (y : ℕ). (k / 2 ^ (w * t) / 2 ^ w * 2 ^ w + r) * 2 ^ (w * t) + k % 2 ^ (w * t) < 2 ^ y) (sym f)
    (cat-lt ((w * n - (w * t + w)) + w) (w * t) (k / 2 ^ (w * t) / 2 ^ w * 2 ^ w + r) (k % 2 ^ (w * t))
    (cat-lt (w * n - (w * t + w)) w (k / 2 ^ (w * t) / 2 ^ w) r x h)
    (mod-lt k (pow_pos (w * t))))

-- ---- what tells keys apart

-- Bit d of a key is bit d mod w of row d / w.
pub bit-row : (w k d : ℕ) → 0 < w → bit_of k d ≡ bit_of (row_of w k (d / w)) (d % w)
unfolding row_of
bit-row w k d h =
    ap (bit_of k) (sym (div-add-mod d w))
    ∙ sym (bit_high k (w * (d / w)) (d % w))
    ∙ sym (bit-low (k / 2 ^ (w * (d / w))) w (d % w) (mod-lt d h))

-- Where a key has bits, a row has.
some_bits : (w n d : ℕ) → d < w * n → 0 < w
some_bits zero n d l = absurd (not-suc-le-zero (rw (zero-mul n) at l))
some_bits (suc w) n d l = omega arith

-- Two keys of n rows with equal rows are equal: then all their bits are.
pub rows_eq : (w n a b : ℕ) → a < 2 ^ (w * n) → b < 2 ^ (w * n) → ((t : ℕ) → t < n → row_of w a t ≡ row_of w b t) → a ≡ b
rows_eq w n a b ha hb h = bits-eq (w * n) a b ha hb each
  where
    each : (d : ℕ) → d < w * n → bit_of a d ≡ bit_of b d
    each d l =
        let p = some_bits w n d l in
        bit-row w a d p ∙ ap (λ (x : ℕ). bit_of x (d % w)) (h (d / w) ((div-lt_iff_lt-mul p).1 (subst (λ (x : ℕ). d < x) (mul_comm w n) l))) ∙ sym (bit-row w b d p)

-- ---- the code's masks

-- All bits of j + w + s set but the w from s on.
hollow : (j w s : ℕ) → (2 ^ (j + w + s) - 1) - (2 ^ w - 1) * 2 ^ s ≡ (2 ^ (j + w) - 2 ^ w) * 2 ^ s + (2 ^ s - 1)
hollow j w s =
    let p = pow-add 2 (j + w) s in
    let q : (2 ^ w - 1) * 2 ^ s ≡ 2 ^ w * 2 ^ s - 2 ^ s = spread (2 ^ w) 1 ∙ ap (λ (x : ℕ). 2 ^ w * 2 ^ s - x) (one-mul (2 ^ s)) in
    let r : (2 ^ (j + w) - 2 ^ w) * 2 ^ s ≡ 2 ^ (j + w) * 2 ^ s - 2 ^ w * 2 ^ s = spread (2 ^ (j + w)) (2 ^ w) in
    let wide : 2 ^ w * 2 ^ s ≤ 2 ^ (j + w) * 2 ^ s = mul-le-mul_right (2 ^ s) (pow_mono (omega arith)) in
    let one : 1 * 2 ^ s ≤ 2 ^ w * 2 ^ s = mul-le-mul_right (2 ^ s) (pow_pos w) in
    omega (arith, p, q, r, wide, one, pow_pos s)
  where
    spread : (a b : ℕ) → (a - b) * 2 ^ s ≡ a * 2 ^ s - b * 2 ^ s
    spread a b = mul_comm (a - b) (2 ^ s) ∙ mul-sub (2 ^ s) a b ∙ ap₂ (λ (x y : ℕ). x - y) (mul_comm (2 ^ s) a) (mul_comm (2 ^ s) b)

-- The w bits from s on cleared.
cleared : (j w s k : ℕ) → k < 2 ^ (j + w + s)
    → bit_and k ((2 ^ (j + w + s) - 1) - (2 ^ w - 1) * 2 ^ s) ≡ (k / 2 ^ s / 2 ^ w * 2 ^ w) * 2 ^ s + k % 2 ^ s
cleared j w s k h =
    ap₂ bit_and (sym (split k s)) (hollow j w s)
    ∙ and_block s (k / 2 ^ s) (2 ^ (j + w) - 2 ^ w) (k % 2 ^ s) (2 ^ s - 1) (mod-lt k (pow_pos s)) (ones_lt s)
    ∙ ap₂ (λ (x y : ℕ). x * 2 ^ s + y)
    (and_high (k / 2 ^ s) j w ∙ ap (λ (x : ℕ). x * 2 ^ w) (shr_mod j w (shr_lt (j + w) s h)))
    (and_mask (k % 2 ^ s) s ∙ mod-mod k (2 ^ s))

-- What the code computes is the key with the row put in; N is the width of the word, j the bits above the row.
pub replaced : (N j w k t r : ℕ) → j + w + w * t ≡ N → k < 2 ^ N → r < 2 ^ w
    → bit_or (bit_and k ((2 ^ N - 1) - ((2 ^ w - 1) * 2 ^ (w * t)) % 2 ^ N)) ((r * 2 ^ (w * t)) % 2 ^ N) ≡ with_row w k t r
unfolding with_row
replaced N j w k t r e hk hr =
    ap₂ (λ (x y : ℕ). bit_or (bit_and k ((2 ^ N - 1) - x)) y) (shl_exact w (w * t) N (ones_lt w) (omega arith)) (shl_exact w (w * t) N hr (omega arith))
    ∙ ap (λ (x : ℕ). bit_or (bit_and k ((2 ^ x - 1) - (2 ^ w - 1) * 2 ^ (w * t))) (r * 2 ^ (w * t))) (sym e)
    ∙ ap₂ bit_or (cleared j w (w * t) k (subst (λ (x : ℕ). k < 2 ^ x) (sym e) hk)) (sym (add-zero (r * 2 ^ (w * t))))
    ∙ or_block (w * t) (k / 2 ^ (w * t) / 2 ^ w * 2 ^ w) r (k % 2 ^ (w * t)) 0 (mod-lt k (pow_pos (w * t))) (pow_pos (w * t))
    ∙ ap₂ (λ (x y : ℕ). x * 2 ^ (w * t) + y) (or_shifted (k / 2 ^ (w * t) / 2 ^ w) w r hr) (or_zero_r (k % 2 ^ (w * t)))
