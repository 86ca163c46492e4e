-- The laws of a word's bits: what tells two words apart, the bits of `&`, `|` and `^`, the lowest set bit, a bit taken away, the lowest one by a mask, and
-- how many ones are left as they go one after the other. Assumes nothing.
use Prim.Native.Nat.{ℕ, zero, suc, ◌+◌, ◌-◌, ◌*◌, ◌/◌, ◌%◌, ◌^◌, ◌≤◌, ◌<◌}
use mathlib.Core.Path.{◌≡◌, refl, sym, ap, ap₂, subst, ◌∙◌}
use mathlib.Core.Bool.{Bool, true, false, not, cond, ◌&&◌, ◌||◌, true≢false}
use mathlib.Core.Logic.{◌≢◌, ⊎_elim}
use native.Mathlib.Omega.{arith}
use native.Mathlib.Decide.{dec_lt}
use native.Mathlib.Numerals.{add-one}
use native.Mathlib.Nat.{mod-lt, min-zero, zero-div, pow-suc, pow-zero, mul-suc, mul-zero, suc-mul, div-eq_of_lt, div_self, lt_of_lt_of_le}
use lib.Arith.{lt-one}
use lib.Bits.{bit_and, bit_or, bit_xor, and_step, and_zero_l, and_self, and_block, and_shr, and_mod, and_lt, or_shr, or_mod, xor_shr, xor_mod}
use lib.Count.{ones, ones_step, ones_cat, ones-le, count_trailing_zeros, under}
use lib.Dec.{eqb}
use lib.Pow.{pow-add, pow_pos, ones_lt, pow_mono, split, high, low, field, mod-mod-pow, recompose, shr-shr, shr_lt}
use borrow.Author.Tests.{eqb-true, eq-eqb, ne_eqb}
use Rattle.laws.specs.Tests.{any}
use Rattle.laws.proofs.TestLaws.{which, clash, any_some, any_of}
use Rattle.words.specs.Words.{bit_of, LowestBit}

-- ---- parts of a word

pub pow-pow : (w t : ℕ) → (2 ^ w) ^ t ≡ 2 ^ (w * t)
pow-pow w zero = pow-zero (2 ^ w) ∙ sym (ap (λ (x : ℕ). 2 ^ x) (mul-zero w))
pow-pow w (suc t) =
    pow-suc (2 ^ w) t ∙ ap (λ (x : ℕ). x * 2 ^ w) (pow-pow w t) ∙ sym (pow-add 2 (w * t) w) ∙ ap (λ (x : ℕ). 2 ^ x) (sym (mul-suc w t))

-- c bits from a on, where all of them lie within the b low bits.
pub cut : (n a b c : ℕ) → a + c ≤ b → n % 2 ^ b / 2 ^ a % 2 ^ c ≡ n / 2 ^ a % 2 ^ c
cut n a b c h =
    let e : b ≡ (b - (a + c)) + c + a = omega arith in
    ap (λ (x : ℕ). n % 2 ^ x / 2 ^ a % 2 ^ c) e ∙ ap (λ (x : ℕ). x % 2 ^ c) (field n ((b - (a + c)) + c) a) ∙ mod-mod-pow (n / 2 ^ a) (b - (a + c)) c

-- A shift in two steps.
pub shift : (n a b : ℕ) → a ≤ b → n / 2 ^ b ≡ n / 2 ^ a / 2 ^ (b - a)
shift n a b h = let e : b ≡ a + (b - a) = omega arith in ap (λ (x : ℕ). n / 2 ^ x) e ∙ sym (shr-shr n a (b - a))

-- ---- one digit

digits : (P : ℕ → ℕ → Type 0) → P 0 0 → P 0 1 → P 1 0 → P 1 1 → (x y : ℕ) → x < 2 → y < 2 → P x y
digits P a b c d zero zero hx hy = a
digits P a b c d zero (suc zero) hx hy = b
digits P a b c d (suc zero) zero hx hy = c
digits P a b c d (suc zero) (suc zero) hx hy = d
digits P a b c d zero (suc (suc y)) hx hy = absurd (omega arith)
digits P a b c d (suc zero) (suc (suc y)) hx hy = absurd (omega arith)
digits P a b c d (suc (suc x)) y hx hy = absurd (omega arith)

digit_lt : (n d : ℕ) → n / 2 ^ d % 2 < 2
digit_lt n d = mod-lt (n / 2 ^ d) (omega arith)

pub same-digit : (a b d : ℕ) → bit_of a d ≡ bit_of b d → a / 2 ^ d % 2 ≡ b / 2 ^ d % 2
unfolding bit_of
same-digit a b d =
    digits (λ x y. eqb x 1 ≡ eqb y 1 → x ≡ y) (λ e. refl) (λ e. absurd (true≢false (sym e))) (λ e. absurd (true≢false e)) (λ e. refl)
    (a / 2 ^ d % 2) (b / 2 ^ d % 2) (digit_lt a d) (digit_lt b d)

pub bit-low : (n b d : ℕ) → d < b → bit_of (n % 2 ^ b) d ≡ bit_of n d
unfolding bit_of
bit-low n b d l = ap (λ (x : ℕ). eqb x 1) (cut n d b 1 (omega arith))

pub bit_high : (n a d : ℕ) → bit_of (n / 2 ^ a) d ≡ bit_of n (a + d)
unfolding bit_of
bit_high n a d = ap (λ (x : ℕ). eqb (x % 2) 1) (shr-shr n a d)

-- Two words of D bits with equal bits are equal.
pub bits-eq : (D a b : ℕ) → a < 2 ^ D → b < 2 ^ D → ((d : ℕ) → d < D → bit_of a d ≡ bit_of b d) → a ≡ b
bits-eq zero a b ha hb h = lt-one ha ∙ sym (lt-one hb)
bits-eq (suc n) a b ha hb h =
    let e : suc n ≡ 1 + n = omega arith in
    let lows : a % 2 ^ n ≡ b % 2 ^ n =
    bits-eq n (a % 2 ^ n) (b % 2 ^ n) (mod-lt a (pow_pos n)) (mod-lt b (pow_pos n))
    (λ d l. bit-low a n d l ∙ h d (omega arith) ∙ sym (bit-low b n d l)) in
    sym (recompose 1 n (subst (λ (x : ℕ). a < 2 ^ x) e ha))
    ∙ ap₂ (λ (x y : ℕ). x * 2 ^ n + y) (same-digit a b n (h n (omega arith))) lows
    ∙ recompose 1 n (subst (λ (x : ℕ). b < 2 ^ x) e hb)

pub zero_bit : (d : ℕ) → bit_of 0 d ≡ false
unfolding bit_of
zero_bit d = ap (λ (x : ℕ). eqb (x % 2) 1) (zero-div (2 ^ d))

-- A set bit lies below any bound of its word.
pub bit-lt : (k m d : ℕ) → k < 2 ^ m → bit_of k d ≡ true → d < m
unfolding bit_of
bit-lt k m d h e = go (dec_lt d m)
  where
    go : Dec (d < m) → d < m
    go (yes l) = l
    go (no g) =
        let p : 2 ^ m ≤ 2 ^ d = pow_mono (omega arith) in
        let z : k / 2 ^ d ≡ 0 = div-eq_of_lt (lt_of_lt_of_le h p) in
        absurd (clash e (ap (λ (x : ℕ). eqb (x % 2) 1) z))

-- ---- two words, bit by bit

-- An operation that goes digit by digit, and what it does on a digit.
bit-by-bit : (op : ℕ → ℕ → ℕ) (on : Bool → Bool → Bool)
    → ((a b k : ℕ) → op a b / 2 ^ k ≡ op (a / 2 ^ k) (b / 2 ^ k)) → ((a b k : ℕ) → op a b % 2 ^ k ≡ op (a % 2 ^ k) (b % 2 ^ k))
    → ((x y : ℕ) → x < 2 → y < 2 → eqb (op x y) 1 ≡ on (eqb x 1) (eqb y 1))
    → (a b d : ℕ) → bit_of (op a b) d ≡ on (bit_of a d) (bit_of b d)
unfolding bit_of
bit-by-bit op on shr low_part each a b d =
    ap (λ (x : ℕ). eqb x 1) (ap (λ (x : ℕ). x % 2) (shr a b d) ∙ low_part (a / 2 ^ d) (b / 2 ^ d) 1)
    ∙ each (a / 2 ^ d % 2) (b / 2 ^ d % 2) (digit_lt a d) (digit_lt b d)

pub bit-and : (a b d : ℕ) → bit_of (bit_and a b) d ≡ bit_of a d && bit_of b d
bit-and = bit-by-bit bit_and ◌&&◌ and_shr and_mod (digits (λ x y. eqb (bit_and x y) 1 ≡ eqb x 1 && eqb y 1) refl refl refl refl)

pub bit-or : (a b d : ℕ) → bit_of (bit_or a b) d ≡ bit_of a d || bit_of b d
bit-or = bit-by-bit bit_or ◌||◌ or_shr or_mod (digits (λ x y. eqb (bit_or x y) 1 ≡ eqb x 1 || eqb y 1) refl refl refl refl)

-- Where the second word has a bit, the first one's is turned.
pub bit-xor : (a b d : ℕ) → bit_of (bit_xor a b) d ≡ cond (bit_of b d) (not (bit_of a d)) (bit_of a d)
bit-xor =
    bit-by-bit bit_xor (λ x y. cond y (not x) x) xor_shr xor_mod
    (digits (λ x y. eqb (bit_xor x y) 1 ≡ cond (eqb y 1) (not (eqb x 1)) (eqb x 1)) refl refl refl refl)

-- Words that have no bit in common, and words that have one.
pub apart-zero : (N a b : ℕ) → a < 2 ^ N → b < 2 ^ N → ((d : ℕ) → d < N → bit_of a d && bit_of b d ≡ false) → bit_and a b ≡ 0
apart-zero N a b ha hb h =
    bits-eq N (bit_and a b) 0 (and_lt N a b ha hb) (pow_pos N) (λ d l. bit-and a b d ∙ h d l ∙ sym (zero_bit d))

pub shared-not : (a b d : ℕ) → bit_of a d && bit_of b d ≡ true → bit_and a b ≡ 0 → ⊥
shared-not a b d e z = clash (bit-and a b d ∙ e) (ap (λ (x : ℕ). bit_of x d) z ∙ zero_bit d)

-- The test by a mask is the test bit by bit.
pub shares-any : (N a b : ℕ) → a < 2 ^ N → b < 2 ^ N → not (eqb (bit_and a b) 0) ≡ any N (λ d. bit_of a d && bit_of b d)
shares-any N a b ha hb = ⊎_elim yes-case no-case (which (any N common))
  where
    common : ℕ → Bool
    common d = bit_of a d && bit_of b d

    yes-case : any N common ≡ true → not (eqb (bit_and a b) 0) ≡ any N common
    yes-case e = let u = any_some N common e in rw (e, ne_eqb (bit_and a b) 0 (shared-not a b u.0 u.2))

    none : any N common ≡ false → (d : ℕ) → d < N → common d ≡ false
    none e d l = ⊎_elim (λ t. absurd (clash (any_of N common d l t) e)) (λ f. f) (which (common d))

    no-case : any N common ≡ false → not (eqb (bit_and a b) 0) ≡ any N common
    no-case e = rw (e, eq-eqb (bit_and a b) 0 (apart-zero N a b ha hb (none e)))

-- ---- the lowest set bit

-- The bits of n are its lowest digit and the bits of its half.
first_bit : (n d : ℕ) → n % 2 ≡ d → bit_of n 0 ≡ eqb d 1
unfolding bit_of
first_bit n d e = let o : n / 1 ≡ n = omega arith in ap (λ (x : ℕ). eqb (x % 2) 1) o ∙ ap (λ (x : ℕ). eqb x 1) e

later-bit : (n d : ℕ) → bit_of n (suc d) ≡ bit_of (n / 2) d
later-bit n d = let e : suc d ≡ 1 + d = omega arith in ap (bit_of n) e ∙ sym (bit_high n 1 d)

-- An even word's lowest set bit is one above its half's.
even-lowest : (k n a : ℕ) → n % 2 ≡ 0 → LowestBit k (n / 2) a → LowestBit (suc k) n (suc a)
even-lowest k n a e x = record { narrow = omega (arith, x.narrow); itself = later-bit n a ∙ x.itself; below = below }
  where
    below : (d : ℕ) → d < suc a → bit_of n d ≡ false
    below zero l = first_bit n 0 e
    below (suc d) l = later-bit n d ∙ x.below d (omega arith)

pub trailing-lowest : (k n : ℕ) → 0 < n → n < 2 ^ k → LowestBit k n (count_trailing_zeros k n)
unfolding count_trailing_zeros
trailing-lowest zero n p h = absurd (omega arith)
trailing-lowest (suc k) n p h = go (n % 2) refl (λ q. trailing-lowest k (n / 2) q (shr_lt k 1 (subst (λ (x : ℕ). n < 2 ^ x) (sym (add-one k)) h)))
  where
    go : (d : ℕ) → n % 2 ≡ d → (0 < n / 2 → LowestBit k (n / 2) (count_trailing_zeros k (n / 2))) → LowestBit (suc k) n (under d (count_trailing_zeros k (n / 2)))
    go zero e ih = even-lowest k n (count_trailing_zeros k (n / 2)) e (ih (omega arith))
    go (suc d) e ih =
        let f : n % 2 ≡ 1 = omega arith in
        record { narrow = omega arith; itself = first_bit n 1 f; below = λ i l. absurd (omega arith) }

-- There is one lowest set bit.
pub lowest-one : (v w k a b : ℕ) → LowestBit v k a → LowestBit w k b → a ≡ b
lowest-one v w k a b x y = go (dec_lt a b) (dec_lt b a)
  where
    go : Dec (a < b) → Dec (b < a) → a ≡ b
    go (yes l) m = absurd (clash x.itself (y.below a l))
    go (no f) (yes m) = absurd (clash y.itself (x.below b m))
    go (no f) (no g) = omega arith

-- ---- a bit taken away

-- A word less a bit that it has: the digit there becomes 0, and the others stay.
pub less-bit : (k a : ℕ) → bit_of k a ≡ true → (2 ^ a ≤ k) × (k - 2 ^ a ≡ (k / 2 ^ a / 2 * 2) * 2 ^ a + k % 2 ^ a)
unfolding bit_of
less-bit k a h =
    let q : k / 2 ^ a % 2 ≡ 1 = eqb-true (k / 2 ^ a % 2) 1 h in
    let e : k / 2 ^ a ≡ suc (k / 2 ^ a / 2 * 2) = omega arith in
    let s : k / 2 ^ a * 2 ^ a + k % 2 ^ a ≡ k = split k a in
    let m : k / 2 ^ a * 2 ^ a ≡ (k / 2 ^ a / 2 * 2) * 2 ^ a + 2 ^ a = ap (λ (x : ℕ). x * 2 ^ a) e ∙ suc-mul (k / 2 ^ a / 2 * 2) (2 ^ a) in
    (omega arith, omega arith)

pub less-lt : (k a : ℕ) → bit_of k a ≡ true → k - 2 ^ a < k
less-lt k a h = omega (arith, (less-bit k a h).0, pow_pos a)

-- The word less bit a, seen from bit d.
module _ (k a : ℕ) (h : bit_of k a ≡ true) where
  pub bit-gone : bit_of (k - 2 ^ a) a ≡ false
  unfolding bit_of
  bit-gone =
      let e : k / 2 ^ a / 2 * 2 % 2 ≡ 0 = omega arith in
      rw ((less-bit k a h).1, high (k / 2 ^ a / 2 * 2) a (mod-lt k (pow_pos a)), e)

  kept-below : (d : ℕ) → d < a → bit_of (k - 2 ^ a) d ≡ bit_of k d
  kept-below d l =
      sym (bit-low (k - 2 ^ a) a d l)
      ∙ ap (λ (x : ℕ). bit_of x d) (ap (λ (x : ℕ). x % 2 ^ a) (less-bit k a h).1 ∙ low (k / 2 ^ a / 2 * 2) a (mod-lt k (pow_pos a)))
      ∙ bit-low k a d l

  -- Above bit a the word stays.
  above_kept : (k - 2 ^ a) / 2 ^ a / 2 ≡ k / 2 ^ a / 2
  above_kept =
      let half : k / 2 ^ a / 2 * 2 / 2 ≡ k / 2 ^ a / 2 = omega arith in
      ap (λ (x : ℕ). x / 2) (ap (λ (x : ℕ). x / 2 ^ a) (less-bit k a h).1 ∙ high (k / 2 ^ a / 2 * 2) a (mod-lt k (pow_pos a))) ∙ half

  kept_above : (d : ℕ) → a < d → bit_of (k - 2 ^ a) d ≡ bit_of k d
  kept_above d l =
      let e : d ≡ a + suc (d - suc a) = omega arith in
      ap (bit_of (k - 2 ^ a)) e
      ∙ sym (bit_high (k - 2 ^ a) a (suc (d - suc a)))
      ∙ later-bit ((k - 2 ^ a) / 2 ^ a) (d - suc a)
      ∙ ap (λ (x : ℕ). bit_of x (d - suc a)) above_kept
      ∙ sym (later-bit (k / 2 ^ a) (d - suc a))
      ∙ bit_high k a (suc (d - suc a))
      ∙ ap (bit_of k) (sym e)

  pub bit_kept : (d : ℕ) → d ≢ a → bit_of (k - 2 ^ a) d ≡ bit_of k d
  bit_kept d n = go (dec_lt d a)
    where
      go : Dec (d < a) → bit_of (k - 2 ^ a) d ≡ bit_of k d
      go (yes l) = kept-below d l
      go (no g) = kept_above d (omega (arith, n))

-- ---- the lowest bit taken away by a mask

-- Below the lowest set bit there is nothing.
pub lowest-low : (w k a : ℕ) → LowestBit w k a → k % 2 ^ a ≡ 0
lowest-low w k a x =
    bits-eq a (k % 2 ^ a) 0 (mod-lt k (pow_pos a)) (pow_pos a) (λ d l. bit-low k a d l ∙ x.below d l ∙ sym (zero_bit d))

-- A word and its even part have the even part in common.
even-part : (q : ℕ) → bit_and q (q / 2 * 2) ≡ q / 2 * 2
even-part q =
    let e : q / 2 * 2 % 2 ≡ 0 = omega arith in
    let f : q / 2 * 2 / 2 ≡ q / 2 = omega arith in
    and_step q (q / 2 * 2) ∙ rw (e, f, and_self (q / 2), min-zero (q % 2)) (omega arith)

-- The word less 1 has the bits above the lowest one, not that one, and all below it.
pub masked-lowest : (w k a : ℕ) → LowestBit w k a → bit_and k (k - 1) ≡ k - 2 ^ a
masked-lowest w k a x =
    let q : ℕ = k / 2 ^ a in
    let z : k % 2 ^ a ≡ 0 = lowest-low w k a x in
    let whole : k ≡ q * 2 ^ a + 0 = omega (arith, split k a) in
    let less : k - 1 ≡ q / 2 * 2 * 2 ^ a + (2 ^ a - 1) = omega (arith, less-bit k a x.itself, pow_pos a) in
    let gone : q / 2 * 2 * 2 ^ a + 0 ≡ k - 2 ^ a = omega (arith, less-bit k a x.itself) in
    ap₂ bit_and whole less
    ∙ and_block a q (q / 2 * 2) 0 (2 ^ a - 1) (pow_pos a) (ones_lt a)
    ∙ ap₂ (λ (m n : ℕ). m * 2 ^ a + n) (even-part q) (and_zero_l (2 ^ a - 1))
    ∙ gone

-- ---- ones

ones_none : ones 0 ≡ 0
ones_none = omega (arith, ones-le 0 0 (omega arith))

ones_halves : (k a : ℕ) → ones k ≡ ones (k / 2 ^ a) + ones (k % 2 ^ a)
ones_halves k a = ap ones (sym (split k a)) ∙ ones_cat a (k / 2 ^ a) (k % 2 ^ a) (mod-lt k (pow_pos a))

-- A word less a bit that it has: there is one 1 fewer.
pub ones-less : (k a : ℕ) → bit_of k a ≡ true → ones (k - 2 ^ a) + 1 ≡ ones k
unfolding bit_of
ones-less k a h =
    let q : ℕ = k / 2 ^ a in
    let odd : q % 2 ≡ 1 = eqb-true (q % 2) 1 h in
    let even : q / 2 * 2 % 2 ≡ 0 = omega arith in
    let half : ones (q / 2 * 2 / 2) ≡ ones (q / 2) = ap ones (omega arith) in
    let e : ones (k - 2 ^ a) ≡ ones (q / 2 * 2) + ones (k % 2 ^ a) = ap ones (less-bit k a h).1 ∙ ones_cat a (q / 2 * 2) (k % 2 ^ a) (mod-lt k (pow_pos a)) in
    omega (arith, e, ones_halves k a, ones_step q, ones_step (q / 2 * 2), half, odd, even)

-- ---- the set bits one after the other

-- What is left of a word whose set bits are gone through from the lowest: from its own lowest on it is the word.
abbrev pub LeftOf : ℕ → ℕ → Type 0
LeftOf whole rest = (v b : ℕ) → LowestBit v rest b → rest / 2 ^ b ≡ whole / 2 ^ b

-- The lowest bit of what is left lies above the one that was taken.
next-above : (w k a : ℕ) → LowestBit w k a → (v b : ℕ) → LowestBit v (k - 2 ^ a) b → a < b
next-above w k a x v b y = go (dec_lt a b) (dec_lt b a)
  where
    go : Dec (a < b) → Dec (b < a) → a < b
    go (yes l) m = l
    go (no f) (yes m) = absurd (clash y.itself (kept-below k a x.itself b m ∙ x.below b m))
    go (no f) (no g) =
        let e : b ≡ a = omega arith in
        absurd (clash y.itself (rw e (bit-gone k a x.itself)))

-- A shift past bit a.
past : (n a b : ℕ) → a < b → n / 2 ^ b ≡ n / 2 ^ a / 2 / 2 ^ (b - (a + 1))
past n a b l = shift n (a + 1) b (omega arith) ∙ ap (λ (q : ℕ). q / 2 ^ (b - (a + 1))) (sym (shr-shr n a 1))

module _ (whole rest w a : ℕ) (k : LeftOf whole rest) (x : LowestBit w rest a) where
  -- The ones that are gone through are those below the next.
  pub left-ones : ones (whole % 2 ^ a) + ones rest ≡ ones whole
  left-ones =
      let z : ones (rest % 2 ^ a) ≡ 0 = ap ones (lowest-low w rest a x) ∙ ones_none in
      omega (arith, z, ap ones (k w a x), ones_halves whole a, ones_halves rest a)

  pub left-next : LeftOf whole (rest - 2 ^ a)
  left-next v b y =
      let l : a < b = next-above w rest a x v b y in
      past (rest - 2 ^ a) a b l
      ∙ ap (λ (q : ℕ). q / 2 ^ (b - (a + 1))) (above_kept rest a x.itself ∙ ap (λ (q : ℕ). q / 2) (k w a x))
      ∙ sym (past whole a b l)

-- ---- one bit alone

pub one-itself : (a : ℕ) → bit_of (2 ^ a) a ≡ true
unfolding bit_of
one-itself a = let e : 2 ^ a / 2 ^ a ≡ 1 = div_self (pow_pos a) in ap (λ (x : ℕ). eqb (x % 2) 1) e

pub one-other : (a d : ℕ) → d ≢ a → bit_of (2 ^ a) d ≡ false
one-other a d n = let z : 2 ^ a - 2 ^ a ≡ 0 = omega arith in sym (bit_kept (2 ^ a) a (one-itself a) d n) ∙ ap (λ (x : ℕ). bit_of x d) z ∙ zero_bit d
