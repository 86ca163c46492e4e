-- A key's two words and its number: each is read from the other, and the rows and bits of the number are those of the word that its table lies in.
-- Over the bits w of a row, the s tables of the first word, and the bits of a word. Last, the same at the sizes of the machine. Assumes nothing.
use Prim.Native.Nat.{ℕ, ◌+◌, ◌*◌, ◌/◌, ◌%◌, ◌^◌, ◌≤◌, ◌<◌}
use mathlib.Core.Path.{◌≡◌, sym, ap, ap₂, ◌∙◌}
use mathlib.Core.Bool.{true, false, not, ◌&&◌}
use mathlib.Core.Logic.{◌⊎◌, inl, inr, ◌↔◌}
use native.Mathlib.Omega.{arith}
use native.Mathlib.Decide.{dec_lt, ℕ_discrete}
use native.Mathlib.Nat.{mod-lt, mul-add, add-mul, mul_assoc, mul-le-mul_right, suc-mul, one-mul, add_comm, mul-add-mod_self_right, le-div_iff_mul-le, div-eq_of_lt, mod-eq_of_lt, lt_of_lt_of_le}
use lib.Pow.{pow_pos, pow_mono, pow-add, split, high, low, shr-shr, shr_lt}
use lib.Dec.{eqb, leb}
use borrow.Author.Tests.{eq-eqb, ne_eqb, le-leb, lt-leb}
use Rattle.words.specs.Words.{bit_of}
use Rattle.words.proofs.WordLaws.{cut}
use Rattle.keys.specs.Keys.{bits_per_row, most_tables, row_of, with_row}
use Rattle.keys.specs.TwoWords.{bits_per_word, bits_in_low, joined, first_word, second_word, number_in, low_of, high_of, number_of, key_with, Before}
use Rattle.keys.specs.declared.Key.{Key}
use Rattle.keys.proofs.KeyLaws.{below, with-lt, cat-lt}

-- ---- the words of a number

module _ (b wide : ℕ) where
  -- What stands lowest, and what stands above it.
  joined-rows : (x y : ℕ) → joined b wide x y % 2 ^ b ≡ x % 2 ^ b
  unfolding joined
  joined-rows x y = low (x / 2 ^ b * 2 ^ wide + y) b (mod-lt x (pow_pos b))

  joined-above : (x y : ℕ) → joined b wide x y / 2 ^ b ≡ x / 2 ^ b * 2 ^ wide + y
  unfolding joined
  joined-above x y = high (x / 2 ^ b * 2 ^ wide + y) b (mod-lt x (pow_pos b))

  -- The words are read back from their number, ..
  pub first-joined : (x y : ℕ) → y < 2 ^ wide → first_word b wide (joined b wide x y) ≡ x
  unfolding first_word
  first-joined x y h = rw (joined-above x y, high (x / 2 ^ b) wide h, joined-rows x y) (split x b)

  pub second-joined : (x y : ℕ) → y < 2 ^ wide → second_word b wide (joined b wide x y) ≡ y
  unfolding second_word
  second-joined x y h = rw (joined-above x y) (low (x / 2 ^ b) wide h)

  -- .. and the number from its words.
  pub joined_words : (k : ℕ) → joined b wide (first_word b wide k) (second_word b wide k) ≡ k
  unfolding joined first_word second_word
  joined_words k =
      let q = k / 2 ^ b / 2 ^ wide in
      let r = mod-lt k (pow_pos b) in
      rw (high q b r, low q b r, split (k / 2 ^ b) wide) (split k b)

  -- So two pairs of words with one number are one pair.
  pub joined-one : (x y u v : ℕ) → y < 2 ^ wide → v < 2 ^ wide → joined b wide x y ≡ joined b wide u v → (x ≡ u) × (y ≡ v)
  joined-one x y u v hy hv e = (
    sym (first-joined x y hy) ∙ ap (first_word b wide) e ∙ first-joined u v hv,
    sym (second-joined x y hy) ∙ ap (second_word b wide) e ∙ second-joined u v hv,
  )

  -- The test of two pairs of words is that of their numbers.
  pub joined_same : (x y u v : ℕ) → y < 2 ^ wide → v < 2 ^ wide → eqb x u && eqb y v ≡ eqb (joined b wide x y) (joined b wide u v)
  joined_same x y u v hy hv = go (ℕ_discrete x u) (ℕ_discrete y v)
    where
      other : ((x ≡ u) × (y ≡ v) → ⊥) → false ≡ eqb (joined b wide x y) (joined b wide u v)
      other n = sym (ne_eqb (joined b wide x y) (joined b wide u v) (λ e. n (joined-one x y u v hy hv e)))

      go : Dec (x ≡ u) → Dec (y ≡ v) → eqb x u && eqb y v ≡ eqb (joined b wide x y) (joined b wide u v)
      go (no n) e = rw (ne_eqb x u n) (other (λ h. n h.0))
      go (yes d) (no n) = rw (eq-eqb x u d, ne_eqb y v n) (other (λ h. n h.1))
      go (yes d) (yes e) = rw (eq-eqb x u d, eq-eqb y v e) (sym (eq-eqb (joined b wide x y) (joined b wide u v) (ap₂ (joined b wide) d e)))

  -- A number with room below both words' bits has no spare bit in the first: its words are its two parts.
  pub first_plain : (k : ℕ) → k < 2 ^ (wide + b) → first_word b wide k ≡ k % 2 ^ b
  unfolding first_word
  first_plain k h = rw (div-eq_of_lt (shr_lt wide b h)) (omega arith)

  pub second_plain : (k : ℕ) → k < 2 ^ (wide + b) → second_word b wide k ≡ k / 2 ^ b
  unfolding second_word
  second_plain k h = mod-eq_of_lt (shr_lt wide b h)

  -- ---- words without spare bits, and with one

  module _ (x y : ℕ) where
    -- Without one in the first word the number is a sum.
    pub joined-plain : x < 2 ^ b → joined b wide x y ≡ x + y * 2 ^ b
    unfolding joined
    joined-plain h = rw (div-eq_of_lt h, mod-eq_of_lt h) (omega arith)

    -- Without one in either it is the number of a key,
    pub joined-lt : (j : ℕ) → x < 2 ^ b → y < 2 ^ j → joined b wide x y < 2 ^ (j + b)
    joined-lt j h k = omega (arith, joined-plain h, cat-lt j b y x k h)

    -- and with one it is above those of all keys.
    above : joined b wide x y ≡ (x / 2 ^ b * 2 ^ wide) * 2 ^ b + y * 2 ^ b + x % 2 ^ b
    unfolding joined
    above = ap (λ (z : ℕ). z + x % 2 ^ b) (add-mul (x / 2 ^ b * 2 ^ wide) y (2 ^ b))

    pub second-beyond : (j : ℕ) → 2 ^ j ≤ y → 2 ^ (j + b) ≤ joined b wide x y
    second-beyond j h = omega (arith, above, mul-le-mul_right (2 ^ b) h, pow-add 2 j b)

    pub first-beyond : 2 ^ b ≤ x → 2 ^ (wide + b) ≤ joined b wide x y
    first-beyond h =
        let one : 1 ≤ x / 2 ^ b = (le-div_iff_mul-le (pow_pos b)).1 (rw one-mul h) in
        let more : 1 * 2 ^ wide * 2 ^ b ≤ x / 2 ^ b * 2 ^ wide * 2 ^ b = mul-le-mul_right (2 ^ b) (mul-le-mul_right (2 ^ wide) one) in
        omega (arith, above, more, pow-add 2 wide b, ap (λ (z : ℕ). z * 2 ^ b) (one-mul (2 ^ wide)))

  -- The code's test of the spare bits, word by word, against the number's.
  spare-some : (x j : ℕ) → (x / 2 ^ j ≡ 0 → ⊥) → 2 ^ j ≤ x
  spare-some x j h = go (dec_lt x (2 ^ j))
    where
      go : Dec (x < 2 ^ j) → 2 ^ j ≤ x
      go (yes l) = absurd (h (div-eq_of_lt l))
      go (no g) = omega arith

  spare-none : (x j : ℕ) → x / 2 ^ j ≡ 0 → x < 2 ^ j
  spare-none x j h = omega (arith, split x j, mod-lt x (pow_pos j), ap (λ (z : ℕ). z * 2 ^ j) h)

  pub spare-first : (x y j : ℕ) → j ≤ wide → (x / 2 ^ b ≡ 0 → ⊥) → leb (2 ^ (j + b)) (joined b wide x y) ≡ true
  spare-first x y j l h =
      let m : 2 ^ (j + b) ≤ 2 ^ (wide + b) = pow_mono (omega arith) in
      le-leb (2 ^ (j + b)) (joined b wide x y) (omega (arith, m, first-beyond x y (spare-some x b h)))

  pub spare-second : (x y j : ℕ) → x / 2 ^ b ≡ 0 → leb (2 ^ (j + b)) (joined b wide x y) ≡ not (eqb (y / 2 ^ j) 0)
  spare-second x y j h = go (ℕ_discrete (y / 2 ^ j) 0)
    where
      go : Dec (y / 2 ^ j ≡ 0) → leb (2 ^ (j + b)) (joined b wide x y) ≡ not (eqb (y / 2 ^ j) 0)
      go (yes e) =
          rw (eq-eqb (y / 2 ^ j) 0 e) (lt-leb (2 ^ (j + b)) (joined b wide x y) (joined-lt x y j (spare-none x b h) (spare-none y j e)))
      go (no f) = rw (ne_eqb (y / 2 ^ j) 0 f) (le-leb (2 ^ (j + b)) (joined b wide x y) (second-beyond x y j (spare-some y j f)))

  -- Of two numbers without spare bits the one with the smaller second word is smaller.
  joined-order : (x y u v : ℕ) → x < 2 ^ b → u < 2 ^ b → (joined b wide x y < joined b wide u v) ↔ ((y < v) ⊎ ((y ≡ v) × (x < u)))
  joined-order x y u v hx hu = (there, back)
    where
      here : joined b wide x y ≡ x + y * 2 ^ b
      here = joined-plain x y hx

      other : joined b wide u v ≡ u + v * 2 ^ b
      other = joined-plain u v hu

      -- A smaller second word makes a smaller number.
      less : (p q r t : ℕ) → p < 2 ^ b → r < t → p + r * 2 ^ b < q + t * 2 ^ b
      less p q r t h l = omega (arith, mul-le-mul_right (2 ^ b) l, suc-mul r (2 ^ b))

      there : joined b wide x y < joined b wide u v → (y < v) ⊎ ((y ≡ v) × (x < u))
      there h = by (dec_lt y v) (dec_lt v y)
        where
          by : Dec (y < v) → Dec (v < y) → (y < v) ⊎ ((y ≡ v) × (x < u))
          by (yes l) m = inl l
          by (no f) (yes l) = absurd (omega (arith, here, other, less u x v y hu l))
          by (no f) (no g) =
              let e : y ≡ v = omega arith in
              inr (e, omega (arith, here, other, ap (λ (z : ℕ). z * 2 ^ b) e))

      back : (y < v) ⊎ ((y ≡ v) × (x < u)) → joined b wide x y < joined b wide u v
      back (inl l) = omega (arith, here, other, less x u y v hx l)
      back (inr (e, l)) = omega (arith, here, other, ap (λ (z : ℕ). z * 2 ^ b) e)

  -- ---- the bits of a number, word by word

  -- c bits from a on lie in the first word where they lie below its rows' end, ..
  field-first : (a c x y : ℕ) → a + c ≤ b → joined b wide x y / 2 ^ a % 2 ^ c ≡ x / 2 ^ a % 2 ^ c
  field-first a c x y h =
      sym (cut (joined b wide x y) a b c h) ∙ ap (λ (z : ℕ). z / 2 ^ a % 2 ^ c) (joined-rows x y) ∙ cut x a b c h

  -- .. and else in the second.
  field-second : (a c x y : ℕ) → a + c ≤ wide → joined b wide x y / 2 ^ (b + a) % 2 ^ c ≡ y / 2 ^ a % 2 ^ c
  field-second a c x y h =
      let q = x / 2 ^ b in
      ap (λ (z : ℕ). z % 2 ^ c) (sym (shr-shr (joined b wide x y) b a) ∙ ap (λ (z : ℕ). z / 2 ^ a) (joined-above x y))
      ∙ sym (cut (q * 2 ^ wide + y) a wide c h)
      ∙ ap (λ (z : ℕ). z / 2 ^ a % 2 ^ c) (mul-add-mod_self_right q (2 ^ wide) y)
      ∙ cut y a wide c h

  pub bit-first : (x y d : ℕ) → d < b → bit_of (joined b wide x y) d ≡ bit_of x d
  unfolding bit_of
  bit-first x y d h = ap (λ (z : ℕ). eqb z 1) (field-first d 1 x y (omega arith))

  pub bit-second : (x y d : ℕ) → d < wide → bit_of (joined b wide x y) (b + d) ≡ bit_of y d
  unfolding bit_of
  bit-second x y d h = ap (λ (z : ℕ). eqb z 1) (field-second d 1 x y (omega arith))

-- ---- its rows, word by word

-- The row of a number is that of its low bits, where it lies in them, ..
row_cut : (w b k t : ℕ) → w * t + w ≤ b → row_of w (k % 2 ^ b) t ≡ row_of w k t
unfolding row_of
row_cut w b k t h = cut k (w * t) b w h

-- .. and that of what stands above s rows, where it does not lie in them.
row-shift : (w s a k u : ℕ) → k < 2 ^ (w * s) → row_of w (a * 2 ^ (w * s) + k) (s + u) ≡ row_of w a u
unfolding row_of
row-shift w s a k u h =
    let n = a * 2 ^ (w * s) + k in
    ap (λ (x : ℕ). n / 2 ^ x % 2 ^ w) (mul-add w s u)
    ∙ ap (λ (x : ℕ). x % 2 ^ w) (sym (shr-shr n (w * s) (w * u)) ∙ ap (λ (x : ℕ). x / 2 ^ (w * u)) (high a (w * s) h))

-- What a row that is put in adds, and what it takes away.
with-sum : (w k t r : ℕ) → with_row w k t r + row_of w k t * 2 ^ (w * t) ≡ k + r * 2 ^ (w * t)
unfolding with_row row_of
with-sum w k t r =
    let p = 2 ^ (w * t) in
    let q = k / p / 2 ^ w * 2 ^ w in
    omega (arith, split k (w * t), ap (λ (x : ℕ). x * p) (split (k / p) w), add-mul q r p, add-mul q (k / p % 2 ^ w) p)

-- A row is put in below what stands above it, ..
with-below : (w b a k t r : ℕ) → w * t + w ≤ b → with_row w (a * 2 ^ b + k) t r ≡ a * 2 ^ b + with_row w k t r
with-below w b a k t r h =
    let n = a * 2 ^ b + k in
    let e : row_of w n t ≡ row_of w k t =
    sym (row_cut w b n t h) ∙ ap (λ (x : ℕ). row_of w x t) (mul-add-mod_self_right a (2 ^ b) k) ∙ row_cut w b k t h in
    omega (arith, with-sum w n t r, with-sum w k t r, ap (λ (x : ℕ). x * 2 ^ (w * t)) e)

-- .. and above what stands below it.
with-above : (w s a k u r : ℕ) → k < 2 ^ (w * s) → with_row w (a * 2 ^ (w * s) + k) (s + u) r ≡ with_row w a u r * 2 ^ (w * s) + k
with-above w s a k u r h =
    let b = 2 ^ (w * s) in
    let n = a * b + k in
    let p = 2 ^ (w * u) in
    let wider : 2 ^ (w * (s + u)) ≡ p * b = ap (λ (x : ℕ). 2 ^ x) (mul-add w s u ∙ add_comm (w * s) (w * u)) ∙ pow-add 2 (w * u) (w * s) in
    let whole : (x : ℕ) → x * 2 ^ (w * (s + u)) ≡ x * p * b = λ x. ap (λ (y : ℕ). x * y) wider ∙ sym (mul_assoc x p b) in
    let same = ap (λ (x : ℕ). x * p * b) (row-shift w s a k u h) in
    let f = ap (λ (x : ℕ). x * b) (with-sum w a u r) in
    omega (arith, with-sum w n (s + u) r, whole (row_of w n (s + u)), whole r, same, f, add-mul (with_row w a u r) (row_of w a u * p) b, add-mul a (r * p) b)

module _ (w s wide : ℕ) where
  pub row_first : (x y t : ℕ) → t < s → row_of w (joined (w * s) wide x y) t ≡ row_of w x t
  unfolding row_of
  row_first x y t l = field-first (w * s) wide (w * t) w x y (below w l)

  pub row-second : (x y u : ℕ) → w * u + w ≤ wide → row_of w (joined (w * s) wide x y) (s + u) ≡ row_of w y u
  unfolding row_of
  row-second x y u h =
      ap (λ (z : ℕ). joined (w * s) wide x y / 2 ^ z % 2 ^ w) (mul-add w s u) ∙ field-second (w * s) wide (w * u) w x y h

  pub with_first : (x y t r : ℕ) → t < s → r < 2 ^ w → joined (w * s) wide (with_row w x t r) y ≡ with_row w (joined (w * s) wide x y) t r
  unfolding joined
  with_first x y t r l h =
      let b = w * s in
      let q = x / 2 ^ b in
      let k = x % 2 ^ b in
      let m = mod-lt x (pow_pos b) in
      let small : with_row w k t r < 2 ^ b = with-lt w s k t r l h m in
      let e : with_row w x t r ≡ q * 2 ^ b + with_row w k t r =
      ap (λ (z : ℕ). with_row w z t r) (sym (split x b)) ∙ with-below w b q k t r (below w l) in
      rw (e, high q b small, low q b small) (sym (with-below w b (q * 2 ^ wide + y) k t r (below w l)))

  pub with_second : (x y u r : ℕ) → w * u + w ≤ wide → joined (w * s) wide x (with_row w y u r) ≡ with_row w (joined (w * s) wide x y) (s + u) r
  unfolding joined
  with_second x y u r h =
      let b = w * s in
      let q = x / 2 ^ b in
      let k = x % 2 ^ b in
      sym
      (with-above w s (q * 2 ^ wide + y) k u r (mod-lt x (pow_pos b))
      ∙ ap (λ (z : ℕ). z * 2 ^ b + k) (with-below w wide q y u r h))

-- ---- at the sizes of the machine

-- The words of a key's number are the key's,
pub words-number : (x y : ℕ) → y < 2 ^ bits_per_word → (low_of (number_in x y) ≡ x) × (high_of (number_in x y) ≡ y)
words-number x y h = (first-joined bits_in_low bits_per_word x y h, second-joined bits_in_low bits_per_word x y h)

-- and the number of a number's words is the number.
pub number-words : (k : ℕ) → number_in (low_of k) (high_of k) ≡ k
number-words k = joined_words bits_in_low bits_per_word k

-- A key that is made of a number has that number.
pub number-key : (k : ℕ) → number_of (key_with k) ≡ k
number-key k = number-words k

-- So the words of a key, whose second one has room in a machine word, are read off its number,
pub key-low : (key : Key) → key.high < 2 ^ bits_per_word → key.low ≡ low_of (number_of key)
key-low key h = sym (words-number key.low key.high h).0

pub key-high : (key : Key) → key.high < 2 ^ bits_per_word → key.high ≡ high_of (number_of key)
key-high key h = sym (words-number key.low key.high h).1

-- and two keys with one number are one key; what `==` computes of them is the test of their numbers.
pub key-one : (a b : Key) → a.high < 2 ^ bits_per_word → b.high < 2 ^ bits_per_word → number_of a ≡ number_of b → a ≡ b
key-one a b ha hb e =
    let w = joined-one bits_in_low bits_per_word a.low a.high b.low b.high ha hb e in
    ap₂ (λ (x y : ℕ). let k : Key = record { low = x; high = y } in k) w.0 w.1

pub key-same : (a b : Key) → a.high < 2 ^ bits_per_word → b.high < 2 ^ bits_per_word → eqb a.low b.low && eqb a.high b.high ≡ eqb (number_of a) (number_of b)
key-same a b ha hb = joined_same bits_in_low bits_per_word a.low a.high b.low b.high ha hb

-- The words of a set's key are its two parts, and have room in a machine word.
pub key-words : (k : ℕ) → k < 2 ^ (bits_per_row * most_tables) → (low_of k ≡ k % 2 ^ bits_in_low) × (high_of k ≡ k / 2 ^ bits_in_low)
key-words k h =
    let wide : k < 2 ^ (bits_per_word + bits_in_low) = lt_of_lt_of_le h (pow_mono {i = bits_per_row * most_tables} {j = bits_per_word + bits_in_low} (omega arith)) in
    (first_plain bits_in_low bits_per_word k wide, second_plain bits_in_low bits_per_word k wide)

pub key_fits : (k : ℕ) → k < 2 ^ (bits_per_row * most_tables) → (low_of k < 2 ^ bits_per_word) × (high_of k < 2 ^ bits_per_word)
unfolding second_word
key_fits k h = (
  rw (key-words k h).0 (lt_of_lt_of_le (mod-lt k (pow_pos bits_in_low)) (pow_mono {i = bits_in_low} {j = bits_per_word} (omega arith))),
  mod-lt (k / 2 ^ bits_in_low) (pow_pos bits_per_word),
)

-- The order of keys without spare bits is that of their numbers.
pub key-order : (a b : Key) → a.low < 2 ^ bits_in_low → b.low < 2 ^ bits_in_low → (number_of a < number_of b) ↔ Before a b
key-order a b = joined-order bits_in_low bits_per_word a.low a.high b.low b.high
