-- A number's own faults, each exactly when: as long as bytes go on the reader only counts them, so the first that doesn't decides what is told.
-- The proof goes from byte to byte until one ends the number, the image or the nine bytes. Assumes nothing.
use Prim.Native.Nat.{ℕ, zero, suc, ◌+◌, ◌-◌, ◌*◌, ◌^◌, ◌<◌, ◌≤◌}
use native.Mathlib.Nat.{pow-suc}
use native.Mathlib.Decide.{dec_lt, ℕ_discrete}
use native.Mathlib.Omega.{arith}
use mathlib.Core.Path.{◌≡◌, refl, sym, ap, ◌∙◌}
use mathlib.Core.Logic.{◌⊎◌, inl, inr}
use mathlib.Core.Bool.{Bool, true, false, ◌&&◌}
use mathlib.Core.List.{List}
use lib.ListN.{length, get_or}
use lib.Dec.{ltb, eqb}
use borrow.Author.Tests.{ne_eqb}
use Rattle.numbers.specs.Readings.{Reading, Number, NumberFault}
use Rattle.numbers.specs.Numbers.{most_bytes, decode_in, decode}
use Rattle.numbers.proofs.DecodeLaws.{decode-none, decode-end, decode-zero, decode-last, decode-more, no_number, pos128}
use Rattle.claims.specs.LoadRefusals.{GoesOn, EndsInside, NotShortest, TooLong, NumberExact}

-- A refusal is one only.
one-fault : (o : Reading) (k c l d : ℕ) → o ≡ NumberFault k c → o ≡ NumberFault l d → (l ≡ k) × (d ≡ c)
one-fault o k c l d a b = (cc, cc)

-- Why a refusal is met, with the bytes looked at.
data Why (s : List ℕ) (i : ℕ) : ℕ → ℕ → Type 0 where
  ends : {c : ℕ} → EndsInside s i c → Why s i 1 c
  short : {c : ℕ} → NotShortest s i c → Why s i 2 c
  long : {c : ℕ} → TooLong s i c → Why s i 17 c

only : {s : List ℕ} {i k c : ℕ} → Why s i k c → (k ≡ 1 → EndsInside s i c) × (k ≡ 2 → NotShortest s i c) × (k ≡ 17 → TooLong s i c)
only (ends h) = (λ e. h, λ e. absurd (omega arith), λ e. absurd (omega arith))
only (short h) = (λ e. absurd (omega arith), λ e. h, λ e. absurd (omega arith))
only (long h) = (λ e. absurd (omega arith), λ e. absurd (omega arith), λ e. h)

one_of : {s : List ℕ} {i k c : ℕ} → Why s i k c → (k ≡ 1) ⊎ ((k ≡ 2) ⊎ (k ≡ 17))
one_of (ends h) = inl refl
one_of (short h) = inr (inl refl)
one_of (long h) = inr (inr refl)

last-test : (w b : ℕ) → (w ≡ 1) ⊎ (b ≡ 0 → ⊥) → (ltb 1 w && eqb b 0) ≡ false
last-test w b (inl e) = rw e
last-test w b (inr h) = rw (ne_eqb b 0 h) (by (ltb 1 w))
  where
    by : (t : Bool) → (t && false) ≡ false
    by true = refl
    by false = refl

module _ (s : List ℕ) (i : ℕ) where
  -- k bytes that go on leave the reader k bytes farther, with as many bytes fewer allowed.
  gone : (k : ℕ) → k ≤ most_bytes → GoesOn s i k → (v : ℕ) × (decode s i ≡ decode_in (most_bytes - k) (128 ^ k) v s (i + k))
  unfolding decode
  gone zero l g = let z : i + 0 ≡ i = omega arith in (0, rw z)
  gone (suc k) l g =
      let (v, e) = gone k (omega arith) (λ d h. g d (omega arith)) in
      let b = g k (omega arith) in
      let f : most_bytes - k - 1 ≡ most_bytes - suc k = omega arith in
      let p : i + k + 1 ≡ i + suc k = omega arith in
      (v + (get_or s (i + k) 0 - 128) * 128 ^ k, e ∙ rw (pow-suc 128 k, ← f, ← p) (decode-more (most_bytes - k) (128 ^ k) v s (i + k) (omega arith) b.0 b.1))

  ends-told : (c : ℕ) → EndsInside s i c → decode s i ≡ NumberFault 1 c
  ends-told c (l, g, h) =
      let (v, e) = gone c (omega arith) g in
      e ∙ decode-end (most_bytes - c) (128 ^ c) v s (i + c) (omega arith) h ∙ ap (NumberFault 1) (omega arith)

  heavier : (k : ℕ) → 0 < k → 1 < 128 ^ k
  heavier zero z = absurd (omega arith)
  heavier (suc k) z = omega (arith, pow-suc 128 k, pos128 k)

  short-told : (c : ℕ) → NotShortest s i c → decode s i ≡ NumberFault 2 c
  short-told c (k, q, z, l, g, h, b) =
      let (v, e) = gone k (omega arith) g in
      e ∙ decode-zero (most_bytes - k) (128 ^ k) v s (i + k) (omega arith) h (omega arith) (heavier k z) b ∙ ap (NumberFault 2) (omega arith)

  long-told : (c : ℕ) → TooLong s i c → decode s i ≡ NumberFault 17 c
  long-told c (q, g) =
      let (v, e) = gone most_bytes (omega arith) g in
      e ∙ decode-none 0 (128 ^ most_bytes) v s (i + most_bytes) (omega arith) ∙ ap (NumberFault 17) (sym q)

  -- A number that stands there.
  abbrev Stands : Type 0
  Stands = (x : ℕ) × (n : ℕ) × (decode s i ≡ Number x n)

  last-told : (k : ℕ) → k < most_bytes → GoesOn s i k → i + k < length s → get_or s (i + k) 0 < 128 → (128 ^ k ≡ 1) ⊎ (get_or s (i + k) 0 ≡ 0 → ⊥) → Stands
  last-told k l g h b t =
      let (v, e) = gone k (omega arith) g in
      (v + get_or s (i + k) 0 * 128 ^ k, i + k + 1, e ∙ decode-last (most_bytes - k) (128 ^ k) v s (i + k) (omega arith) h b (last-test (128 ^ k) (get_or s (i + k) 0) t))

  -- ---- one of the four is always so

  abbrev Ways : Type 0
  Ways = ((k : ℕ) × (c : ℕ) × Why s i k c) ⊎ Stands

  goes-farther : (k : ℕ) → GoesOn s i k → i + k < length s → 128 ≤ get_or s (i + k) 0 → GoesOn s i (suc k)
  goes-farther k g h b d l =
      elim (dec_lt d k) [
        | yes m ↦ g d m
        | no m ↦ let e : d ≡ k = omega arith in rw e (h, b)
      ]

  -- The byte behind those that go on is the number's last.
  at_last : (k : ℕ) → k < most_bytes → GoesOn s i k → i + k < length s → get_or s (i + k) 0 < 128 → Ways
  at_last zero l g h b = inr (last-told zero l g h b (inl refl))
  at_last (suc k) l g h b =
      elim (ℕ_discrete (get_or s (i + suc k) 0) 0) [
        | yes z ↦ inl (2, suc (suc k), short {c = suc (suc k)} (suc k, refl, omega arith, l, g, h, z))
        | no z ↦ inr (last-told (suc k) l g h b (inr z))
      ]

  from : (f k : ℕ) → k + f ≡ most_bytes → GoesOn s i k → Ways
  from zero k e g = let q : k ≡ most_bytes = omega arith in inl (17, most_bytes, long {c = most_bytes} (refl, rw q at g))
  from (suc f) k e g =
      elim (dec_lt (i + k) (length s)) [
        | no h ↦ inl (1, k, ends {c = k} (omega arith, g, omega arith))
        | yes h ↦ elim (dec_lt (get_or s (i + k) 0) 128) [
          | yes b ↦ at_last k (omega arith) g h b
          | no b ↦ from f (suc k) (omega arith) (goes-farther k g h (omega arith))
        ]
      ]

  ways : Ways
  ways = from most_bytes 0 refl (λ d l. absurd (omega arith))

  -- ---- so each is told exactly when

  told : {k c : ℕ} → Why s i k c → decode s i ≡ NumberFault k c
  told (ends {c = c} h) = ends-told c h
  told (short {c = c} h) = short-told c h
  told (long {c = c} h) = long-told c h

  why : Ways → (k c : ℕ) → decode s i ≡ NumberFault k c → Why s i k c
  why (inl (l, d, w)) k c e =
      let (p, q) = one-fault (decode s i) k c l d e (told w) in
      rw (← p, ← q) w
  why (inr (x, n, d)) k c e = no_number (decode s i) k c x n e d

  pub number-exact : NumberExact s i
  number-exact =
      record {
        ends = λ c. (λ e. (only (why ways 1 c e)).0 refl, ends-told c);
        not-shortest = λ c. (λ e. (only (why ways 2 c e)).1 refl, short-told c);
        too_long = λ c. (λ e. (only (why ways 17 c e)).2 refl, long-told c);
        no_other = λ k c e. one_of (why ways k c e);
      }
