-- Masks of tables: one bit, a bit taken away, all bits below n, and a mask turned into what it lacks. Assumes nothing.
use Prim.Native.Nat.{ℕ, ◌-◌, ◌^◌, ◌<◌}
use mathlib.Core.Path.{◌≡◌, refl, sym, ◌∙◌}
use mathlib.Core.Logic.{◌⊎◌, inl, inr, ⊎_elim}
use mathlib.Core.Bool.{Bool, true, false, not, ◌&&◌, ◌||◌}
use native.Mathlib.Nat.{mod-eq_of_lt}
use native.Mathlib.Decide.{ℕ_discrete}
use lib.Bits.{bit_and, bit_or, bit_xor, and_mask}
use lib.Pow.{pow-lt}
use lib.Dec.{eqb}
use borrow.Author.Tests.{eqb-true, eq-eqb, ne_eqb}
use Rattle.laws.proofs.TestLaws.{which, clash, iff-eq, and_split}
use Rattle.words.specs.Words.{bit_of}
use Rattle.words.proofs.WordLaws.{bit-and, bit-or, bit-xor, bit-gone, bit_kept, one-itself, one-other}
use Rattle.walks.specs.Merged.{Under}

pub one-is : (t u : ℕ) → bit_of (2 ^ t) u ≡ eqb u t
one-is t u =
    iff-eq (bit_of (2 ^ t) u) (eqb u t)
    (λ h. ⊎_elim (λ e. e) (λ e. absurd (clash h (one-other t u (λ q. clash (eq-eqb u t q) e)))) (which (eqb u t)))
    (λ h. rw (eqb-true u t h) (one-itself t))

-- A word with one bit more.
pub bit-with : (k a x u : ℕ) → x ≡ 2 ^ a → bit_of (bit_or k x) u ≡ bit_of k u || eqb u a
bit-with k a x u e = rw e (bit-or k (2 ^ a) u ∙ rw (one-is a u))

pub or_no : (b : Bool) → (b || false) ≡ b
or_no true = refl
or_no false = refl

pub and_yes : (b : Bool) → (b && true) ≡ b
and_yes true = refl
and_yes false = refl

-- A word without one of its bits.
bit-without : (k a u : ℕ) → bit_of k a ≡ true → bit_of (k - 2 ^ a) u ≡ bit_of k u && not (eqb u a)
bit-without k a u h = go (ℕ_discrete u a)
  where
    go : Dec (u ≡ a) → bit_of (k - 2 ^ a) u ≡ bit_of k u && not (eqb u a)
    go (yes q) = rw (q, bit-gone k a h, h, eq-eqb a a refl)
    go (no g) = rw (bit_kept k a h u g, ne_eqb u a g) (sym (and_yes (bit_of k u)))

-- What such a word lacks is that bit, or was lacking before.
pub without-lacks : (k a u : ℕ) → bit_of k a ≡ true → bit_of (k - 2 ^ a) u ≡ false → (bit_of k u ≡ false) ⊎ (u ≡ a)
without-lacks k a u h e = go (ℕ_discrete u a)
  where
    go : Dec (u ≡ a) → (bit_of k u ≡ false) ⊎ (u ≡ a)
    go (yes q) = inr q
    go (no g) = inl (sym (bit_kept k a h u g) ∙ e)

-- What it has, the word has.
pub without-under : (k a : ℕ) → bit_of k a ≡ true → Under (k - 2 ^ a) k
without-under k a h u e = (and_split (bit_of k u) (not (eqb u a)) (sym (bit-without k a u h) ∙ e)).0

-- The word with the lowest n bits.
pub bits_below : (n d : ℕ) → d < n → bit_of (2 ^ n - 1) d ≡ true
bits_below n d l =
    let e : bit_of (bit_and (2 ^ d) (2 ^ n - 1)) d ≡ true = rw (and_mask (2 ^ d) n, mod-eq_of_lt (pow-lt l)) (one-itself d) in
    (and_split (bit_of (2 ^ d) d) (bit_of (2 ^ n - 1) d) (sym (bit-and (2 ^ d) (2 ^ n - 1) d) ∙ e)).1

-- A word without bits that it has.
pub bit-less : (k gone : ℕ) → Under gone k → (u : ℕ) → bit_of (bit_xor k gone) u ≡ bit_of k u && not (bit_of gone u)
bit-less k gone h u = go (which (bit_of gone u))
  where
    go : (bit_of gone u ≡ true) ⊎ (bit_of gone u ≡ false) → bit_of (bit_xor k gone) u ≡ bit_of k u && not (bit_of gone u)
    go (inl e) = bit-xor k gone u ∙ rw (e, h u e)
    go (inr e) = bit-xor k gone u ∙ rw e (sym (and_yes (bit_of k u)))
