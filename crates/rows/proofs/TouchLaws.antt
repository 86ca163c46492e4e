-- The stored masks against the rule's tables: bit u of table t's mask says whether they touch, for every other table, and there is no other bit.
-- Assumes nothing.
use Prim.Native.Nat.{ℕ, zero, suc, ◌+◌, ◌*◌, ◌/◌, ◌%◌, ◌^◌, ◌≤◌, ◌<◌}
use native.Mathlib.Omega.{arith}
use mathlib.Core.Path.{◌≡◌, refl, sym, ap, ◌∙◌}
use mathlib.Core.Logic.{⊎_elim, ◌≢◌}
use mathlib.Core.Bool.{Bool, true, false, cond}
use lib.Dec.{eqb}
use lib.Pow.{pow_mono, high, low}
use borrow.Author.Tests.{ne_eqb}
use Rattle.laws.proofs.TestLaws.{not_yes, below_suc}
use Rattle.words.specs.Words.{bit_of}
use Rattle.words.proofs.WordLaws.{bit-low, bit-lt, shares-any}
use Rattle.tables.specs.declared.Catalogue.{Catalogue}
use Rattle.tables.specs.Sizes.{most_tables}
use Rattle.tables.specs.Catalogues.{scheme_of, touch, touching_below, mask_in}
use Rattle.tables.specs.Checks.{Lawful}
use Rattle.tables.proofs.StoredLaws.{touch-self, touching-lt}
use Rattle.disjunction.specs.Cells.{sharing}
use Rattle.rows.specs.World.{touches_in}

-- ---- one bit more

-- A word below bit k, with bit k or without it.
abbrev topped : ℕ → Bool → ℕ → ℕ
topped k b x = x + cond b (2 ^ k) 0

module _ (k x : ℕ) (h : x < 2 ^ k) where
  topped-is : (b : Bool) → topped k b x ≡ cond b 1 0 * 2 ^ k + x
  topped-is true = omega arith
  topped-is false = omega arith

  topped-low : (b : Bool) (u : ℕ) → u < k → bit_of (topped k b x) u ≡ bit_of x u
  topped-low b u l =
      sym (bit-low (topped k b x) k u l) ∙ ap (λ (y : ℕ). bit_of y u) (ap (λ (y : ℕ). y % 2 ^ k) (topped-is b) ∙ low (cond b 1 0) k h)

  topped-high : (b : Bool) → bit_of (topped k b x) k ≡ b
  unfolding bit_of
  topped-high b = ap (λ (y : ℕ). eqb (y % 2) 1) (ap (λ (y : ℕ). y / 2 ^ k) (topped-is b) ∙ high (cond b 1 0) k h) ∙ digit b
    where
      digit : (c : Bool) → eqb (cond c 1 0 % 2) 1 ≡ c
      digit true = refl
      digit false = refl

-- ---- the mask that is worked out

touching-bit : (cat : Catalogue) (t k u : ℕ) → u < k → bit_of (touching_below cat t k) u ≡ touch cat t u
unfolding touching_below
touching-bit cat t zero u l = absurd (omega arith)
touching-bit cat t (suc k) u l =
    ⊎_elim
    (λ (e : u ≡ k). rw e (topped-high k (touching_below cat t k) (touching-lt cat t k) (touch cat t k)))
    (λ b. topped-low k (touching_below cat t k) (touching-lt cat t k) (touch cat t k) u b ∙ touching-bit cat t k u b)
    (below_suc l)

-- ---- the stored one

module _ (cat : Catalogue) (lent : ℕ) (L : Lawful cat lent) (t : ℕ) (l : t < cat.n) where
  pub mask_lt : mask_in cat t < 2 ^ cat.n
  mask_lt = rw (L.touching t l) (touching-lt cat t cat.n)

  -- A mask is a word of eight bits.
  pub mask-small : mask_in cat t < 2 ^ most_tables
  mask-small = omega (arith, mask_lt, pow_mono L.tables)

  -- It has no bit from n on,
  pub mask-table : (u : ℕ) → bit_of (mask_in cat t) u ≡ true → u < cat.n
  mask-table u b = bit-lt (mask_in cat t) cat.n u mask_lt b

  pub mask-past : (u : ℕ) → cat.n ≤ u → bit_of (mask_in cat t) u ≡ false
  mask-past u g = not_yes (bit_of (mask_in cat t) u) (λ b. omega (arith, g, mask-table u b))

  mask-bit : (u : ℕ) → u < cat.n → bit_of (mask_in cat t) u ≡ touch cat t u
  mask-bit u b = rw (L.touching t l) (touching-bit cat t cat.n u b)

  -- nor the table's own.
  pub mask-self : bit_of (mask_in cat t) t ≡ false
  mask-self = mask-bit t l ∙ touch-self cat t t refl

  pub mask-touches : (u : ℕ) → u < cat.n → u ≢ t → bit_of (mask_in cat t) u ≡ touches_in cat t u
  unfolding touch touches_in sharing
  mask-touches u b d =
      mask-bit u b ∙ rw (ne_eqb u t d) (shares-any cat.m (scheme_of cat t) (scheme_of cat u) (L.scheme t l) (L.scheme u b))
