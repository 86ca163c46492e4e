-- The walk over a table's rows: they are passed over by their code at the lowest shared attribute, and where the other shared attributes lie in a row is
-- worked out once, bit by bit of the mask. Assumes nothing.
use Prim.Native.Nat.{ℕ, ◌+◌, ◌-◌, ◌*◌, ◌%◌, ◌^◌, ◌≤◌, ◌<◌}
use mathlib.Core.Path.{◌≡◌, sym, ap, ◌∙◌}
use mathlib.Core.Logic.{⊎_elim, ◌≢◌}
use mathlib.Core.Bool.{Bool, true, false}
use mathlib.Core.List.{List}
use native.Mathlib.Omega.{arith}
use native.Mathlib.Decide.{dec_lt, ℕ_discrete}
use native.Mathlib.Nat.{mod-lt}
use lib.ListN.{length, get_or, set, length-set}
use lib.Seq.{get_or-set_same, get_or-set_other}
use lib.Count.{ones, ones-le}
use lib.Pow.{pow_pos}
use borrow.Author.Tests.{eq-eqb, ne_eqb}
use Rattle.laws.proofs.TestLaws.{clash}
use Rattle.words.specs.Words.{bit_of, LowestBit}
use Rattle.words.proofs.WordLaws.{zero_bit}
use Rattle.tables.specs.Catalogues.{code_at}
use Rattle.walks.specs.Merged.{merged_length, matches, row_in, Places, NextEqual, fits_at}
use Rattle.walks.specs.Firsts.{FirstIn}
use Rattle.walks.proofs.MatchLaws.{bit-taken, matches-none, matches-more, matches-bad}

-- ---- the places

-- There are fewer attributes below one of a word than a word has bits.
pub rank-few : (scheme a : ℕ) → a < merged_length → ones (scheme % 2 ^ a) < merged_length
rank-few scheme a l = omega (arith, ones-le a (scheme % 2 ^ a) (mod-lt scheme (pow_pos a)))

-- Of places that are being worked out: they are there but for the bits that are left.
pub record Placing (scheme mask : ℕ) (places : List ℕ) (rest : ℕ) : Type 0 where
  pub long : length places ≡ merged_length
  pub own : (a : ℕ) → bit_of mask a ≡ true → bit_of rest a ≡ false → get_or places a 0 ≡ ones (scheme % 2 ^ a)

module _ (scheme mask : ℕ) (places : List ℕ) where
  pub place-start : length places ≡ merged_length → Placing scheme mask places mask
  place-start h = record { long = h; own = λ a b n. absurd (clash b n) }

  pub place-next : (rest a v : ℕ) → Placing scheme mask places rest → LowestBit merged_length rest a → v ≡ ones (scheme % 2 ^ a)
      → Placing scheme mask (set places a v) (rest - 2 ^ a)
  place-next rest a v k l e =
      record {
        long = length-set places a v ∙ k.long;
        own = λ d m b.
            ⊎_elim
            (λ (q : d ≡ a). rw q (get_or-set_same places a v 0 (omega (arith, k.long, l.narrow)) ∙ e))
            (λ n. get_or-set_other places a d v 0 (λ (q : d ≡ a). clash l.itself (rw q at n)) ∙ k.own d m n)
            (bit-taken rest a l d b);
      }

  pub place_end : Placing scheme mask places 0 → Places scheme mask places
  place_end k = record { long = k.long; each = λ a b. k.own a b (zero_bit a) }

  -- What lies at an attribute's place is the row's code of it.
  pub placed-code : Places scheme mask places → (cells : List ℕ) (start a : ℕ) → bit_of mask a ≡ true
      → get_or cells (start + get_or places a 0) 0 ≡ code_at cells scheme start a
  placed-code p cells start a b = ap (λ (x : ℕ). get_or cells (start + x) 0) (p.each a b)

-- ---- the walk

-- None of k rows before row i passes, and row i, where there is one, has the code v in the cell that every row is asked for first.
pub record Walked (cells : List ℕ) (first w k v : ℕ) (ok : ℕ → Bool) (i : ℕ) : Type 0 where
  pub within : i ≤ k
  pub before : (j : ℕ) → j < i → ok j ≡ false
  pub code : i < k → get_or cells (first + i * w) 0 ≡ v

-- Where there is no row left, none passes.
pub walk_end : (cells : List ℕ) (first w k v : ℕ) (ok : ℕ → Bool) (i : ℕ) → Walked cells first w k v ok i → i ≡ k → FirstIn k ok k
walk_end cells first w k v ok i s e = record { within = omega arith; before = λ j l. s.before j (omega arith); found = λ l. absurd (omega arith) }

-- Rows by their code in one cell, and then by the merged codes at the attributes of a mask.
module _ (cells : List ℕ) (first w v scheme base mask : ℕ) (codes : List ℕ) where
  abbrev fits : ℕ → Bool
  fits = fits_at cells first w v scheme base mask codes

  -- Of a row with the code the attributes of the mask decide,
  pub fits-coded : (j : ℕ) → get_or cells (first + j * w) 0 ≡ v → fits j ≡ matches cells scheme (row_in base scheme j) mask codes
  unfolding fits_at
  fits-coded j e = rw (eq-eqb (get_or cells (first + j * w) 0) v e)

  -- and a row with another does not fit,
  fits-other : (j : ℕ) → get_or cells (first + j * w) 0 ≢ v → fits j ≡ false
  unfolding fits_at
  fits-other j g = rw (ne_eqb (get_or cells (first + j * w) 0) v g)

  -- so that the walk goes on at the next row with the code.
  pub walk-next : (k i r : ℕ) → ((j : ℕ) → j < i → fits j ≡ false) → NextEqual cells first w i k v r → Walked cells first w k v fits r
  walk-next k i r p n = record { within = n.within; before = λ j b. go j b (dec_lt j i); code = n.found }
    where
      go : (j : ℕ) → j < r → Dec (j < i) → fits j ≡ false
      go j b (yes h) = p j h
      go j b (no g) = fits-other j (n.before j b (omega arith))

  -- Where the mask is empty, the first row with the code is the first that fits.
  pub walk-one : (k r : ℕ) → mask ≡ 0 → NextEqual cells first w 0 k v r → FirstIn k fits r
  walk-one k r z n =
      record {
        within = n.within;
        before = λ j b. fits-other j (n.before j b (omega arith));
        found = λ b. fits-coded r (n.found b) ∙ rw z (matches-none cells scheme (row_in base scheme r) codes);
      }

-- A row has the merged codes at all shared attributes where it has the code of the lowest, and those of the others.
pub fits-shared : (cells : List ℕ) (scheme base shared : ℕ) (codes : List ℕ) (a : ℕ) → LowestBit merged_length shared a → (first w : ℕ) → first ≡ base + ones (scheme % 2 ^ a)
    → w ≡ ones scheme → 0 < get_or codes a 0 → (j : ℕ)
    → matches cells scheme (row_in base scheme j) shared codes ≡ fits_at cells first w (get_or codes a 0) scheme base (shared - 2 ^ a) codes j
fits-shared cells scheme base shared codes a l first w e f p j = go (ℕ_discrete (get_or cells (first + j * w) 0) (get_or codes a 0))
  where
    cell : get_or cells (first + j * w) 0 ≡ code_at cells scheme (row_in base scheme j) a
    cell = rw (e, f) (ap (λ (x : ℕ). get_or cells x 0) (omega arith))

    go : Dec (get_or cells (first + j * w) 0 ≡ get_or codes a 0)
        → matches cells scheme (row_in base scheme j) shared codes ≡ fits_at cells first w (get_or codes a 0) scheme base (shared - 2 ^ a) codes j
    go (yes q) =
        matches-more cells scheme (row_in base scheme j) codes shared a l (p, sym q ∙ cell)
        ∙ sym (fits-coded cells first w (get_or codes a 0) scheme base (shared - 2 ^ a) codes j q)
    go (no g) =
        matches-bad cells scheme (row_in base scheme j) codes shared a l (λ s. g (cell ∙ sym s.1))
        ∙ sym (fits-other cells first w (get_or codes a 0) scheme base (shared - 2 ^ a) codes j g)
