-- A row against a merged row, and merged into it, bit by bit of a mask: any set bit may be taken next, and what is left of the mask is the rest of the
-- answer. Assumes nothing.
use Prim.Native.Nat.{ℕ, ◌-◌, ◌^◌, ◌<◌}
use mathlib.Core.Path.{◌≡◌, refl, sym, ap, ◌∙◌}
use mathlib.Core.Logic.{◌⊎◌, inl, inr, ⊎_elim, ◌≢◌, ◌↔◌}
use mathlib.Core.Bool.{Bool, true, false, not, ◌||◌}
use mathlib.Core.List.{List}
use native.Mathlib.Omega.{arith}
use native.Mathlib.Decide.{ℕ_discrete}
use lib.ListN.{length, get_or, set, length-set}
use lib.Bits.{bit_and}
use lib.Seq.{get_or-set_same, get_or-set_other}
use borrow.Author.Tests.{not-true}
use Rattle.std.specs.Bool.{MatchBool}
use Rattle.laws.proofs.TestLaws.{which, clash, not_yes, and_split, iff-eq, or_case, or_left, or_right, all-each, all_of}
use Rattle.words.specs.Words.{bit_of, LowestBit}
use Rattle.words.proofs.WordLaws.{zero_bit, bit-and, bit-lt, bit-gone, bit_kept}
use Rattle.tables.specs.Catalogues.{code_at}
use Rattle.disjunction.specs.Cells.{same}
use Rattle.disjunction.proofs.CellLaws.{same-iff}
use Rattle.walks.specs.Merged.{merged_length, Same, Under, Values, matches, joint, Joined}

-- What a scheme shares with other attributes is its own.
pub shared-under : (scheme attrs : ℕ) → Under (bit_and scheme attrs) scheme
shared-under scheme attrs a b = (and_split (bit_of scheme a) (bit_of attrs a) (sym (bit-and scheme attrs a) ∙ b)).0

-- ---- a bit taken from a mask

module _ (rest a : ℕ) (l : LowestBit merged_length rest a) where
  -- What is left lies under what the mask lay under,
  pub under-less : (whole : ℕ) → Under rest whole → Under (rest - 2 ^ a) whole
  under-less whole h d e = go (ℕ_discrete d a)
    where
      go : Dec (d ≡ a) → bit_of whole d ≡ true
      go (yes q) = absurd (clash e (rw q (bit-gone rest a l.itself)))
      go (no g) = h d (sym (bit_kept rest a l.itself d g) ∙ e)

  -- and a bit that it lacks is the one taken or was lacking before.
  pub bit-taken : (d : ℕ) → bit_of (rest - 2 ^ a) d ≡ false → (d ≡ a) ⊎ (bit_of rest d ≡ false)
  bit-taken d e = go (ℕ_discrete d a)
    where
      go : Dec (d ≡ a) → (d ≡ a) ⊎ (bit_of rest d ≡ false)
      go (yes q) = inl q
      go (no g) = inr (sym (bit_kept rest a l.itself d g) ∙ e)

  -- So a bit of the mask is the one taken or is left.
  pub bit-left : (d : ℕ) → bit_of rest d ≡ true → (d ≡ a) ⊎ (bit_of (rest - 2 ^ a) d ≡ true)
  bit-left d e = ⊎_elim (λ f. inr f) (λ f. ⊎_elim (λ q. inl q) (λ n. absurd (clash e n)) (bit-taken d f)) (which (bit_of (rest - 2 ^ a) d))

-- ---- matching

module _ (cells : List ℕ) (scheme start : ℕ) (codes : List ℕ) where
  -- The row has the merged code of attribute a.
  abbrev pub Matches : ℕ → Type 0
  Matches a = Same (get_or codes a 0) (code_at cells scheme start a)

  abbrev pub matches_at : ℕ → ℕ → Bool
  matches_at shared a = not (bit_of shared a) || same (get_or codes a 0) (code_at cells scheme start a)

  pub matches-iff : (shared : ℕ) → (matches cells scheme start shared codes ≡ true) ↔ ((a : ℕ) → a < merged_length → bit_of shared a ≡ true → Matches a)
  unfolding matches
  matches-iff shared = (
    λ h a l b.
        ⊎_elim
        (λ e. absurd (clash b (not-true (bit_of shared a) e)))
        (λ e. (same-iff (get_or codes a 0) (code_at cells scheme start a)).0 e)
        (or_case (not (bit_of shared a)) (same (get_or codes a 0) (code_at cells scheme start a)) (all-each merged_length (matches_at shared) h a l)),
    λ h. all_of merged_length (matches_at shared) (λ a l. go h a l (which (bit_of shared a))),
  )
    where
      go : ((a : ℕ) → a < merged_length → bit_of shared a ≡ true → Matches a) → (a : ℕ) → a < merged_length
          → (bit_of shared a ≡ true) ⊎ (bit_of shared a ≡ false) → matches_at shared a ≡ true
      go h a l (inl e) = or_right (not (bit_of shared a)) ((same-iff (get_or codes a 0) (code_at cells scheme start a)).1 (h a l e))
      go h a l (inr e) = or_left (same (get_or codes a 0) (code_at cells scheme start a)) (ap not e)

  -- Where the merged row does not have a value at every attribute of the mask, the row does not match.
  pub matches-null : (shared : ℕ) → shared < 2 ^ merged_length → (Values shared codes → ⊥) → matches cells scheme start shared codes ≡ false
  matches-null shared n g =
      not_yes (matches cells scheme start shared codes) (λ h. g (λ a e. ((matches-iff shared).0 h a (bit-lt shared merged_length a n e) e).0))

  -- What was found at each bit of the mask decides whether the row matches.
  pub matches-found : (shared : ℕ) → shared < 2 ^ merged_length → (r : Bool)
      → MatchBool r ((a : ℕ) → bit_of shared a ≡ true → Matches a) ((a : ℕ) × (bit_of shared a ≡ true) × (Matches a → ⊥))
      → r ≡ matches cells scheme start shared codes
  matches-found shared n true h = sym ((matches-iff shared).1 (λ a l b. h a b))
  matches-found shared n false h =
      sym (not_yes (matches cells scheme start shared codes) (λ m. h.2 ((matches-iff shared).0 m h.0 (bit-lt shared merged_length h.0 n h.1) h.1)))

  -- Bit by bit: none is left, the next one matches, it does not.
  pub matches-none : matches cells scheme start 0 codes ≡ true
  matches-none = (matches-iff 0).1 (λ a l b. absurd (clash b (zero_bit a)))

  module _ (rest a : ℕ) (l : LowestBit merged_length rest a) where
    pub matches-more : Matches a → matches cells scheme start rest codes ≡ matches cells scheme start (rest - 2 ^ a) codes
    matches-more s =
        iff-eq (matches cells scheme start rest codes) (matches cells scheme start (rest - 2 ^ a) codes)
        (λ h. (matches-iff (rest - 2 ^ a)).1 (λ d b e. (matches-iff rest).0 h d b (under-less rest a l rest (λ x y. y) d e)))
        (λ h. (matches-iff rest).1 (λ d b e. ⊎_elim (λ (q : d ≡ a). rw q s) (λ f. (matches-iff (rest - 2 ^ a)).0 h d b f) (bit-left rest a l d e)))

    pub matches-bad : (Matches a → ⊥) → matches cells scheme start rest codes ≡ false
    matches-bad g = not_yes (matches cells scheme start rest codes) (λ h. g ((matches-iff rest).0 h a l.narrow l.itself))

-- ---- merging

-- Of a merged row that is being made: at the bits that are left it has the old codes, at the others of the scheme the new ones.
pub record Merging (cells : List ℕ) (scheme start mask : ℕ) (old codes : List ℕ) (rest : ℕ) : Type 0 where
  pub long : length codes ≡ merged_length
  pub part : Under rest scheme
  pub left : (a : ℕ) → bit_of rest a ≡ true → get_or codes a 0 ≡ get_or old a 0
  pub own : (a : ℕ) → a < merged_length → bit_of scheme a ≡ true → bit_of rest a ≡ false → get_or codes a 0 ≡ joint (bit_of mask a) (get_or old a 0) (code_at cells scheme start a)
  pub other : (a : ℕ) → bit_of scheme a ≡ false → get_or codes a 0 ≡ get_or old a 0

module _ (cells : List ℕ) (scheme start mask : ℕ) (old : List ℕ) where
  pub merge-start : length old ≡ merged_length → Merging cells scheme start mask old old scheme
  merge-start h = record { long = h; part = λ a e. e; left = λ a e. refl; own = λ a l e f. absurd (clash e f); other = λ a e. refl }

  pub merge-next : (codes : List ℕ) (rest a v : ℕ) → Merging cells scheme start mask old codes rest → LowestBit merged_length rest a
      → v ≡ joint (bit_of mask a) (get_or codes a 0) (code_at cells scheme start a)
      → Merging cells scheme start mask old (set codes a v) (rest - 2 ^ a)
  merge-next codes rest a v k l e =
      record {
        long = length-set codes a v ∙ k.long;
        part = under-less rest a l scheme k.part;
        left = λ d b. other d (λ (q : d ≡ a). clash b (rw q (bit-gone rest a l.itself))) ∙ k.left d (under-less rest a l rest (λ x y. y) d b);
        own = λ d n s b. ⊎_elim (λ (q : d ≡ a). rw q here) (λ g. other d (λ (q : d ≡ a). clash l.itself (rw q at g)) ∙ k.own d n s g) (bit-taken rest a l d b);
        other = λ d s. other d (λ (q : d ≡ a). clash (k.part a l.itself) (rw q at s)) ∙ k.other d s;
      }
    where
      here : get_or (set codes a v) a 0 ≡ joint (bit_of mask a) (get_or old a 0) (code_at cells scheme start a)
      here =
          get_or-set_same codes a v 0 (omega (arith, k.long, l.narrow)) ∙ e
          ∙ ap (λ (x : ℕ). joint (bit_of mask a) x (code_at cells scheme start a)) (k.left a l.itself)

      other : (d : ℕ) → d ≢ a → get_or (set codes a v) d 0 ≡ get_or codes d 0
      other d q = get_or-set_other codes a d v 0 q

  pub merge-end : (codes : List ℕ) → Merging cells scheme start mask old codes 0 → Joined cells scheme start mask old codes
  merge-end codes k = record { long = k.long; own = λ a l b. k.own a l b (zero_bit a); other = k.other }
