-- Which word of a catalogue stands at a place. Assumes nothing.
use Prim.Native.Nat.{ℕ, suc, ◌+◌, ◌-◌, ◌<◌, ◌≤◌}
use native.Mathlib.Omega.{arith}
use mathlib.Core.Path.{◌≡◌, ap, ◌∙◌}
use mathlib.Core.List.{List, ◌++◌}
use lib.ListN.{length, get_or, length-append, get_or-append}
use lib.Seq.{get_or-append-add}
use Rattle.tables.specs.declared.Catalogue.{Catalogue}
use Rattle.tables.specs.Sizes.{most_tables}
use Rattle.abi.specs.Words.{schemes_at, counts_at, places_at, masks_at, catalogue_words, words_of}

-- Behind eight numbers the later ones stand.
behind : (xs ys : List ℕ) (i : ℕ) → length xs ≡ most_tables → most_tables ≤ i → get_or (xs ++ ys) i 0 ≡ get_or ys (i - most_tables) 0
behind xs ys i e l =
    let q : i ≡ length xs + (i - most_tables) = omega arith in
    ap (λ (j : ℕ). get_or (xs ++ ys) j 0) q ∙ get_or-append-add xs ys (i - most_tables) 0

-- A catalogue has eight of each.
module _ (cat : Catalogue) (s : length cat.schemes ≡ most_tables) where
  -- The word at a place behind m and n.
  word : (i : ℕ) → schemes_at ≤ i → get_or (words_of cat) i 0 ≡ get_or (cat.schemes ++ (cat.rows ++ (cat.places ++ cat.touching))) (i - schemes_at) 0
  word i l =
      let e : i ≡ suc (suc (i - schemes_at)) = omega arith in
      ap (λ (j : ℕ). get_or (words_of cat) j 0) e

  pub words-scheme : (i : ℕ) → schemes_at ≤ i → i < counts_at → get_or (words_of cat) i 0 ≡ get_or cat.schemes (i - schemes_at) 0
  words-scheme i l h = word i l ∙ get_or-append cat.schemes (cat.rows ++ (cat.places ++ cat.touching)) 0 (i - schemes_at) (omega arith)

  module _ (r : length cat.rows ≡ most_tables) where
    counts : (i : ℕ) → counts_at ≤ i → get_or (words_of cat) i 0 ≡ get_or (cat.rows ++ (cat.places ++ cat.touching)) (i - counts_at) 0
    counts i l =
        let e : i - schemes_at - most_tables ≡ i - counts_at = omega arith in
        word i (omega arith) ∙ behind cat.schemes (cat.rows ++ (cat.places ++ cat.touching)) (i - schemes_at) s (omega arith) ∙ rw e

    pub words_count : (i : ℕ) → counts_at ≤ i → i < places_at → get_or (words_of cat) i 0 ≡ get_or cat.rows (i - counts_at) 0
    words_count i l h = counts i l ∙ get_or-append cat.rows (cat.places ++ cat.touching) 0 (i - counts_at) (omega arith)

    module _ (p : length cat.places ≡ most_tables) where
      places : (i : ℕ) → places_at ≤ i → get_or (words_of cat) i 0 ≡ get_or (cat.places ++ cat.touching) (i - places_at) 0
      places i l =
          let e : i - counts_at - most_tables ≡ i - places_at = omega arith in
          counts i (omega arith) ∙ behind cat.rows (cat.places ++ cat.touching) (i - counts_at) r (omega arith) ∙ rw e

      pub words-place : (i : ℕ) → places_at ≤ i → i < masks_at → get_or (words_of cat) i 0 ≡ get_or cat.places (i - places_at) 0
      words-place i l h = places i l ∙ get_or-append cat.places cat.touching 0 (i - places_at) (omega arith)

      pub words-mask : (i : ℕ) → masks_at ≤ i → get_or (words_of cat) i 0 ≡ get_or cat.touching (i - masks_at) 0
      words-mask i l =
          let e : i - places_at - most_tables ≡ i - masks_at = omega arith in
          places i (omega arith) ∙ behind cat.places cat.touching (i - places_at) p (omega arith) ∙ rw e

      pub words-length : length cat.touching ≡ most_tables → length (words_of cat) ≡ catalogue_words
      words-length t = simp length-append (omega arith)
