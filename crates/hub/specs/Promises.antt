-- What the check of the hub's list promises: the verdict of specs/Verdicts on the sets that the listed words name, behind the catalogue's refusals. And
-- what the verdicts say of the words themselves (proofs/KeyVerdicts). Assumes nothing.
use Rattle.std.specs.Prelude.{ℕ, zero, suc, ◌<◌, min, ◌≡◌, ◌⊎◌, cond, length, get_or}
use mathlib.Core.List.{List, [], ◌∷◌, ◌++◌, map, Memᴰ}
use Rattle.laws.specs.Lists.{tab}
use Rattle.laws.specs.Distinct.{Distinct}
use Rattle.keys.specs.Keys.{bits_per_row, key_of}
use Rattle.keys.specs.TwoWords.{number_in, key_with}
use Rattle.tables.specs.declared.Catalogue.{Catalogue}
use Rattle.tables.specs.Checks.{catalogue_fault}
use Rattle.disjunction.specs.Sets.{Maximal}
use Rattle.rows.specs.World.{world_of, set_of}
use Rattle.rows.specs.Named.{named}
use Rattle.hub.specs.Answers.{ListVerdict, Right, Entry, Missing, Refused}
use Rattle.hub.specs.Verdicts.{Verdict, right, entry, missing, reached, verdict}

-- The listed keys: "Words lie in two slices; the shortest slice counts" (#110).
unfoldable pub listed_keys : List ℕ → List ℕ → List ℕ
listed_keys low high = tab (min (length low) (length high)) (λ i. number_in (get_or low i 0) (get_or high i 0))

-- The set that a listed key names. One that is 0, or that names a missing row or a table from n on, or that has a spare bit, names no row.
unfoldable pub word_set : Catalogue → ℕ → List ℕ
word_set cat word = cond (named cat word) (set_of cat word) []

-- Those of a list of keys.
abbrev pub word_sets : Catalogue → List ℕ → List (List ℕ)
word_sets cat words = map (word_set cat) words

-- The answer that gives a verdict: a set is named by its key.
abbrev pub answer_of : Verdict → ListVerdict
answer_of right = Right
answer_of (entry i) = Entry i
answer_of (missing T) = Missing (key_with (key_of bits_per_row T))

-- "Refusals: 4, 5, 6 and 8 over the catalogue, as in open."
abbrev pub refused_or : ℕ → ListVerdict → ListVerdict
refused_or zero v = v
refused_or (suc k) v = Refused (suc k)

module _ (cat : Catalogue) (cells : List ℕ) where
  -- The check of a list of keys.
  unfoldable pub checked : List ℕ → ListVerdict
  checked words = refused_or (catalogue_fault cat (length cells)) (answer_of (verdict (world_of cat cells) (word_sets cat words)))

  -- What `check_list` promises; it is lent nothing that it could write.
  abbrev pub ChecksList : List ℕ → List ℕ → ListVerdict → Type 0
  ChecksList low high r = r ≡ checked (listed_keys low high)

  -- ---- what the verdicts say of the words

  -- The word is the key of a maximal set.
  abbrev pub MaximalKey : ℕ → Type 0
  MaximalKey word = (T : List ℕ) × Maximal (world_of cat cells) T × (word ≡ key_of bits_per_row T)

  -- "Not a maximal set or repeats an earlier one."
  abbrev pub SpoiltKey : List ℕ → ℕ → Type 0
  SpoiltKey words i = (MaximalKey (get_or words i 0) → ⊥) ⊎ ((j : ℕ) × (j < i) × (get_or words j 0 ≡ get_or words i 0))

  -- Every entry is a maximal set and repeats none.
  pub record SoundKeys (words : List ℕ) : Type 0 where
    pub once : Distinct words
    pub only : (word : ℕ) → Memᴰ word words → MaximalKey word

  -- "Holds every maximal set once and nothing else."
  pub record RightKeys (words : List ℕ) : Type 0 where
    pub sound : SoundKeys words
    pub every : (T : List ℕ) → Maximal (world_of cat cells) T → Memᴰ (key_of bits_per_row T) words

  -- "The first maximal set not in the list that the stream's trials reach when run over the listed sets in the hub's order (for an empty list, the
  -- extension of the first row)": the keys of those reached before it are listed, and k, which is its key, is not.
  pub record FirstOutKey (words : List ℕ) (k : ℕ) : Type 0 where
    pub set : List ℕ
    pub front : List (List ℕ)
    pub back : List (List ℕ)
    pub split : reached (world_of cat cells) (word_sets cat words) ≡ front ++ (set ∷ back)
    pub key : k ≡ key_of bits_per_row set
    pub before : (U : List ℕ) → Memᴰ U front → Memᴰ (key_of bits_per_row U) words
    pub out : Memᴰ k words → ⊥
