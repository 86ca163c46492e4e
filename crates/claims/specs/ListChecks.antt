-- Request #101, "check the hub's list": each answer of the check exactly when, over whatever meets the promise that the public call cites. Proved in
-- proofs/ListChecked; when a catalogue is refused is in specs/CatalogueRefusals. Assumes nothing.
use Rattle.std.specs.Prelude.{ℕ, ◌<◌, ◌≡◌, ◌⊎◌, ◌↔◌, List, [], length}
use Rattle.laws.specs.Tests.{First}
use Rattle.keys.specs.Keys.{bits_per_row, key_of}
use Rattle.keys.specs.TwoWords.{key_with}
use Rattle.tables.specs.declared.Catalogue.{Catalogue}
use Rattle.tables.specs.Catalogues.{total}
use Rattle.tables.specs.Checks.{catalogue_fault, Lawful}
use Rattle.disjunction.specs.Rule.{row_at, extension, alone}
use Rattle.rows.specs.World.{world_of}
use Rattle.hub.specs.Answers.{ListVerdict, Right, Entry, Missing, Refused}
use Rattle.hub.specs.Promises.{MaximalKey, SpoiltKey, SoundKeys, RightKeys, FirstOutKey}

-- The answer r on a list of keys, each by its number.
pub record ListExact (cat : Catalogue) (cells words : List ℕ) (r : ListVerdict) : Type 0 where
  -- "Refusals: 4, 5, 6 and 8 over the catalogue, as in open."
  pub refusal : (k : ℕ) → (r ≡ Refused k) ↔ ((k ≡ 0 → ⊥) × (catalogue_fault cat (length cells) ≡ k))
  -- "Yes exactly when the list, in any order, holds every maximal set once and nothing else."
  pub right : (r ≡ Right) ↔ (Lawful cat (length cells) × RightKeys cat cells words)
  -- "With no rows, only the empty list is right."
  pub rowless : total cat ≡ 0 → (r ≡ Right) ↔ (Lawful cat (length cells) × (words ≡ []))
  -- "A "no" names the first listed entry that is not a maximal set or repeats an earlier one; .."
  pub entry : (i : ℕ) → (r ≡ Entry i) ↔ (Lawful cat (length cells) × First (length words) (SpoiltKey cat cells words) i)
  -- ".. failing that, the first maximal set not in the list that the stream's trials reach when run over the listed sets in the hub's order", ..
  pub missing : (k : ℕ) → (r ≡ Missing (key_with k)) ↔ (Lawful cat (length cells) × SoundKeys cat cells words × FirstOutKey cat cells words k)
  pub missing-set : (k : ℕ) → r ≡ Missing (key_with k) → MaximalKey cat cells k
  -- .. "for an empty list, the extension of the first row".
  pub missing-first : words ≡ [] → Lawful cat (length cells) → 0 < total cat
      → r ≡ Missing (key_with (key_of bits_per_row (extension (world_of cat cells) (alone (world_of cat cells) (row_at (world_of cat cells) 0))).rows))
  -- One of these is the answer.
  pub no_other : ((k : ℕ) × (r ≡ Refused k)) ⊎ (r ≡ Right) ⊎ ((i : ℕ) × (r ≡ Entry i)) ⊎ ((k : ℕ) × (r ≡ Missing (key_with k)))
