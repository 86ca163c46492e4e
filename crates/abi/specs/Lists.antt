-- What the check of a list promises from C: the library's own call, with what its answer names in two lent words. Where a lent slice has fewer words
-- than the call needs, the answer is 31 and nothing changes. Assumes nothing.
use Rattle.std.specs.Prelude.{ℕ, ◌≡◌, Bool, cond, ◌||◌, List, [], ◌∷◌, length, ltb}
use Rattle.laws.specs.Lists.{put}
use Rattle.hub.specs.Answers.{ListVerdict, Right, Entry, Missing, Refused}
use Rattle.hub.specs.Promises.{listed_keys, checked}
use Rattle.abi.specs.Words.{catalogue_in}
use Rattle.abi.specs.Calls.{too_few_words, short}

-- Answer x 32 + refusal, the answers from 0: refused, right, an entry, a missing set.
abbrev pub verdict_number : ListVerdict → ℕ
verdict_number Right = 32
verdict_number (Entry i) = 64
verdict_number (Missing k) = 96
verdict_number (Refused k) = k

-- What it names: the place of an entry, from 0, or the key of a missing set, which has two words.
abbrev pub first_named : ListVerdict → ℕ
first_named Right = 0
first_named (Entry i) = i
first_named (Missing k) = k.low
first_named (Refused k) = 0

abbrev pub second_named : ListVerdict → ℕ
second_named Right = 0
second_named (Entry i) = 0
second_named (Missing k) = k.high
second_named (Refused k) = 0

-- Both words.
abbrev pub named_words : ListVerdict → List ℕ
named_words v = first_named v ∷ (second_named v ∷ [])

-- How many words a result has.
abbrev pub verdict_words : ℕ
verdict_words = 2

-- The lent words are too few: those of a catalogue or of a result.
unfoldable pub list_short : List ℕ → List ℕ → Bool
list_short catalogue result = short catalogue || ltb (length result) verdict_words

-- A check of a list: its number, and the words of the result.
pub record ListCall (catalogue cells low high result : List ℕ) (r : ℕ) (result' : List ℕ) : Type 0 where
  pub answer : r ≡ cond (list_short catalogue result) too_few_words (verdict_number (checked (catalogue_in catalogue) cells (listed_keys low high)))
  pub result-after : result' ≡ cond (list_short catalogue result) result (put (named_words (checked (catalogue_in catalogue) cells (listed_keys low high))) result)
