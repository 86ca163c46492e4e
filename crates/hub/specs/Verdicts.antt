-- "Check the hub's list" (request #101): the verdict on a list of row sets, in that request's words and order. Everything here computes; what each
-- verdict says is proved in proofs/VerdictLaws. The same on a list of keys is in specs/Promises. Assumes nothing.
use Rattle.std.specs.Prelude.{ℕ, ◌<◌, ◌≡◌, ◌⊎◌, Bool, not, cond, ◌||◌, length, get_or}
use mathlib.Core.List.{List, [], ◌∷◌, ◌++◌, Memᴰ}
use Rattle.laws.specs.Tests.{any, is_yes, Lowest, lowest, without, lowest_below}
use Rattle.laws.specs.Distinct.{Distinct}
use Rattle.disjunction.specs.Sets.{Tables, Maximal}
use Rattle.disjunction.specs.Rule.{Place, rows, trial}
use Rattle.disjunction.specs.Asked.{every_set}
use Rattle.disjunction.specs.Keeping.{sets-discrete, dec_memᴰ, list_open}
use Rattle.disjunction.specs.Standing.{same_set, standing}

-- "One yes or no": yes; no, by the entry at a place, from 0; or no, by a set that is not listed.
pub data Verdict : Type 0 where
  right : Verdict
  entry : ℕ → Verdict
  missing : List ℕ → Verdict

-- T stands in the list.
unfoldable pub listed : List (List ℕ) → List ℕ → Bool
listed l T = is_yes (dec_memᴰ sets-discrete T l)

-- "The first .. not in the list": of the sets k.
unfoldable pub seek : List (List ℕ) → List (List ℕ) → Verdict
seek l [] = right
seek l (T ∷ k) = cond (listed l T) (seek l k) (missing T)

-- What naming T says: those before it are listed, and it is not.
pub record FirstOut (l k : List (List ℕ)) (T : List ℕ) : Type 0 where
  pub front : List (List ℕ)
  pub back : List (List ℕ)
  pub split : k ≡ front ++ (T ∷ back)
  pub before : (U : List ℕ) → Memᴰ U front → Memᴰ U l
  pub out : Memᴰ T l → ⊥

-- "Names the first listed entry ..; failing that, .."
abbrev pub entry_or : Lowest → Verdict → Verdict
entry_or (lowest i) v = entry i
entry_or without v = v

module _ (W : Tables) where
  -- "Not a maximal set or repeats an earlier one": the entry at place i, ..
  unfoldable pub spoilt : List (List ℕ) → ℕ → Bool
  spoilt l i = not (standing W (get_or l i [])) || any i (λ j. same_set (get_or l j []) (get_or l i []))

  -- .. and what its yes says.
  abbrev pub Spoilt : List (List ℕ) → ℕ → Type 0
  Spoilt l i = (Maximal W (get_or l i []) → ⊥) ⊎ ((j : ℕ) × (j < i) × (get_or l j [] ≡ get_or l i []))

  -- The sets that the trials of these rows on T reach, in their order.
  unfoldable pub tried : List ℕ → List Place → List (List ℕ)
  tried T [] = []
  tried T (s ∷ p) = (trial W T s).rows ∷ tried T p

  -- "The stream's trials .. run over the listed sets in the hub's order", each with the rows in row order.
  unfoldable pub tried_on : List (List ℕ) → List (List ℕ)
  tried_on [] = []
  tried_on (T ∷ l) = tried T (rows W) ++ tried_on l

  -- "For an empty list, the extension of the first row": what open stores. With no rows there is none.
  unfoldable pub reached : List (List ℕ) → List (List ℕ)
  reached [] = (list_open W every_set).sets
  reached (T ∷ l) = tried_on (T ∷ l)

  -- "A "no" names the first listed entry that is not a maximal set or repeats an earlier one; failing that, the first maximal set not in the list that
  -- the stream's trials reach."
  unfoldable pub verdict : List (List ℕ) → Verdict
  verdict l = entry_or (lowest_below (length l) (spoilt l)) (seek l (reached l))

  -- Every entry is a maximal set and repeats none.
  pub record Sound (l : List (List ℕ)) : Type 0 where
    pub distinct : Distinct l
    pub maximal : (T : List ℕ) → Memᴰ T l → Maximal W T

  -- "Yes exactly when the list, in any order, holds every maximal set once and nothing else."
  pub record Whole (l : List (List ℕ)) : Type 0 where
    pub sound : Sound l
    pub every : (T : List ℕ) → Maximal W T → Memᴰ T l
