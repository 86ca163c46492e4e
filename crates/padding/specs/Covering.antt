-- Which padded row covers which (request #104, which takes source document 001's rule): the test, and what its yes says; `covering-iff` of
-- proofs/CoveringLaws ties the two. Rows are lists of codes of any length, and a code of 0 is null. Assumes nothing.
use Rattle.std.specs.Prelude.{ℕ, ◌<◌, ◌≡◌, Bool, false, ◌&&◌, ◌||◌, List, [], ◌∷◌, length, get_or, eqb}
use Rattle.laws.specs.Tests.{all}

-- Of two codes: the second is null, or the first is the same.
unfoldable pub keeps : ℕ → ℕ → Bool
keeps x y = eqb y 0 || eqb x y

-- Of two rows, at an attribute.
abbrev pub keeps_at : List ℕ → List ℕ → ℕ → Bool
keeps_at first second a = keeps (get_or first a 0) (get_or second a 0)

-- "The first row has, at each attribute where the second has a value, that same value. Rows of unequal length still never cover."
unfoldable pub covering : List ℕ → List ℕ → Bool
covering first second = eqb (length first) (length second) && all (length second) (keeps_at first second)

-- What a yes says.
pub record Covering (first second : List ℕ) : Type 0 where
  pub long : length first ≡ length second
  pub values : (a : ℕ) → 0 < get_or second a 0 → get_or first a 0 ≡ get_or second a 0

-- The pair of request #104, (1, null, 3) and (1, 2, null), by its codes: neither row covers the other.
pub record Pair : Type 0 where
  pub there : covering (2 ∷ 0 ∷ 4 ∷ []) (2 ∷ 3 ∷ 0 ∷ []) ≡ false
  pub back : covering (2 ∷ 3 ∷ 0 ∷ []) (2 ∷ 0 ∷ 4 ∷ []) ≡ false

-- "A public yes or no answers this": what the call that answers r promises.
abbrev pub Covers : List ℕ → List ℕ → Bool → Type 0
Covers first second r = r ≡ covering first second
