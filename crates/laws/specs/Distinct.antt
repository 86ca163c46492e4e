-- Lists without repeats. What follows from it stands in proofs/DistinctLaws. Assumes nothing.
use mathlib.Core.List.{List, [], ◌∷◌, Memᴰ}

-- No element of the list stands in it twice.
pub data Distinct {A : Type 0} : List A → Type 0 where
  none : Distinct []
  more : {x : A} {l : List A} → (Memᴰ x l → ⊥) → Distinct l → Distinct (x ∷ l)
