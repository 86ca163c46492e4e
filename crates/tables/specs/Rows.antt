-- "Rows of a table strictly rise, compared cell code by cell code from the left"; and rows without a value (#111). What follows stands in
-- proofs/RowLaws. Assumes nothing.
use Rattle.std.specs.Prelude.{ℕ, Bool, true, false, cond, ◌&&◌, List, [], ◌∷◌, ltb, eqb}

-- The first row lies strictly below the second.
unfoldable pub below : List ℕ → List ℕ → Bool
below [] ys = false
below (x ∷ xs) [] = false
below (x ∷ xs) (y ∷ ys) = cond (ltb x y) true (cond (ltb y x) false (below xs ys))

-- "A cell code is 0 for null": an all-null row.
unfoldable pub all_null : List ℕ → Bool
all_null [] = true
all_null (x ∷ xs) = eqb x 0 && all_null xs
