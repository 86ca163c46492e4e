-- Words for lists that definitions and contracts of several crates use: writing a part of a list, and a list from a rule.
-- What follows from them stands in proofs/ListLaws and proofs/PlacedLaws. Assumes nothing.
use Rattle.std.specs.Prelude.{ℕ, zero, suc, ◌+◌, ◌≡◌, List, [], ◌∷◌, ◌++◌, length, take, drop}

-- o with bs in its front; what lies behind them stays.
abbrev pub put : List ℕ → List ℕ → List ℕ
put bs o = bs ++ drop (length bs) o

-- o with bs from place a on; what lies before and behind them stays.
abbrev pub over : ℕ → List ℕ → List ℕ → List ℕ
over a bs o = take a o ++ put bs (drop a o)

-- The bytes bs stand in the lent ones from place a on, and n is the place behind them.
pub record Placed (bs : List ℕ) (a : ℕ) (lent : List ℕ) (n : ℕ) (after : List ℕ) : Type 0 where
  pub next : n ≡ a + length bs
  pub bytes : after ≡ over a bs lent

-- The first k values of f.
unfoldable pub tab : ℕ → (ℕ → ℕ) → List ℕ
tab zero f = []
tab (suc k) f = tab k f ++ (f k ∷ [])

-- k elements of a list, from place a on.
abbrev pub part : ℕ → ℕ → List ℕ → List ℕ
part a k l = take k (drop a l)
