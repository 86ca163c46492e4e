-- The short test for a maximal set: it has a row, its rows are there, and the trial of each of them gives it back. That it is document 000's `Maximal`
-- is `standing-iff` of proofs/StandingLaws. Everything here computes. Assumes nothing.
use Rattle.std.specs.Prelude.{ℕ, Bool, ◌&&◌, ◌||◌, List, length, leb, eqb}
use Rattle.laws.specs.Tests.{any, all, is_yes}
use Rattle.disjunction.specs.Sets.{Tables, at}
use Rattle.disjunction.specs.Rule.{row_in, member, absent, trial}
use Rattle.disjunction.specs.Keeping.{sets-discrete}

-- Two sets are the same.
unfoldable pub same_set : List ℕ → List ℕ → Bool
same_set T U = is_yes (sets-discrete T U)

module _ (W : Tables) where
  -- Every row of T is there.
  unfoldable pub valid : List ℕ → Bool
  valid T = eqb (length T) W.n && all W.n (λ t. leb (at T t) (W.count t))

  -- The trial of T's own row in table t gives T back.
  unfoldable pub gives_back : List ℕ → ℕ → Bool
  gives_back T t = absent T t || same_set (trial W T (row_in T t)).rows T

  -- T is a maximal set.
  unfoldable pub standing : List ℕ → Bool
  standing T = valid T && any W.n (member T) && all W.n (gives_back T)
