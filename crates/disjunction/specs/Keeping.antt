-- The stream with its store seen as a list of sets: what a trial leaves in it, and what handing out does (document 01, 'The stream's own rule').
-- Keys, links, budgets and refusals are left to the stream's own definitions. Everything here computes. Assumes nothing.
use Rattle.std.specs.Prelude.{ℕ, zero, suc, ◌+◌, ◌-◌, ◌≡◌, refl, Bool, cond, length, get_or, eqb}
use Rattle.std.proofs.Math.Decide.{ℕ_discrete}
use Rattle.std.proofs.Common.{ap₂, ⊎_elim}
use mathlib.Core.List.Memᴰ
use mathlib.Core.List.{List, [], ◌∷◌, ◌++◌, Memᴰ, nil≢cons, cons≢nil, head-eq_of_cons-eq, tail-eq_of_cons-eq}
use Rattle.disjunction.specs.Sets.{Tables}
use Rattle.disjunction.specs.Rule.{rows, row_at, Grown, extension, alone, trial}
use Rattle.disjunction.specs.Asked.{Asked, wanted, first_for}

-- Whether two sets are equal. (The library's own decision of it cannot be unfolded.)
unfoldable pub same_dec : {x y : ℕ} {xs ys : List ℕ} → Dec (x ≡ y) → Dec (xs ≡ ys) → Dec (◌≡◌ {A = List ℕ} (x ∷ xs) (y ∷ ys))
same_dec (yes e) (yes f) = yes (ap₂ (λ (z : ℕ) (zs : List ℕ). z ∷ zs) e f)
same_dec (yes e) (no g) = no (λ h. g (tail-eq_of_cons-eq h))
same_dec (no g) d = no (λ h. g (head-eq_of_cons-eq h))

-- Two lists of row numbers are equal, or they are not.
unfoldable pub sets-discrete : Discrete (List ℕ)
unfolding same_dec
sets-discrete [] [] = yes refl
sets-discrete [] (y ∷ ys) = no nil≢cons
sets-discrete (x ∷ xs) [] = no cons≢nil
sets-discrete (x ∷ xs) (y ∷ ys) = same_dec (ℕ_discrete x y) (sets-discrete xs ys)

module _ {A : Type 0} where
  -- Whether a list has x.
  unfoldable pub dec_memᴰ : Discrete A → (x : A) (l : List A) → Dec (Memᴰ x l)
  dec_memᴰ eq x [] = no Memᴰ.not-nil
  dec_memᴰ eq x (y ∷ l) = go (eq x y) (dec_memᴰ eq x l)
    where
      go : Dec (x ≡ y) → Dec (Memᴰ x l) → Dec (Memᴰ x (y ∷ l))
      go (yes e) b = yes (Memᴰ.head e)
      go (no d) (yes m) = yes (Memᴰ.tail m)
      go (no d) (no h) = no (λ k. ⊎_elim d h (Memᴰ.cases_cons k))

  -- The list with x at its end, unless it has x.
  unfoldable pub stored : {l : List A} {x : A} → Dec (Memᴰ x l) → List A
  stored {l} {x} (yes m) = l
  stored {l} {x} (no h) = l ++ (x ∷ [])

-- "Search. If absent, the key becomes the next record .."
unfoldable pub keep : List (List ℕ) → List ℕ → List (List ℕ)
keep l T = stored {l = l} {x = T} (dec_memᴰ sets-discrete T l)

-- "A trial whose extended set lacks the row makes no search" (#109): only what is wanted is kept.
unfoldable pub keep_if : Bool → List (List ℕ) → List ℕ → List (List ℕ)
keep_if b l T = cond b (keep l T) l

-- "Found, taken, next row": found is the number of sets.
pub record State : Type 0 where
  pub sets : List (List ℕ)
  pub taken : ℕ
  pub next : ℕ

-- "Hand out record `taken` .., raise taken, set next row to 0 .."
unfoldable pub take : State → State
take q = record { sets = q.sets; taken = q.taken + 1; next = 0 }

module _ (W : Tables) where
  -- "The trial of the row at place next row .. on the set in record taken - 1."
  abbrev pub trial_now : State → Grown
  trial_now q = trial W (get_or q.sets (q.taken - 1) []) (row_at W q.next)

  -- A step's row tests.
  unfoldable pub list_tests : State → ℕ
  list_tests q = cond (eqb q.next (length (rows W))) 0 (trial_now q).tests

  -- What is asked for decides which row open extends, and what a trial keeps.
  module _ (a : Asked) where
    -- "Open with N above 0 extends the first row alone, stores it as record 0 .. and gives found 1, taken 0, next row N. With N = 0 all three are 0."
    unfoldable pub list_open : State
    list_open =
        cond (eqb (length (rows W)) 0)
        (record { sets = []; taken = 0; next = 0 })
        (record { sets = (extension W (alone W (first_for W a))).rows ∷ []; taken = 0; next = length (rows W) })

    -- "Do the trial .., and raise next row."
    unfoldable pub try : State → State
    try q = record { sets = keep_if (wanted a (trial_now q).rows) q.sets (trial_now q).rows; taken = q.taken; next = q.next + 1 }

    -- A step: "if next row is N, hand out record `taken` ..; or, if taken is found, answer finished. Else .. do the trial."
    unfoldable pub list_move : State → State
    list_move q = cond (eqb q.next (length (rows W))) (cond (eqb q.taken (length q.sets)) q (take q)) (try q)

    -- The state after k steps.
    unfoldable pub list_moves : ℕ → State → State
    list_moves zero q = q
    list_moves (suc k) q = list_moves k (list_move q)

    -- The row tests of k steps.
    unfoldable pub tests_in : ℕ → State → ℕ
    tests_in zero q = 0
    tests_in (suc k) q = list_tests q + tests_in k (list_move q)
