-- Calls of a stream one after the other, and the rule's steps that they are made of: what the demands on a stream speak about. Assumes nothing.
use Rattle.std.specs.Prelude.{ℕ, zero, suc, ◌+◌, cond, List, [], ◌∷◌, ◌++◌, eqb}
use Rattle.tables.specs.declared.Catalogue.{Catalogue}
use Rattle.tables.specs.Catalogues.{total}
use Rattle.rows.specs.Named.{named}
use Rattle.machine.specs.Machine.{State, Trial, done, full, damaged, trial_on, Says, a_set, finished, working, refused, Called, taken_of, key_due}

-- What a caller gives with a call: the budget, and the padded row that it lends.
pub record Given : Type 0 where
  pub budget : ℕ
  pub row : List ℕ

-- The calls of any stream, whose call is `step`, one after the other.
unfoldable pub run_of : (ℕ → State → List ℕ → Called) → List Given → State → List Called
run_of step [] q = []
run_of step (g ∷ gs) q = step g.budget q g.row ∷ run_of step gs (step g.budget q g.row).after

-- The state after the calls.
unfoldable pub ended_of : (ℕ → State → List ℕ → Called) → List Given → State → State
ended_of step [] q = q
ended_of step (g ∷ gs) q = ended_of step gs (step g.budget q g.row).after

-- The key that an answer hands out, if it is a set.
abbrev pub keys_in : Says → ℕ → List ℕ
keys_in a_set k = k ∷ []
keys_in finished k = []
keys_in working k = []
keys_in (refused r) k = []

-- The keys handed out in a list of calls.
unfoldable pub handed : List Called → List ℕ
handed [] = []
handed (s ∷ l) = keys_in s.says s.key ++ handed l

-- The sum of a number over calls: their trials, row tests or looks.
unfoldable pub sum : (Called → ℕ) → List Called → ℕ
sum f [] = 0
sum f (s ∷ l) = f s + sum f l

-- ---- the rule's steps, whatever the budgets

-- The state after a trial; a refused one leaves no mark.
abbrev pub stays : State → Trial → State
stays q (done p t l) = p
stays q full = q
stays q damaged = q

-- The looks of a trial that are counted.
abbrev pub looks_of : Trial → ℕ
looks_of (done p t l) = l
looks_of full = 0
looks_of damaged = 0

module _ (cat : Catalogue) (cells : List ℕ) where
  -- One step: where next row is N the next record is taken, if there is one that can be handed out; else the trial is made.
  unfoldable pub move : State → State
  move q =
      cond (eqb q.next (total cat))
      (cond (eqb q.taken q.store.found) q (cond (named cat (key_due q)) (taken_of q) q))
      (stays q (trial_on cat cells q))

  -- Its looks.
  unfoldable pub move_looks : State → ℕ
  move_looks q = cond (eqb q.next (total cat)) 0 (looks_of (trial_on cat cells q))

  -- The state after k steps.
  unfoldable pub moves : ℕ → State → State
  moves zero q = q
  moves (suc k) q = moves k (move q)

  -- The looks of k steps.
  unfoldable pub looks_in : ℕ → State → ℕ
  looks_in zero q = 0
  looks_in (suc k) q = move_looks q + looks_in k (move q)
