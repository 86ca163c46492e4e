-- Public calls one after the other, each lent what the one before left: the record, the four lists of the store, and a padded row of the caller's own.
-- That they are the run of the rule's calls, of which the demands speak, is proved in proofs/InARow. Assumes nothing.
use Rattle.std.specs.Prelude.{ℕ, List, [], ◌∷◌}
use Rattle.tables.specs.declared.Catalogue.{Catalogue}
use Rattle.machine.specs.Machine.{State, Called}
use Rattle.machine.specs.Runs.{Given}
use Rattle.stream.specs.declared.StreamRecord.{StreamRecord}
use Rattle.stream.specs.Answers.{StepAnswer, HoldingStepAnswer}
use Rattle.stream.specs.declared.HoldingRecord.{HoldingRecord}
use Rattle.stream.specs.Promises.{state_of, holding_state_of, called_of, called_holding, Steps, StepsHolding}
use Rattle.harbour.specs.Answers.{NextAnswer, with_record, with_holding, Nexts, NextsHolding}

module _ (cat : Catalogue) (cells : List ℕ) where
  -- Calls from state q that were given gs and answered l, and left state p. Each meets the promise of `step` or of the thin call `next`, of either stream.
  pub data InRow : State → List Given → List Called → State → Type 0 where
    none : {q : State} → InRow q [] [] q
    stepped : {gs : List Given} {l : List Called} {p : State} (s : StreamRecord) (low high left right : List ℕ) (b : ℕ) (row : List ℕ)
        (r : StepAnswer) (ks hs ls rs w : List ℕ) → Steps cat cells low high left right s b row r ks hs ls rs w → InRow (state_of r.stream ks hs ls rs) gs l p
        → InRow (state_of s low high left right) (record { budget = b; row = row } ∷ gs) (called_of r ks hs ls rs w ∷ l) p
    nexted : {gs : List Given} {l : List Called} {p : State} (s : StreamRecord) (low high left right : List ℕ) (b : ℕ) (row : List ℕ)
        (r : NextAnswer) (s' : StreamRecord) (ks hs ls rs w : List ℕ) → Nexts cat cells low high left right s b row r s' ks hs ls rs w → InRow (state_of s' ks hs ls rs) gs l p
        → InRow (state_of s low high left right) (record { budget = b; row = row } ∷ gs) (called_of (with_record r s') ks hs ls rs w ∷ l) p
    stepped-holding : {gs : List Given} {l : List Called} {p : State} (s : HoldingRecord) (low high left right : List ℕ) (b : ℕ) (row : List ℕ)
        (r : HoldingStepAnswer) (ks hs ls rs w : List ℕ) → StepsHolding cat cells low high left right s b row r ks hs ls rs w
        → InRow (holding_state_of r.stream ks hs ls rs) gs l p
        → InRow (holding_state_of s low high left right) (record { budget = b; row = row } ∷ gs) (called_holding r ks hs ls rs w ∷ l) p
    nexted-holding : {gs : List Given} {l : List Called} {p : State} (s : HoldingRecord) (low high left right : List ℕ) (b : ℕ) (row : List ℕ)
        (r : NextAnswer) (s' : HoldingRecord) (ks hs ls rs w : List ℕ) → NextsHolding cat cells low high left right s b row r s' ks hs ls rs w
        → InRow (holding_state_of s' ks hs ls rs) gs l p
        → InRow (holding_state_of s low high left right) (record { budget = b; row = row } ∷ gs) (called_holding (with_holding r s') ks hs ls rs w ∷ l) p
