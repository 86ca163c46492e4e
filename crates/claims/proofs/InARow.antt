-- Public calls in a row are the run of the rule's calls: each promise is an equation with the rule's call, and what it leaves is what the next is given.
-- Assumes nothing.
use Prim.Native.Nat.{ℕ}
use mathlib.Core.Path.{◌≡◌, refl, ap, ap₂, ◌∙◌}
use mathlib.Core.List.{List, ◌∷◌}
use Rattle.tables.specs.declared.Catalogue.{Catalogue}
use Rattle.machine.specs.Machine.{State, Called, call}
use Rattle.machine.specs.Runs.{Given, run_of, ended_of}
use Rattle.stream.specs.Promises.{state_of, holding_state_of, called_of, called_holding}
use Rattle.harbour.specs.Answers.{with_record, with_holding}
use Rattle.claims.specs.CallsInRow.{InRow, none, stepped, nexted, stepped-holding, nexted-holding}

module _ (cat : Catalogue) (cells : List ℕ) where
  -- The answers are the run's, and the state is the one behind it.
  pub record Ran (q : State) (gs : List Given) (l : List Called) (p : State) : Type 0 where
    pub answers : l ≡ run_of (call cat cells) gs q
    pub state : p ≡ ended_of (call cat cells) gs q

  -- One call more before them, which is the rule's.
  ran-more : (q : State) (b : ℕ) (row : List ℕ) (s : Called) (gs : List Given) (l : List Called) (p : State) → s ≡ call cat cells b q row
      → Ran s.after gs l p → Ran q (record { budget = b; row = row } ∷ gs) (s ∷ l) p
  unfolding run_of ended_of
  ran-more q b row s gs l p e r =
      record {
        answers = ap₂ (λ (x : Called) (y : List Called). x ∷ y) e (r.answers ∙ ap (λ (x : Called). run_of (call cat cells) gs x.after) e);
        state = r.state ∙ ap (λ (x : Called). ended_of (call cat cells) gs x.after) e;
      }

  pub in-row-ran : {q : State} {gs : List Given} {l : List Called} {p : State} → InRow cat cells q gs l p → Ran q gs l p
  unfolding run_of ended_of
  in-row-ran none = record { answers = refl; state = refl }
  in-row-ran (stepped s low high left right b row r ks hs ls rs w e i) =
      ran-more (state_of s low high left right) b row (called_of r ks hs ls rs w) _ _ _ e (in-row-ran i)
  in-row-ran (nexted s low high left right b row r s' ks hs ls rs w e i) =
      ran-more (state_of s low high left right) b row (called_of (with_record r s') ks hs ls rs w) _ _ _ e (in-row-ran i)
  in-row-ran (stepped-holding s low high left right b row r ks hs ls rs w e i) =
      ran-more (holding_state_of s low high left right) b row (called_holding r ks hs ls rs w) _ _ _ e (in-row-ran i)
  in-row-ran (nexted-holding s low high left right b row r s' ks hs ls rs w e i) =
      ran-more (holding_state_of s low high left right) b row (called_holding (with_holding r s') ks hs ls rs w) _ _ _ e (in-row-ran i)
