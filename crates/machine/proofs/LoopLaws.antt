-- Laws by which the code's loop meets the call, one for each way it goes: the budget is counted down, and the counts so far are piled on what the rest
-- of the work comes to. The invariant is `work b₀ q₀ row ≡ piled trials tests looks (work b q row)`. Assumes nothing.
use Prim.Native.Nat.{ℕ, suc, ◌+◌, ◌-◌, ◌<◌}
use native.Mathlib.Omega.{arith}
use native.Mathlib.Nat.{zero-add, add_assoc}
use mathlib.Core.Path.{◌≡◌, refl, sym, ap, ◌∙◌}
use mathlib.Core.Bool.{true, false}
use mathlib.Core.List.{List}
use Rattle.tables.specs.declared.Catalogue.{Catalogue}
use Rattle.tables.specs.Catalogues.{total}
use Rattle.rows.specs.Named.{named}
use Rattle.machine.specs.Machine.{State, Trial, done, full, damaged, trial_on, Says, a_set, finished, working, refused, Called, counted, piled, after_trial, taken_of, key_due, padded_in, work}
use Rattle.machine.proofs.WorkLaws.{work-ends, work-hands, work-lost, work-spent, work-trial}

-- What the code gives in the end, with these counts.
abbrev pub told : Says → ℕ → ℕ → ℕ → ℕ → State → List ℕ → Called
told a key trials tests looks q row =
    record { says = a; key = key; trials = trials; tests = tests; looks = looks; after = q; row = row }

-- The loop's start.
pub piled-none : (s : Called) → s ≡ piled 0 0 0 s
piled-none s = simp zero-add

-- Its end: an answer without a trial.
piled-told : (a : Says) (k : ℕ) (q : State) (row : List ℕ) (n t l : ℕ) → piled n t l (told a k 0 0 0 q row) ≡ told a k n t l q row
piled-told a k q row n t l =
    let e : n + 0 ≡ n = omega arith in
    let f : t + 0 ≡ t = omega arith in
    let g : l + 0 ≡ l = omega arith in
    rw (e, f, g) refl

piled-more : (a t l t' l' : ℕ) (s : Called) → piled a t l (counted t' l' s) ≡ piled (a + 1) (t + t') (l + l') s
piled-more a t l t' l' s =
    let f : a + suc s.trials ≡ a + 1 + s.trials = omega arith in
    rw (f, sym (add_assoc t t' s.tests), sym (add_assoc l l' s.looks)) refl

module _ (cat : Catalogue) (cells row : List ℕ) (a t l b : ℕ) (q : State) where
  abbrev Left : Called
  Left = piled a t l (work cat cells b q row)

  pub loop-finished : q.next ≡ total cat → q.taken ≡ q.store.found → Left ≡ told finished 0 a t l q row
  loop-finished e f = ap (piled a t l) (work-ends cat cells row b q e f) ∙ piled-told finished 0 q row a t l

  pub loop-set : q.next ≡ total cat → (q.taken ≡ q.store.found → ⊥) → named cat (key_due q) ≡ true
      → Left ≡ told a_set (key_due q) a t l (taken_of q) (padded_in cat cells (key_due q) row)
  loop-set e f g =
      ap (piled a t l) (work-hands cat cells row b q e f g) ∙ piled-told a_set (key_due q) (taken_of q) (padded_in cat cells (key_due q) row) a t l

  pub loop-lost : q.next ≡ total cat → (q.taken ≡ q.store.found → ⊥) → named cat (key_due q) ≡ false → Left ≡ told (refused 14) 0 a t l q row
  loop-lost e f g = ap (piled a t l) (work-lost cat cells row b q e f g) ∙ piled-told (refused 14) 0 q row a t l

  pub loop-working : (q.next ≡ total cat → ⊥) → b ≡ 0 → Left ≡ told working 0 a t l q row
  loop-working e z = rw z (ap (piled a t l) (work-spent cat cells row q e) ∙ piled-told working 0 q row a t l)

  -- A trial, where the budget is not spent.
  loop-trial : (u : Trial) → (q.next ≡ total cat → ⊥) → 0 < b → trial_on cat cells q ≡ u
      → Left ≡ piled a t l (after_trial u q row (λ p. work cat cells (b - 1) p row))
  loop-trial u e h f =
      let s : b ≡ suc (b - 1) = omega arith in
      ap (λ (k : ℕ). piled a t l (work cat cells k q row)) s ∙ ap (piled a t l) (work-trial cat cells row (b - 1) q u e f)

  pub loop-full : (q.next ≡ total cat → ⊥) → 0 < b → trial_on cat cells q ≡ full → Left ≡ told (refused 12) 0 a t l q row
  loop-full e h f = loop-trial full e h f ∙ piled-told (refused 12) 0 q row a t l

  pub loop-damaged : (q.next ≡ total cat → ⊥) → 0 < b → trial_on cat cells q ≡ damaged → Left ≡ told (refused 14) 0 a t l q row
  loop-damaged e h f = loop-trial damaged e h f ∙ piled-told (refused 14) 0 q row a t l

  pub loop-on : (p : State) (t' l' : ℕ) → (q.next ≡ total cat → ⊥) → 0 < b → trial_on cat cells q ≡ done p t' l'
      → Left ≡ piled (a + 1) (t + t') (l + l') (work cat cells (b - 1) p row)
  loop-on p t' l' e h f = loop-trial (done p t' l') e h f ∙ piled-more a t l t' l' (work cat cells (b - 1) p row)
