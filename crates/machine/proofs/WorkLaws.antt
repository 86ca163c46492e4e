-- A call's work: the seven ways it goes, each said once, and an induction over them, so that what is shown of every way holds of every call.
-- Assumes nothing.
use Prim.Native.Nat.{ℕ, zero, suc}
use mathlib.Core.Path.{◌≡◌, refl, ap, ◌∙◌}
use mathlib.Core.Bool.{Bool, true, false, cond}
use mathlib.Core.List.{List}
use lib.Dec.{eqb}
use borrow.Author.Tests.{eqb-true, eqb-false, eq-eqb, ne_eqb}
use Rattle.tables.specs.declared.Catalogue.{Catalogue}
use Rattle.tables.specs.Catalogues.{total}
use Rattle.rows.specs.Named.{named}
use Rattle.machine.specs.Machine.{State, Trial, done, full, damaged, trial_on, Says, a_set, finished, working, refused, Called, answer, counted, after_trial, taken_of, key_due, padded_in, hand_out, due_or, work}

module _ (cat : Catalogue) (cells row : List ℕ) where
  -- The answer that hands out.
  abbrev pub handing : State → Called
  handing q = record { says = a_set; key = key_due q; trials = 0; tests = 0; looks = 0; after = taken_of q; row = padded_in cat cells (key_due q) row }

  -- What is due comes before any trial, whatever else there is.
  due-ends : (q : State) (o : Called) → q.next ≡ total cat → q.taken ≡ q.store.found → due_or cat cells q row o ≡ answer finished q row
  unfolding due_or
  due-ends q o e f = rw (eq-eqb q.next (total cat) e, eq-eqb q.taken q.store.found f)

  hand-named : (q : State) → named cat (key_due q) ≡ true → hand_out cat cells q row ≡ handing q
  unfolding hand_out
  hand-named q g = rw g

  hand-lost : (q : State) → named cat (key_due q) ≡ false → hand_out cat cells q row ≡ answer (refused 14) q row
  unfolding hand_out
  hand-lost q g = rw g

  due-hands : (q : State) (o : Called) → q.next ≡ total cat → (q.taken ≡ q.store.found → ⊥) → due_or cat cells q row o ≡ hand_out cat cells q row
  unfolding due_or
  due-hands q o e f = rw (eq-eqb q.next (total cat) e, ne_eqb q.taken q.store.found f)

  due-not : (q : State) (o : Called) → (q.next ≡ total cat → ⊥) → due_or cat cells q row o ≡ o
  unfolding due_or
  due-not q o e = rw (ne_eqb q.next (total cat) e)

  -- ---- what the work comes to, way by way

  pub work-ends : (b : ℕ) (q : State) → q.next ≡ total cat → q.taken ≡ q.store.found → work cat cells b q row ≡ answer finished q row
  unfolding work
  work-ends zero q e f = due-ends q (answer working q row) e f
  work-ends (suc b) q e f = due-ends q (after_trial (trial_on cat cells q) q row (λ p. work cat cells b p row)) e f

  work-hand : (b : ℕ) (q : State) → q.next ≡ total cat → (q.taken ≡ q.store.found → ⊥) → work cat cells b q row ≡ hand_out cat cells q row
  unfolding work
  work-hand zero q e f = due-hands q (answer working q row) e f
  work-hand (suc b) q e f = due-hands q (after_trial (trial_on cat cells q) q row (λ p. work cat cells b p row)) e f

  pub work-hands : (b : ℕ) (q : State) → q.next ≡ total cat → (q.taken ≡ q.store.found → ⊥) → named cat (key_due q) ≡ true
      → work cat cells b q row ≡ handing q
  work-hands b q e f g = work-hand b q e f ∙ hand-named q g

  pub work-lost : (b : ℕ) (q : State) → q.next ≡ total cat → (q.taken ≡ q.store.found → ⊥) → named cat (key_due q) ≡ false
      → work cat cells b q row ≡ answer (refused 14) q row
  work-lost b q e f g = work-hand b q e f ∙ hand-lost q g

  pub work-spent : (q : State) → (q.next ≡ total cat → ⊥) → work cat cells 0 q row ≡ answer working q row
  unfolding work
  work-spent q e = due-not q (answer working q row) e

  -- A trial is made, and what it comes to is t.
  pub work-trial : (b : ℕ) (q : State) (t : Trial) → (q.next ≡ total cat → ⊥) → trial_on cat cells q ≡ t
      → work cat cells (suc b) q row ≡ after_trial t q row (λ p. work cat cells b p row)
  unfolding work
  work-trial b q t e f =
      due-not q (after_trial (trial_on cat cells q) q row (λ p. work cat cells b p row)) e
      ∙ ap (λ (u : Trial). after_trial u q row (λ p. work cat cells b p row)) f

  -- ---- all ways

  -- What has to be shown of each way, for P to hold of every call: of its budget, its state and what the work comes to.
  pub record Ways (P : ℕ → State → Called → Type 0) : Type 0 where
    pub ends : (b : ℕ) (q : State) → q.next ≡ total cat → q.taken ≡ q.store.found → P b q (answer finished q row)
    pub hands : (b : ℕ) (q : State) → q.next ≡ total cat → (q.taken ≡ q.store.found → ⊥) → named cat (key_due q) ≡ true → P b q (handing q)
    pub lost : (b : ℕ) (q : State) → q.next ≡ total cat → (q.taken ≡ q.store.found → ⊥) → named cat (key_due q) ≡ false
        → P b q (answer (refused 14) q row)
    pub spent : (q : State) → (q.next ≡ total cat → ⊥) → P 0 q (answer working q row)
    pub fills : (b : ℕ) (q : State) → (q.next ≡ total cat → ⊥) → trial_on cat cells q ≡ full → P (suc b) q (answer (refused 12) q row)
    pub fails : (b : ℕ) (q : State) → (q.next ≡ total cat → ⊥) → trial_on cat cells q ≡ damaged → P (suc b) q (answer (refused 14) q row)
    pub goes : (b : ℕ) (q p : State) (t l : ℕ) → (q.next ≡ total cat → ⊥) → trial_on cat cells q ≡ done p t l → P b p (work cat cells b p row)
        → P (suc b) q (counted t l (work cat cells b p row))

  module _ (P : ℕ → State → Called → Type 0) (h : Ways P) where
    by-due : (b : ℕ) (q : State) (o : Called) → ((q.next ≡ total cat → ⊥) → P b q o) → P b q (due_or cat cells q row o)
    unfolding due_or hand_out
    by-due b q o k = by_next (eqb q.next (total cat)) refl
      where
        by_key : q.next ≡ total cat → (q.taken ≡ q.store.found → ⊥) → (x : Bool) → named cat (key_due q) ≡ x
            → P b q (cond x (handing q) (answer (refused 14) q row))
        by_key e f true g = h.hands b q e f g
        by_key e f false g = h.lost b q e f g

        by_taken : q.next ≡ total cat → (x : Bool) → eqb q.taken q.store.found ≡ x → P b q (cond x (answer finished q row) (hand_out cat cells q row))
        by_taken e true f = h.ends b q e (eqb-true q.taken q.store.found f)
        by_taken e false f = by_key e (eqb-false q.taken q.store.found f) (named cat (key_due q)) refl

        by_next : (x : Bool) → eqb q.next (total cat) ≡ x
            → P b q (cond x (cond (eqb q.taken q.store.found) (answer finished q row) (hand_out cat cells q row)) o)
        by_next true e = by_taken (eqb-true q.next (total cat) e) (eqb q.taken q.store.found) refl
        by_next false e = k (eqb-false q.next (total cat) e)

    pub by-ways : (b : ℕ) (q : State) → P b q (work cat cells b q row)
    unfolding work
    by-ways zero q = by-due 0 q (answer working q row) (λ e. h.spent q e)
    by-ways (suc b) q =
        by-due (suc b) q (after_trial (trial_on cat cells q) q row (λ p. work cat cells b p row)) (λ e. on e (λ p. by-ways b p) (trial_on cat cells q) refl)
      where
        on : (q.next ≡ total cat → ⊥) → ((p : State) → P b p (work cat cells b p row)) → (t : Trial) → trial_on cat cells q ≡ t
            → P (suc b) q (after_trial t q row (λ p. work cat cells b p row))
        on e ih full f = h.fills b q e f
        on e ih damaged f = h.fails b q e f
        on e ih (done p t l) f = h.goes b q p t l e f (ih p)

  -- ---- the key and the padded row

  -- "Only *set* writes the padded row; otherwise the key given is 0."
  abbrev pub RowBy : Called → Says → Type 0
  RowBy s a_set = s.row ≡ padded_in cat cells s.key row
  RowBy s finished = (s.key ≡ 0) × (s.row ≡ row)
  RowBy s working = (s.key ≡ 0) × (s.row ≡ row)
  RowBy s (refused r) = (s.key ≡ 0) × (s.row ≡ row)

  row_on : (t l : ℕ) (s : Called) (a : Says) → RowBy s a → RowBy (counted t l s) a
  row_on t l s a_set h = h
  row_on t l s finished h = h
  row_on t l s working h = h
  row_on t l s (refused r) h = h

  pub work-row : (b : ℕ) (q : State) → RowBy (work cat cells b q row) (work cat cells b q row).says
  work-row =
      by-ways (λ b q s. RowBy s s.says)
      (record {
        ends = λ b q e f. (refl, refl);
        hands = λ b q e f k. refl;
        lost = λ b q e f k. (refl, refl);
        spent = λ q e. (refl, refl);
        fills = λ b q e f. (refl, refl);
        fails = λ b q e f. (refl, refl);
        goes = λ b q p t l e f ih. let s = work cat cells b p row in row_on t l s s.says ih;
      })
