-- The budgets decide nothing but where a call ends: a call may be cut in two, and the state and the looks after calls are those of the rule's steps,
-- of any stream, sound or not. Induction over the ways of a call. Assumes nothing.
use Prim.Native.Nat.{ℕ, zero, suc, ◌+◌}
use native.Mathlib.Omega.{arith}
use native.Mathlib.Nat.{zero-add, suc-add, add_assoc}
use mathlib.Core.Path.{◌≡◌, refl, sym, ap, ap₂, ◌∙◌}
use mathlib.Core.Bool.{true}
use mathlib.Core.List.{List, [], ◌∷◌}
use lib.ListN.{length, length-append}
use borrow.Author.Tests.{eq-eqb, ne_eqb}
use Rattle.tables.specs.declared.Catalogue.{Catalogue}
use Rattle.tables.specs.Catalogues.{total}
use Rattle.rows.specs.Named.{named}
use Rattle.machine.specs.Machine.{State, done, full, damaged, trial_on, Says, a_set, finished, working, refused, Called, answer, counted, taken_of, key_due, call_fault, unless_met, work, call}
use Rattle.machine.specs.Runs.{Given, run_of, ended_of, keys_in, handed, sum, move, move_looks, moves, looks_in}
use Rattle.machine.proofs.WorkLaws.{handing, work-ends, work-hands, work-lost, work-trial, by-ways}
use Rattle.claims.specs.Demands.{made, goes_on}

-- The rule's steps in one call.
abbrev pub steps_of : Called → ℕ
steps_of s = s.trials + length (keys_in s.says s.key)

-- Those of a call and of the calls after it.
pub steps-made : (s : Called) (l : List Called) → steps_of s + made l ≡ made (s ∷ l)
unfolding handed sum
steps-made s l = omega (arith, length-append (keys_in s.says s.key) (handed l))

pub steps-counted : (t l : ℕ) (s : Called) → steps_of (counted t l s) ≡ suc (steps_of s)
steps-counted t l s = suc-add s.trials (length (keys_in s.says s.key))

module _ (cat : Catalogue) (cells : List ℕ) where
  -- ---- a call cut in two

  module _ (row : List ℕ) where
    abbrev glued : ℕ → Called → Called
    glued b s = goes_on s.says s (work cat cells b s.after row)

    glued-counted : (t l : ℕ) (s u : Called) (a : Says) → counted t l (goes_on a s u) ≡ goes_on a (counted t l s) u
    glued-counted t l s u a_set = refl
    glued-counted t l s u finished = refl
    glued-counted t l s u (refused r) = refl
    glued-counted t l s u working = rw (suc-add s.trials u.trials, add_assoc t s.tests u.tests, add_assoc l s.looks u.looks)

    pub work-split : (a b : ℕ) (q : State) → work cat cells (a + b) q row ≡ glued b (work cat cells a q row)
    work-split a b q =
        by-ways cat cells row (λ a q s. work cat cells (a + b) q row ≡ glued b s)
        (record {
          ends = λ a q e f. work-ends cat cells row (a + b) q e f;
          hands = λ a q e f k. work-hands cat cells row (a + b) q e f k;
          lost = λ a q e f k. work-lost cat cells row (a + b) q e f k;
          spent = λ q e. rw (zero-add b) (simp zero-add);
          fills = λ a q e f. rw (suc-add a b) (work-trial cat cells row (a + b) q full e f);
          fails = λ a q e f. rw (suc-add a b) (work-trial cat cells row (a + b) q damaged e f);
          goes = λ a q p t l e f ih.
              let s = work cat cells a p row in
              rw (suc-add a b)
              (work-trial cat cells row (a + b) q (done p t l) e f ∙ ap (counted t l) ih ∙ glued-counted t l s (work cat cells b s.after row) s.says);
        })
        a q

  -- ---- the rule's steps

  moves-add : (a b : ℕ) (q : State) → moves cat cells (a + b) q ≡ moves cat cells b (moves cat cells a q)
  unfolding moves
  moves-add zero b q = rw zero-add refl
  moves-add (suc a) b q = rw suc-add (moves-add a b (move cat cells q))

  looks-add : (a b : ℕ) (q : State) → looks_in cat cells (a + b) q ≡ looks_in cat cells a q + looks_in cat cells b (moves cat cells a q)
  unfolding looks_in moves
  looks-add zero b q = rw (zero-add b, zero-add) refl
  looks-add (suc a) b q =
      rw suc-add
      (ap (λ (x : ℕ). move_looks cat cells q + x) (looks-add a b (move cat cells q))
      ∙ sym (add_assoc (move_looks cat cells q) (looks_in cat cells a (move cat cells q)) (looks_in cat cells b (moves cat cells a (move cat cells q)))))

  -- A call's state and looks are those of its steps.
  pub record Moved (q : State) (s : Called) : Type 0 where
    pub state : s.after ≡ moves cat cells (steps_of s) q
    pub looks : s.looks ≡ looks_in cat cells (steps_of s) q

  move-set : (q : State) → q.next ≡ total cat → (q.taken ≡ q.store.found → ⊥) → named cat (key_due q) ≡ true → move cat cells q ≡ taken_of q
  unfolding move
  move-set q e f k = rw (eq-eqb q.next (total cat) e, ne_eqb q.taken q.store.found f, k)

  move-trial : (q p : State) (t l : ℕ) → (q.next ≡ total cat → ⊥) → trial_on cat cells q ≡ done p t l → move cat cells q ≡ p
  unfolding move
  move-trial q p t l e f = rw (ne_eqb q.next (total cat) e, f)

  moved-set : (row : List ℕ) (q : State) → q.next ≡ total cat → (q.taken ≡ q.store.found → ⊥) → named cat (key_due q) ≡ true
      → Moved q (handing cat cells row q)
  unfolding moves looks_in move_looks
  moved-set row q e f k = record { state = sym (move-set q e f k); looks = rw (eq-eqb q.next (total cat) e) refl }

  moved-trial : (q p : State) (t l : ℕ) (s : Called) → (q.next ≡ total cat → ⊥) → trial_on cat cells q ≡ done p t l → Moved p s → Moved q (counted t l s)
  unfolding moves looks_in move_looks
  moved-trial q p t l s e f m =
      let n = steps-counted t l s in
      let x = move-trial q p t l e f in
      record {
        state = m.state ∙ ap (moves cat cells (steps_of s)) (sym x) ∙ ap (λ (k : ℕ). moves cat cells k q) (sym n);
        looks = ap₂ (λ (y z : ℕ). y + z) (sym here) (m.looks ∙ ap (looks_in cat cells (steps_of s)) (sym x)) ∙ ap (λ (k : ℕ). looks_in cat cells k q) (sym n);
      }
    where
      here : move_looks cat cells q ≡ l
      here = rw (ne_eqb q.next (total cat) e, f)

  -- Without a step nothing has moved.
  moved_none : (q : State) (a : Says) (row : List ℕ) → steps_of (answer a q row) ≡ 0 → Moved q (answer a q row)
  unfolding moves looks_in
  moved_none q a row e =
      record { state = ap (λ (k : ℕ). moves cat cells k q) (sym e); looks = ap (λ (k : ℕ). looks_in cat cells k q) (sym e) }

  work-moves : (row : List ℕ) (b : ℕ) (q : State) → Moved q (work cat cells b q row)
  work-moves row =
      by-ways cat cells row (λ b q s. Moved q s)
      (record {
        ends = λ b q e f. moved_none q finished row refl;
        hands = λ b q e f k. moved-set row q e f k;
        lost = λ b q e f k. moved_none q (refused 14) row refl;
        spent = λ q e. moved_none q working row refl;
        fills = λ b q e f. moved_none q (refused 12) row refl;
        fails = λ b q e f. moved_none q (refused 14) row refl;
        goes = λ b q p t l e f ih. moved-trial q p t l (work cat cells b p row) e f ih;
      })

  call-moves : (b : ℕ) (q : State) (row : List ℕ) → Moved q (call cat cells b q row)
  unfolding call
  call-moves b q row = by (call_fault cat (length cells) q row)
    where
      by : (k : ℕ) → Moved q (unless_met k q row (work cat cells b q row))
      by zero = work-moves row b q
      by (suc k) = moved_none q (refused (suc k)) row refl

  -- ---- calls one after the other

  -- The state after calls, and their looks.
  pub record Gone (gs : List Given) (q : State) : Type 0 where
    pub state : ended_of (call cat cells) gs q ≡ moves cat cells (made (run_of (call cat cells) gs q)) q
    pub looks : sum (λ s. s.looks) (run_of (call cat cells) gs q) ≡ looks_in cat cells (made (run_of (call cat cells) gs q)) q

  pub run-moves : (gs : List Given) (q : State) → Gone gs q
  unfolding run_of ended_of handed sum moves looks_in
  run-moves [] q = record { state = refl; looks = refl }
  run-moves (g ∷ gs) q =
      let s = call cat cells g.budget q g.row in
      let r = run_of (call cat cells) gs s.after in
      let m = call-moves g.budget q g.row in
      let i = run-moves gs s.after in
      let e = steps-made s r in
      record {
        state = i.state ∙ ap (moves cat cells (made r)) m.state ∙ sym (moves-add (steps_of s) (made r) q) ∙ ap (λ (k : ℕ). moves cat cells k q) e;
        looks = ap₂ (λ (x y : ℕ). x + y) m.looks (i.looks ∙ ap (looks_in cat cells (made r)) m.state)
            ∙ sym (looks-add (steps_of s) (made r) q)
            ∙ ap (λ (k : ℕ). looks_in cat cells k q) e;
      }
