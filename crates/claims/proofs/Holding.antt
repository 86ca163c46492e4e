-- The store holds what the rule over a list of sets says, and the row tests are its row tests. Induction over the ways of a call. Assumes nothing.
use Prim.Native.Nat.{ℕ, zero, suc, ◌+◌}
use native.Mathlib.Omega.{arith}
use native.Mathlib.Nat.{suc-add, zero-add, add_assoc}
use mathlib.Core.Path.{◌≡◌, refl, sym, ap, ap₂, ◌∙◌}
use mathlib.Core.Logic.{inl, inr}
use mathlib.Core.List.{List, [], ◌∷◌}
use lib.ListN.{length}
use borrow.Author.Tests.{eq-eqb, ne_eqb}
use Rattle.tables.specs.declared.Catalogue.{Catalogue}
use Rattle.tables.specs.Catalogues.{total}
use Rattle.tables.specs.Checks.{Lawful}
use Rattle.disjunction.specs.Sets.{Tables}
use Rattle.disjunction.specs.Rule.{rows}
use Rattle.disjunction.specs.Asked.{Asked}
use Rattle.disjunction.specs.Keeping as Sets
use Rattle.disjunction.specs.Keeping.{take, try, list_move, list_tests, list_moves, tests_in}
use Rattle.rows.proofs.WorldLaws.{rows-total}
use Rattle.machine.specs.Machine.{State, done, trial_on, Says, finished, working, refused, Called, answer, counted, work}
use Rattle.machine.specs.Runs.{Given, run_of, ended_of, handed, sum}
use Rattle.machine.proofs.WorkLaws.{handing, by-ways}
use Rattle.claims.specs.Demands.{made, Holds}
use Rattle.claims.proofs.Live.{W, listed, Live, Did}
use Rattle.claims.proofs.Calls.{Sound, list_of, live-trial, live-set, took, did, by_call}
use Rattle.claims.proofs.Steps.{steps_of, steps-made, steps-counted}
use Rattle.claims.proofs.Runs.{run, ended, one}

-- ---- steps of the list rule

module _ (X : Tables) (asked : Asked) where
  list-add : (a b : ℕ) (z : Sets.State) → list_moves X asked (a + b) z ≡ list_moves X asked b (list_moves X asked a z)
  unfolding list_moves
  list-add zero b z = rw zero-add refl
  list-add (suc a) b z = rw suc-add (list-add a b (list_move X asked z))

  tests-add : (a b : ℕ) (z : Sets.State) → tests_in X asked (a + b) z ≡ tests_in X asked a z + tests_in X asked b (list_moves X asked a z)
  unfolding tests_in list_moves
  tests-add zero b z = rw (zero-add b, zero-add) refl
  tests-add (suc a) b z =
      rw suc-add
      (ap (λ (x : ℕ). list_tests X z + x) (tests-add a b (list_move X asked z))
      ∙ sym (add_assoc (list_tests X z) (tests_in X asked a (list_move X asked z)) (tests_in X asked b (list_moves X asked a (list_move X asked z)))))

-- `a` is what the stream is asked for.
module _ (cat : Catalogue) (cells : List ℕ) (a : Asked) where
  -- A sound stream holds its list.
  pub sound-holds : (c : ℕ) (q : State) (g : Sound cat cells a c q) → Holds q (list_of cat cells a c q g)
  sound-holds c q (inl g) = record { found = sym g.long; taken = refl; next = refl; keys = g.keyed }
  sound-holds c q (inr g) = record { found = g.found; taken = refl; next = refl; keys = λ p l. absurd (omega (arith, g.found)) }

  -- A call does on the list what its steps do, with their row tests.
  pub record Held (c : ℕ) (q : State) (g : Sound cat cells a c q) (s : Called) : Type 0 where
    pub sound : Sound cat cells a c s.after
    pub list : list_of cat cells a c s.after sound ≡ list_moves (W cat cells) a (steps_of s) (list_of cat cells a c q g)
    pub tests : s.tests ≡ tests_in (W cat cells) a (steps_of s) (list_of cat cells a c q g)

  held_none : (c : ℕ) (q : State) (g : Sound cat cells a c q) (v : Says) (row : List ℕ) → steps_of (answer v q row) ≡ 0 → Held c q g (answer v q row)
  unfolding list_moves tests_in
  held_none c q g v row e =
      record {
        sound = g;
        list = ap (λ (k : ℕ). list_moves (W cat cells) a k (list_of cat cells a c q g)) (sym e);
        tests = ap (λ (k : ℕ). tests_in (W cat cells) a k (list_of cat cells a c q g)) (sym e);
      }

  module _ (L : Lawful cat (length cells)) where
    held-set : (c : ℕ) (row : List ℕ) (q : State) (g : Sound cat cells a c q) → q.next ≡ total cat → (q.taken ≡ q.store.found → ⊥)
        → Held c q g (handing cat cells row q)
    unfolding list_moves list_move list_tests tests_in take
    held-set c row q (inr g) e f = absurd (f (g.taken ∙ sym g.found))
    held-set c row q (inl g) e f =
        let (y, m) = took cat cells a L c q g e (live-set cat cells a c q (inl g) f).1 in
        let n = eq-eqb q.next (length (rows (W cat cells))) (e ∙ sym (rows-total cat cells)) in
        let b = ne_eqb q.taken (length g.sets) (λ x. f (x ∙ g.long)) in
        record { sound = inl y; list = rw (m, n, b) refl; tests = rw n refl }

    -- The list after a trial.
    tried-list : (c : ℕ) (q p : State) (g : Live cat cells a c q) (t l : ℕ) (d : Did cat cells a c q g p t l) → (q.next ≡ total cat → ⊥)
        → (listed cat cells d.live.sets p ≡ list_move (W cat cells) a (listed cat cells g.sets q)) × (t ≡ list_tests (W cat cells)
        (listed cat cells g.sets q))
    unfolding list_move list_tests try
    tried-list c q p g t l d e =
        let n = ne_eqb q.next (length (rows (W cat cells))) (λ x. e (x ∙ rows-total cat cells)) in
        (rw (n, d.grew, d.bound.taken, d.bound.next) refl, rw n d.exact)

    held-trial : (c b : ℕ) (row : List ℕ) (q p : State) (t l : ℕ) (g : Sound cat cells a c q) → (q.next ≡ total cat → ⊥) → trial_on cat cells q ≡ done p t l
        → ((h : Sound cat cells a c p) → Held c p h (work cat cells b p row)) → Held c q g (counted t l (work cat cells b p row))
    unfolding list_moves tests_in
    held-trial c b row q p t l (inr g) e f ih = absurd (e (g.next ∙ sym g.none))
    held-trial c b row q p t l (inl g) e f ih =
        let d = did cat cells a L c q p t l g (live-trial cat cells a c q (inl g) e).1 f in
        let s = work cat cells b p row in
        let i = ih (inl d.live) in
        let z = listed cat cells g.sets q in
        let x = tried-list c q p g t l d e in
        let n = steps-counted t l s in
        record {
          sound = i.sound;
          list = i.list ∙ ap (list_moves (W cat cells) a (steps_of s)) x.0 ∙ ap (λ (k : ℕ). list_moves (W cat cells) a k z) (sym n);
          tests = ap₂ (λ (u v : ℕ). u + v) x.1 (i.tests ∙ ap (tests_in (W cat cells) a (steps_of s)) x.0)
              ∙ ap (λ (k : ℕ). tests_in (W cat cells) a k z) (sym n);
        }

    work-held : (c b : ℕ) (row : List ℕ) (q : State) (g : Sound cat cells a c q) → Held c q g (work cat cells b q row)
    work-held c b row q =
        by-ways cat cells row (λ b q s. (g : Sound cat cells a c q) → Held c q g s)
        (record {
          ends = λ b q e f g. held_none c q g finished row refl;
          hands = λ b q e f k g. held-set c row q g e f;
          lost = λ b q e f k g. held_none c q g (refused 14) row refl;
          spent = λ q e g. held_none c q g working row refl;
          fills = λ b q e f g. held_none c q g (refused 12) row refl;
          fails = λ b q e f g. held_none c q g (refused 14) row refl;
          goes = λ b q p t l e f ih g. held-trial c b row q p t l g e f ih;
        })
        b q

    -- ---- calls one after the other

    pub record Holding (c : ℕ) (gs : List Given) (q : State) (g : Sound cat cells a c q) : Type 0 where
      pub sound : Sound cat cells a c (ended cat cells gs q)
      pub list : list_of cat cells a c (ended cat cells gs q) sound ≡ list_moves (W cat cells) a (made (run cat cells gs q)) (list_of cat cells a c q g)
      pub tests : sum (λ s. s.tests) (run cat cells gs q) ≡ tests_in (W cat cells) a (made (run cat cells gs q)) (list_of cat cells a c q g)

    pub run-held : (c : ℕ) (gs : List Given) (q : State) (g : Sound cat cells a c q) → Holding c gs q g
    unfolding run_of ended_of handed sum list_moves tests_in
    run-held c [] q g = record { sound = g; list = refl; tests = refl }
    run-held c (x ∷ gs) q g =
        let s = one cat cells x q in
        let h =
        by_call cat cells a L (Held c q g) c x.budget q x.row g (λ m. work-held c x.budget x.row q g)
        (λ m. held_none c q g (refused 11) x.row refl) in
        let i = run-held c gs s.after h.sound in
        let r = run cat cells gs s.after in
        let z = list_of cat cells a c q g in
        let e = steps-made s r in
        record {
          sound = i.sound;
          list = i.list
              ∙ ap (list_moves (W cat cells) a (made r)) h.list
              ∙ sym (list-add (W cat cells) a (steps_of s) (made r) z)
              ∙ ap (λ (k : ℕ). list_moves (W cat cells) a k z) e;
          tests = ap₂ (λ (x y : ℕ). x + y) h.tests (i.tests ∙ ap (tests_in (W cat cells) a (made r)) h.list)
              ∙ sym (tests-add (W cat cells) a (steps_of s) (made r) z)
              ∙ ap (λ (k : ℕ). tests_in (W cat cells) a k z) e;
        }
