-- Open, and any call on any stream, its store damaged or not: how large their counts can be. Induction over the ways of a call. Assumes nothing.
use Prim.Native.Nat.{ℕ, zero, suc, ◌+◌, ◌*◌, ◌≤◌, ◌<◌}
use native.Mathlib.Omega.{arith}
use native.Mathlib.Nat.{suc-mul, mul-le-mul_right, mul-le-mul_left, le_trans, eq-zero-or-pos}
use mathlib.Core.Path.{◌≡◌, refl, ap}
use mathlib.Core.Logic.{⊎_elim}
use mathlib.Core.List.{List}
use lib.ListN.{length}
use Rattle.tables.specs.Sizes.{most_tables, most_total}
use Rattle.tables.specs.declared.Catalogue.{Catalogue}
use Rattle.tables.specs.Catalogues.{total}
use Rattle.tables.specs.Checks.{Lawful}
use Rattle.tables.proofs.CatalogueLaws.{rows_few}
use Rattle.disjunction.specs.Rule.{rows, alone}
use Rattle.disjunction.specs.Asked.{Asked, every_set, every_with, first_for, Present}
use Rattle.disjunction.proofs.Extending.{alone-jcc, extension-maximal}
use Rattle.disjunction.proofs.AskedLaws.{first-there}
use Rattle.rows.specs.World.{world_of}
use Rattle.rows.proofs.WorldLaws.{rows-total, world-symmetric}
use Rattle.rows.proofs.NamedLaws.{there-row}
use Rattle.store.specs.Store.{store_in}
use Rattle.machine.specs.Machine.{State, deepest, most_tests, most_looks, finished, working, refused, Called, answer, piled, Askable, Fit, call_fault, work, call, open_fault, first_grown, opening_for}
use Rattle.machine.proofs.WorkLaws.{handing, by-ways}
use Rattle.machine.proofs.RefusalLaws.{call-clear, call-refused, call-works, open-clear, opening-refused, opening-empty, opening-begun}
use Rattle.machine.proofs.TrialLaws.{trial-fit}

-- What is known of the counts of call s, made with budget b in state q.
pub record Few (cat : Catalogue) (b : ℕ) (q : State) (s : Called) : Type 0 where
  pub rows : q.next + s.trials ≤ total cat
  pub budget : s.trials ≤ b
  pub tests : s.tests ≤ s.trials * (cat.n * total cat)
  pub looks : s.looks ≤ s.trials * (deepest cat + 1)

-- No call comes near what a machine number holds: N is at most 8,192, a trial has at most 8 N row tests, and a search at most 97 looks.
pub record Small (s : Called) : Type 0 where
  pub trials : s.trials ≤ most_total
  pub tests : s.tests ≤ most_total * most_tests
  pub looks : s.looks ≤ most_total * most_looks

few-none : (cat : Catalogue) (b : ℕ) (q : State) (s : Called) → q.next ≤ total cat → s.trials ≡ 0 → s.tests ≡ 0 → s.looks ≡ 0 → Few cat b q s
few-none cat b q s h e f g = record { rows = omega arith; budget = omega arith; tests = omega arith; looks = omega arith }

product : (a b x y : ℕ) → a ≤ x → b ≤ y → a * b ≤ x * y
product a b x y h k = le_trans (mul-le-mul_right b h) (mul-le-mul_left x k)

module _ (cat : Catalogue) (cells row : List ℕ) where
  pub few : (b : ℕ) (q : State) → Fit cat q → Few cat b q (work cat cells b q row)
  few =
      by-ways cat cells row (λ b q s. Fit cat q → Few cat b q s)
      (record {
        ends = λ b q e f g. few-none cat b q (answer finished q row) g.next refl refl refl;
        hands = λ b q e f k g. few-none cat b q (handing cat cells row q) g.next refl refl refl;
        lost = λ b q e f k g. few-none cat b q (answer (refused 14) q row) g.next refl refl refl;
        spent = λ q e g. few-none cat 0 q (answer working q row) g.next refl refl refl;
        fills = λ b q e f g. few-none cat (suc b) q (answer (refused 12) q row) g.next refl refl refl;
        fails = λ b q e f g. few-none cat (suc b) q (answer (refused 14) q row) g.next refl refl refl;
        goes = λ b q p t l e f ih g.
            let m : q.next < total cat = omega (arith, g.next) in
            let (x, y) = trial-fit cat cells q p t l g m f in
            let s = work cat cells b p row in
            let i = ih y in
            record {
              rows = omega (arith, i.rows, x.next);
              budget = omega (arith, i.budget);
              tests = omega (arith, suc-mul s.trials (cat.n * total cat), i.tests, x.tests);
              looks = omega (arith, suc-mul s.trials (deepest cat + 1), i.looks, x.looks);
            };
      })

  -- In a lawful catalogue they fit a machine number by far; so do the counts that a loop has piled up on its way.
  module _ (L : Lawful cat (length cells)) where
    work-small : (b : ℕ) (q : State) → Fit cat q → Small (work cat cells b q row)
    work-small b q g =
        let f = few b q g in
        let w = work cat cells b q row in
        let rows : total cat ≤ most_total = rows_few cat (length cells) L cat.n (omega arith) in
        let n : w.trials ≤ most_total = omega (arith, f.rows) in
        let each : cat.n * total cat ≤ most_tests = product cat.n (total cat) most_tables most_total L.tables rows in
        let looks : deepest cat + 1 ≤ most_looks = omega (arith, L.tables) in
        record {
          trials = n;
          tests = omega (arith, f.tests, product w.trials (cat.n * total cat) most_total most_tests n each);
          looks = omega (arith, f.looks, product w.trials (deepest cat + 1) most_total most_looks n looks);
        }

    pub counts-small : (b : ℕ) (q : State) → Fit cat q → (a t l : ℕ) (s : Called) → work cat cells b q row ≡ piled a t l s
        → (a ≤ most_total) × (t ≤ most_total * most_tests) × (l ≤ most_total * most_looks)
    counts-small b q g a t l s e =
        let w = work-small b q g in
        let x : (work cat cells b q row).trials ≡ a + s.trials = ap (λ (c : Called). c.trials) e in
        let y : (work cat cells b q row).tests ≡ t + s.tests = ap (λ (c : Called). c.tests) e in
        let z : (work cat cells b q row).looks ≡ l + s.looks = ap (λ (c : Called). c.looks) e in
        (omega (arith, w.trials), omega (arith, w.tests), omega (arith, w.looks))

  -- So do those of any call: of one that is refused before work they are 0, and behind the refusals the catalogue is lawful and the stream fits.
  pub call-small : (b : ℕ) (q : State) → Small (call cat cells b q row)
  call-small b q = by (call_fault cat (length cells) q row) refl
    where
      by : (k : ℕ) → call_fault cat (length cells) q row ≡ k → Small (call cat cells b q row)
      by zero e =
          let (L, g, h) = call-clear cat (length cells) q row e in
          rw (call-works cat cells b q row e) (work-small L b q g)
      by (suc k) e =
          rw (call-refused cat cells b q row (suc k) e (λ z. absurd (omega arith)))
          (record { trials = omega arith; tests = omega arith; looks = omega arith })

-- ---- open

module _ (cat : Catalogue) (cells : List ℕ) (a : Asked) where
  -- The row asked for is a row of the rule's tables.
  pub able-there : Askable cat a → Present (world_of cat cells) a
  able-there = by a
    where
      by : (x : Asked) → Askable cat x → Present (world_of cat cells) x
      by every_set p = tt
      by (every_with s) p = there-row cat cells s.table s.row p

  -- One row alone takes at most n x N tests,
  first-few : Lawful cat (length cells) → Askable cat a → 0 < total cat → (first_grown cat cells a).tests ≤ most_tests
  first-few L p h =
      let W = world_of cat cells in
      let s = first_for W a in
      let r = first-there W a (able-there p) (rw (rows-total cat cells) h) in
      let b : (first_grown cat cells a).tests ≤ W.n * length (rows W) = (extension-maximal W (world-symmetric cat cells) (alone W s) (alone-jcc W s r)).few in
      let q : length (rows W) ≤ most_total = omega (arith, rows_few cat (length cells) L cat.n (omega arith), rows-total cat cells) in
      omega (arith, b, product cat.n (length (rows W)) most_tables most_total L.tables q)

  -- and open tries no more.
  pub open-few : (low high left right : List ℕ) → (opening_for cat cells a low high left right).tests ≤ most_tests
  open-few low high left right = by (open_fault cat (length cells) a (store_in low high left right 0)) refl
    where
      by : (k : ℕ) → open_fault cat (length cells) a (store_in low high left right 0) ≡ k → (opening_for cat cells a low high left right).tests ≤ most_tests
      by (suc k) e = rw (opening-refused cat cells a low high left right (suc k) e (λ z. omega arith)) (omega arith)
      by zero e = ⊎_elim none some (eq-zero-or-pos (total cat))
        where
          none : total cat ≡ 0 → (opening_for cat cells a low high left right).tests ≤ most_tests
          none z = rw (opening-empty cat cells a low high left right e z) (omega arith)

          some : 0 < total cat → (opening_for cat cells a low high left right).tests ≤ most_tests
          some h =
              let (L, p, r) = open-clear cat (length cells) a (store_in low high left right 0) e in
              rw (opening-begun cat cells a low high left right e h) (first-few L p h)
