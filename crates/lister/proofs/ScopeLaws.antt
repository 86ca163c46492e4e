-- What a stream is asked for stays what it is: open names it in the stream's record, and no call changes it. So the list keeps it beside the record, and
-- what the calls give of a record that names a row is said of the row that the list keeps. Assumes nothing.
use Prim.Native.Nat.{ℕ, zero, suc, ◌<◌}
use native.Mathlib.Omega.{arith}
use native.Mathlib.Nat.{eq-zero-or-pos}
use mathlib.Core.Logic.{⊎_elim}
use mathlib.Core.Path.{◌≡◌, refl, sym, ap, ◌∙◌, subst}
use mathlib.Core.List.{List}
use lib.ListN.{length}
use Rattle.tables.specs.declared.Catalogue.{Catalogue}
use Rattle.tables.specs.declared.Row.{Row}
use Rattle.tables.specs.Catalogues.{total}
use Rattle.disjunction.specs.Asked.{Asked, every_with}
use Rattle.store.specs.Store.{store_in}
use Rattle.machine.specs.Machine.{State, Called, Fit, Opened, work, call, call_fault, open_fault, opening_for}
use Rattle.machine.proofs.RefusalLaws.{call-clear, call-refused, call-works, opening-says, opening-empty, opening-begun}
use Rattle.machine.proofs.TrialLaws.{trial-fit}
use Rattle.machine.proofs.WorkLaws.{by-ways}
use Rattle.stream.specs.declared.StreamRecord.{StreamRecord}
use Rattle.stream.specs.declared.HoldingRecord.{HoldingRecord}
use Rattle.stream.specs.declared.Stepped.{Stepped}
use Rattle.stream.specs.declared.Opened as stream
use Rattle.stream.specs.Answers.{step_answer_of, holding_step_answer_of, open_answer_of, holding_open_answer_of}
use Rattle.stream.specs.Promises.{state_with, held_by, called_with, opened_with, StepsHolding, OpensHolding}
use Rattle.std.proofs.Common.{Ok}

module _ (cat : Catalogue) (cells row : List ℕ) where
  work-asked : (b : ℕ) (q : State) → Fit cat q → (work cat cells b q row).after.asked ≡ q.asked
  work-asked =
      by-ways cat cells row (λ b q s. Fit cat q → s.after.asked ≡ q.asked)
      (record {
        ends = λ b q e f g. refl;
        hands = λ b q e f k g. refl;
        lost = λ b q e f k g. refl;
        spent = λ q e g. refl;
        fills = λ b q e f g. refl;
        fails = λ b q e f g. refl;
        goes = λ b q p t l e f ih g.
            let m : q.next < total cat = omega (arith, g.next) in
            let (x, y) = trial-fit cat cells q p t l g m f in
            ih y ∙ x.asked;
      })

  -- A call asks for what its stream was asked for.
  pub call-asked : (b : ℕ) (q : State) → (call cat cells b q row).after.asked ≡ q.asked
  call-asked b q = by (call_fault cat (length cells) q row) refl
    where
      by : (k : ℕ) → call_fault cat (length cells) q row ≡ k → (call cat cells b q row).after.asked ≡ q.asked
      by zero e =
          let (L, g, h) = call-clear cat (length cells) q row e in
          rw (call-works cat cells b q row e) (work-asked b q g)
      by (suc k) e = rw (call-refused cat cells b q row (suc k) e (λ z. absurd (omega arith))) refl

-- A stream that is opened asks for what it is opened for.
pub opening-asked : (cat : Catalogue) (cells : List ℕ) (a : Asked) (low high left right : List ℕ)
    → (opening_for cat cells a low high left right).refusal ≡ 0 → (opening_for cat cells a low high left right).after.asked ≡ a
opening-asked cat cells a low high left right z = ⊎_elim none some (eq-zero-or-pos (total cat))
  where
    clear : open_fault cat (length cells) a (store_in low high left right 0) ≡ 0
    clear = sym (opening-says cat cells a low high left right) ∙ z

    none : total cat ≡ 0 → (opening_for cat cells a low high left right).after.asked ≡ a
    none e = rw (opening-empty cat cells a low high left right clear e) refl

    some : 0 < total cat → (opening_for cat cells a low high left right).after.asked ≡ a
    some h = rw (opening-begun cat cells a low high left right clear h) refl

-- The row that is asked for, as the machine says it.
abbrev held : Row → Asked
held x = every_with (record { table = x.table; row = x.row })

-- What a call gives of a record that names a row, with the record taken apart.
pub called-held : {low' high' left' right' row' : List ℕ} (cat : Catalogue) (cells low high left right : List ℕ) (s : StreamRecord) (x : Row) (b : ℕ) (row : List ℕ)
    (r : Stepped HoldingRecord)
    → StepsHolding cat cells low high left right (record { stream = s; table = x.table; row = x.row }) b row (holding_step_answer_of r) low' high' left' right' row'
    → called_with (held x) (step_answer_of (record { answer = r.answer; counts = r.counts; stream = r.stream.stream })) low' high' left' right' row'
    ≡ call cat cells b (state_with (held x) s low high left right) row
called-held {low'} {high'} {left'} {right'} {row'} cat cells low high left right s x b row r e =
    let k : held_by r.stream ≡ held x = ap (λ (c : Called). c.after.asked) e ∙ call-asked cat cells row b (state_with (held x) s low high left right) in
    subst (λ (a : Asked). called_with a (step_answer_of (record { answer = r.answer; counts = r.counts; stream = r.stream.stream })) low' high' left' right' row' ≡ call cat cells b (state_with (held x) s low high left right) row) k e

-- The same of open.
pub opened-held : {low' high' left' right' : List ℕ} (cat : Catalogue) (cells low high left right : List ℕ) (x : Row) (o : stream.Opened HoldingRecord)
    → OpensHolding cat cells low high left right x.table x.row (holding_open_answer_of (Ok o)) low' high' left' right'
    → opened_with (held x) (open_answer_of (Ok (record { stream = o.stream.stream; tests = o.tests }))) low' high' left' right'
    ≡ opening_for cat cells (held x) low high left right
opened-held {low'} {high'} {left'} {right'} cat cells low high left right x o e =
    let z : (opening_for cat cells (held x) low high left right).refusal ≡ 0 = sym (ap (λ (c : Opened). c.refusal) e) in
    let k : held_by o.stream ≡ held x = ap (λ (c : Opened). c.after.asked) e ∙ opening-asked cat cells (held x) low high left right z in
    subst (λ (a : Asked). opened_with a (open_answer_of (Ok (record { stream = o.stream.stream; tests = o.tests }))) low' high' left' right' ≡ opening_for cat cells (held x) low high left right) k e
