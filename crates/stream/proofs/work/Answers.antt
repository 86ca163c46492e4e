-- `stream::work` meets its contract. Invariant: the whole call is the counts so far, and what is left of it from here; the stream fits. Assumes nothing.
use Rattle.std.proofs.Common.{◌+◌, ◌-◌, ◌*◌, ◌≡◌, ◌≤◌, ℕ, refl, sym, ap, ◌∙◌}
use native.Mathlib.Omega.{arith}
use Rattle.refusals.proofs.RefusalLaws.{number-some}
use Rattle.tables.specs.Sizes.{most_total}
use Rattle.machine.specs.Machine.{Fit, done, trial_on, piled, work, most_tests, most_looks}
use Rattle.machine.proofs.TrialLaws.{trial-fit}
use Rattle.machine.proofs.CountLaws.{counts-small}
use Rattle.machine.proofs.LoopLaws.{loop-working, loop-on}
use Rattle.stream.specs.Promises.{asked_of}
use Rattle.stream.specs.Parts.{stream_in}
use Rattle.stream.proofs.StreamLaws.{number-none, loop-refused}
use Rattle.stream.proofs.work.Goals.{In-Ok}
use Rattle.stream.proofs.work.Goals as goal

pub returns-then-counts-budget-clause-work : goal.returns-then-counts-budget-clause-work
returns-then-counts-budget-clause-work c =
    let l = c.loop-next_row in
    let i = l.invariant in
    let n = c.args.layout.now.laid_out.all in
    rw number-none
    (sym (i.whole ∙ loop-working _ _ _ _ _ _ _ _ (λ z. omega (arith, n, i.place, c.loop-next_row-test.true, z)) (omega (arith, c.if-counts-budget.true))))

-- Where a trial was done: the stream fits, and the whole call is these counts, and what is left of it.
goes : (c : In-Ok)
    → let l = c.loop-next_row in
    let a = c.args in
    let cat = a.layout.now.tables.catalogue in
    let cells = a.layout.now.tables.cells.now in
    let q = stream_in (asked_of a.scope) (record { found = c.in-Ok.done.found; taken = l.stream.taken; next_row = l.next_row + 1 }) c.trial.new.store in
    (Fit cat q)
    × (work cat cells a.budget (stream_in (asked_of a.scope) a.from a.store.now) a.padded.now
    ≡ piled (l.counts.trials + 1) (l.counts.tests + c.in-Ok.done.tests) (l.counts.looks + c.in-Ok.done.looks)
    (work cat cells (a.budget - (l.counts.trials + 1)) q a.padded.now))
goes c =
    let l = c.loop-next_row in
    let i = l.invariant in
    let a = c.args in
    let cat = a.layout.now.tables.catalogue in
    let cells = a.layout.now.tables.cells.now in
    let q = stream_in (asked_of a.scope) l.stream l.store in
    let n = a.layout.now.laid_out.all in
    let e : trial_on cat cells q
    ≡ done (stream_in (asked_of a.scope) (record { found = c.in-Ok.done.found; taken = l.stream.taken; next_row = l.next_row + 1 }) c.trial.new.store) c.in-Ok.done.tests c.in-Ok.done.looks =
    c.in-Ok.ensures.did
    ∙ ap (λ (k : ℕ). done (stream_in (asked_of a.scope) (record { found = c.in-Ok.done.found; taken = l.stream.taken; next_row = k + 1 }) c.trial.new.store) c.in-Ok.done.tests c.in-Ok.done.looks) i.place in
    let b : a.budget - l.counts.trials - 1 ≡ a.budget - (l.counts.trials + 1) = omega arith in (
      (trial-fit cat cells _ _ _ _ i.fit (omega (arith, n, i.place, c.loop-next_row-test.true)) e).1,
      rw (← b) (i.whole ∙ loop-on cat cells a.padded.now _ _ _ (a.budget - l.counts.trials) q _ _ _ (λ z. omega (arith, n, i.place, c.loop-next_row-test.true, z)) (omega (arith, i.spent, c.if-counts-budget.false)) e),
    )

-- Its counts are small.
small : (c : In-Ok)
    → let l = c.loop-next_row in
    (l.counts.trials + 1 ≤ most_total) × (l.counts.tests + c.in-Ok.done.tests ≤ most_total * most_tests) × (l.counts.looks + c.in-Ok.done.looks ≤ most_total * most_looks)
small c =
    let a = c.args in
    counts-small a.layout.now.tables.catalogue a.layout.now.tables.cells.now a.padded.now a.layout.now.tables.lawful a.budget _ c.requires.0 _ _ _ _ (goes c).1

pub overflow_add-counts-in-Ok : goal.overflow_add-counts-in-Ok
overflow_add-counts-in-Ok c = omega (arith, (small (goal.at.overflow_add-counts-in-Ok c).In-Ok).1)

pub overflow_add-counts-in-Ok-2 : goal.overflow_add-counts-in-Ok-2
overflow_add-counts-in-Ok-2 c = omega (arith, (small (goal.at.overflow_add-counts-in-Ok-2 c).In-Ok).2)

pub returns-in-Err-clause-work : goal.returns-in-Err-clause-work
returns-in-Err-clause-work c =
    let l = c.loop-next_row in
    let i = l.invariant in
    let n = c.args.layout.now.laid_out.all in
    let u = c.in-Err.ensures.no_mark in
    rw (number-none, u.low, u.high, u.left, u.right)
    (sym (i.whole ∙ loop-refused _ _ _ _ _ _ _ _ _ (λ z. omega (arith, n, i.place, c.loop-next_row-test.true, z)) (omega (arith, i.spent, c.if-counts-budget.false)) c.in-Err.ensures.refusal (number-some _)))

pub loop-next_row-preserved : goal.loop-next_row-preserved
loop-next_row-preserved c =
    let i = c.loop-next_row.invariant in
    let g = goes (goal.at.loop-next_row-preserved c).In-Ok in
    let s = c.trial.ensures.same in
    record { place = refl; fit = g.0; spent = omega (arith, i.spent, c.if-counts-budget.false); whole = g.1; same = (s.0 ∙ i.same.0, s.1 ∙ i.same.1, s.2 ∙ i.same.2, s.3 ∙ i.same.3) }
