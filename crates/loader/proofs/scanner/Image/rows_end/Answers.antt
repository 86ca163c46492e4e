-- `Image::rows_end` meets its contract: one law for each way. Assumes nothing.
use Rattle.std.proofs.Common.{◌≡◌, ◌-◌, None, true, ◌||◌, ap, sym, ◌∙◌, arith, rules}
use native.Mathlib.Nat.{sub-add-eq}
use Rattle.std.proofs.lemmas.Result.{err_from_is_err_and}
use Rattle.tables.specs.Rows.{below}
use Rattle.tables.specs.Versions.{version_number}
use Rattle.loader.specs.Reading.{codes}
use Rattle.loader.specs.Faults.{WalkFault}
use Rattle.loader.proofs.ReadingLaws.{is_first, row_before, rows_none, rows_more, rows-bad, rows-blank, rows-fall}
use Rattle.loader.proofs.scanner.Image.rows_end.Goals.{in_default-via-in-None-1, in_default-via-in-Some+else-not-rises}
use Rattle.loader.proofs.scanner.Image.rows_end.Goals as goal

pub returns-in_err-next : goal.returns-in_err-next
returns-in_err-next c =
    let l = c.loop in
    let a = c.args in
    let p = err_from_is_err_and c.from_residual.result c.from_residual.ensures.1 in
    rw (p.1, p.2) (sym (l.invariant ∙ rows-bad (a.rows - l.counter) a.width _ _ _ _ l.i _ (omega arith) (sym c.in_err-next.ensures)))

pub returns-then-blank_at : goal.returns-then-blank_at
returns-then-blank_at c =
    let l = c.loop in
    let a = c.args in
    ap WalkFault c.at.ensures
    ∙ sym (l.invariant ∙ rows-blank (a.rows - l.counter) a.width _ _ _ _ l.i _ (omega arith) (sym c.in_ok-next.ensures) (sym c.blank_at.ensures ∙ c.if-blank_at.true))

pub returns-in-loop : goal.returns-in-loop
returns-in-loop c =
    let l = c.loop in
    let a = c.args in
    ap WalkFault c.at-in-loop.ensures
    ∙ sym (l.invariant ∙ rows-fall (a.rows - l.counter) a.width _ _ _ _ l.i _ (omega arith) (sym c.in_ok-next.ensures) (sym c.blank_at.ensures ∙ c.if-blank_at.false)
    (rw c.in-Some.is (sym c.rises.ensures ∙ c.if-not-rises.true)))

pub loop-preserved : goal.loop-preserved
loop-preserved c =
    let l = c.loop in
    let a = c.args in
    let s = a.self.now.bytes.now in
    let more : (is_first l.«before» || below (codes a.width s (row_before l.«before»)) (codes a.width s l.i)) ≡ true =
    elim c.in_default.branch [
      | in_default-via-in-None-1 w ↦ let e : l.«before» ≡ None = search rules in rw e
      | in_default-via-in-Some+else-not-rises w ↦ rw w.in-Some.is (sym w.rises.ensures ∙ w.if-not-rises.false)
    ] in
    l.invariant ∙ rw sub-add-eq (rows_more (a.rows - l.counter) a.width s (version_number a.self.now.version) _ _ l.i _ (omega arith) (sym c.in_ok-next.ensures) (sym c.blank_at.ensures ∙ c.if-blank_at.false) more)

pub returns : goal.returns
returns c =
    let l = c.loop in
    let a = c.args in
    sym (l.invariant ∙ rows_none (a.rows - l.counter) a.width _ _ _ _ l.i (omega arith))
