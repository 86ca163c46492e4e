-- `writer::checker::check_rows` meets its contract. Invariant: the rows passed meet no refusal, so the whole answer is the answer of the rows that are left. Assumes nothing.
use Prim.Native.Nat.{◌/◌}
use native.Mathlib.Nat.{div-mul-le_self}
use native.Mathlib.Omega.{arith}
use mathlib.Core.Path.{◌≡◌, sym, ◌∙◌}
use mathlib.Core.Bool.{true, false, cond}
use lib.ListN.{length}
use Rattle.std.specs.Ordering.{nat_cmp, is_lt}
use Rattle.std.specs.Cmp.Lexicographic.{slice_cmp}
use Rattle.std.specs.Slice.Iter.{chunks_exact_rest}
use Rattle.tables.specs.Versions.{blank, version_number}
use Rattle.writer.specs.Write.{too_high, rows_fault}
use Rattle.writer.proofs.WriteLaws.{rows_behind, rows-all, rows-come, rows-end}
use Rattle.writer.proofs.checker.check_rows.Goals.{In-Some}
use Rattle.writer.proofs.checker.check_rows.Goals as goal

-- What the rows meet, where the loop is at a row.
here : (c : In-Some)
    → (let a = c.args in
    let row = c.in-Some.row.now in
    let rest = chunks_exact_rest c.next.new.self in
    rows_fault (length a.cells.now / a.width) a.width a.cells.now (version_number a.version) true 0 0
    ≡ cond (too_high row) 10 (cond (blank (version_number a.version) row) 21 (cond (is_lt (slice_cmp nat_cmp c.loop-row.before.now row)) (rows_behind (length rest / a.width) a.width (version_number a.version) row rest) 7)))
here c =
    let s = c.in-Some.ensures.steps in
    let l = c.loop-row.invariant in
    l.so_far ∙ rw s.1.0 (rows-come _ _ _ _ _ c.requires (s.1.1 ∙ l.size))

pub loop-row-init : goal.loop-row-init
loop-row-init c =
    let a = c.args in
    let e = c.chunks_exact-row-items.ensures in
    let i = c.into_iter-row-iterator.ensures.into_iter_gives in
    record {
      size = rw i e.size;
      so_far = rw (i, e.rest) (rows-all a.cells.now a.width (version_number a.version) c.requires _ (div-mul-le_self _ _));
    }

pub returns-then-code_high : goal.returns-then-code_high
returns-then-code_high c = sym (here (goal.at.returns-then-code_high c).In-Some ∙ rw (sym c.code_high.ensures ∙ c.if-code_high.true))

pub returns-then-blank : goal.returns-then-blank
returns-then-blank c =
    sym (here (goal.at.returns-then-blank c).In-Some ∙ rw (sym c.code_high.ensures ∙ c.if-code_high.false, sym c.blank.ensures ∙ c.if-blank.true))

pub returns-then-not-rises : goal.returns-then-not-rises
returns-then-not-rises c =
    sym (here (goal.at.returns-then-not-rises c).In-Some ∙ rw (sym c.code_high.ensures ∙ c.if-code_high.false, sym c.blank.ensures ∙ c.if-blank.false, sym c.rises.ensures ∙ c.if-not-rises.true))

pub loop-row-preserved : goal.loop-row-preserved
loop-row-preserved c =
    record {
      size = c.in-Some.ensures.steps.0 ∙ c.loop-row.invariant.size;
      so_far = here (goal.at.loop-row-preserved c).In-Some ∙ rw (sym c.code_high.ensures ∙ c.if-code_high.false, sym c.blank.ensures ∙ c.if-blank.false, sym c.rises.ensures ∙ c.if-not-rises.false);
    }

pub returns : goal.returns
returns c =
    let l = c.loop-row.invariant in
    let s = c.in-None.ensures.steps in
    sym (l.so_far ∙ rows-end _ _ _ _ (omega (arith, s.1.0, l.size)))
