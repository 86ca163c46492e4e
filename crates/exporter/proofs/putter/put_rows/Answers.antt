-- `exporter::putter::put_rows` meets its contract. Invariant: the lines that are left, from the cursor on, make the whole. Assumes nothing.
use native.Mathlib.Omega.{arith}
use Prim.Native.Nat.{ℕ, ◌+◌, ◌≤◌}
use mathlib.Core.Path.{◌≡◌, sym, ap, ◌∙◌}
use mathlib.Core.List.{List, ◌++◌}
use lib.ListN.{length}
use Rattle.std.specs.Slice.Iter.{chunks_exact_rest}
use Rattle.laws.proofs.ListLaws.{put-nil}
use Rattle.laws.proofs.PlacedLaws.{placed-rest}
use Rattle.text.specs.Writing.{line_text}
use Rattle.exporter.proofs.TextLaws.{lines_in, lines-come, lines-length, lines-end}
use Rattle.exporter.proofs.putter.put_rows.Goals.{In-Some}
use Rattle.exporter.proofs.putter.put_rows.Goals as goal

-- The lines that are left are the row's at hand and those behind it, and there is room for it.
here : (c : In-Some)
    → (let w = c.args.width in
    let rest = chunks_exact_rest c.next.new.self in
    (lines_in w (chunks_exact_rest c.loop-row.row-iterator) ≡ line_text c.in-Some.row.now ++ lines_in w rest)
    × (length (lines_in w (chunks_exact_rest c.loop-row.row-iterator)) ≡ length (line_text c.in-Some.row.now) + length (lines_in w rest)))
here c =
    let w = c.args.width in
    let row = c.in-Some.row.now in
    let rest = chunks_exact_rest c.next.new.self in
    let s = c.in-Some.ensures.steps in
    let l = c.loop-row.invariant in (
      ap (lines_in w) s.1.0 ∙ lines-come w row rest c.requires.0 (s.1.1 ∙ l.size),
      ap (λ (xs : List ℕ). length (lines_in w xs)) s.1.0 ∙ lines-length w row rest c.requires.0 (s.1.1 ∙ l.size),
    )

pub put_line-requires : goal.put_line-requires
put_line-requires c =
    let s = c.in-Some.ensures.steps in
    let l = c.loop-row.invariant in
    (omega (arith, s.1.1, l.size, c.requires.0), omega (arith, l.left, (here (goal.at.put_line-requires c).In-Some).1, l.same.1, c.requires.1))

pub loop-row-preserved : goal.loop-row-preserved
loop-row-preserved c =
    let l = c.loop-row in
    let p = c.put_line.ensures.puts in
    let (e, k) = here (goal.at.loop-row-preserved c).In-Some in
    let room : l.to.at + length (line_text c.in-Some.row.now) ≤ length l.to.out.now = omega (arith, l.invariant.left, k, l.invariant.same.1, c.requires.1) in
    record {
      size = c.in-Some.ensures.steps.0 ∙ l.invariant.size;
      left = omega (arith, p.next, l.invariant.left, k);
      bytes = l.invariant.bytes ∙ rw e (placed-rest room p _);
      same = (c.put_line.ensures.same.0 ∙ l.invariant.same.0, c.put_line.ensures.same.1 ∙ l.invariant.same.1);
    }

pub returns-clause-puts : goal.returns-clause-puts
returns-clause-puts c =
    let l = c.loop-row in
    let z = lines-end c.args.width (chunks_exact_rest l.row-iterator) (omega (arith, c.in-None.ensures.steps.1.0, l.invariant.size)) in
    record { next = omega (arith, l.invariant.left, ap length z); bytes = sym (l.invariant.bytes ∙ rw z (put-nil l.to.out.now l.to.at)) }
