-- `exporter::putter::put_line` meets its contract. Invariant: the cells that are left and the line's end, from the cursor on, make the whole. Assumes nothing.
use native.Mathlib.Omega.{arith}
use Prim.Native.Nat.{ℕ, ◌+◌, ◌-◌, ◌<◌, ◌≤◌}
use mathlib.Core.Path.{◌≡◌, sym, ap, ◌∙◌}
use mathlib.Core.List.{List, [], ◌∷◌}
use lib.ListN.{length, take, drop, get_or, length-take, length-drop}
use Rattle.std.proofs.Common.{get_or-take, get_or-drop}
use Rattle.laws.proofs.PlacedLaws.{placed-rest, placed-append}
use Rattle.text.specs.Lines.{comma}
use Rattle.text.specs.Writing.{cell_text}
use Rattle.exporter.proofs.TextLaws.{rest-none, rest_more, rest-length, line-more, line-length}
use Rattle.exporter.proofs.putter.put_line.Goals.{After-word}
use Rattle.exporter.proofs.putter.put_line.Goals as goal

-- A cell behind the first.
behind : (row : List ℕ) (i : ℕ) → i < length (take (length row - 1) (drop 1 row)) → get_or (take (length row - 1) (drop 1 row)) i 0 ≡ get_or row (i + 1) 0
behind row i h =
    let n : i < length row - 1 = omega (arith, length-take (length row - 1) (drop 1 row)) in
    let e : 1 + i ≡ i + 1 = omega arith in
    rw (get_or-take (length row - 1) (drop 1 row) i 0 n, get_or-drop, e)

pub put_cell-requires : goal.put_cell-requires
put_cell-requires c = omega (arith, line-length c.args.row.now c.requires.0, c.requires.1)

pub loop-code-init : goal.loop-code-init
loop-code-init c =
    let row = c.args.row.now in
    let p = c.put_cell.ensures.puts in
    let k = line-length row c.requires.0 in
    let room : c.args.to.now.at + length (cell_text (get_or row 0 0)) ≤ length c.args.to.now.out.now = omega (arith, k, c.requires.1) in
    record {
      left = omega (arith, p.next, k);
      bytes = rw (line-more row c.requires.0) (placed-rest room p _);
      same = c.put_cell.ensures.same;
    }

-- How many bytes the cell at hand and its comma take, and there is room for them.
here : (c : After-word)
    → (let row = c.args.row.now in
    let i = c.loop-code.code-index + 1 in
    (i < length row) × (c.loop-code.to.at + 1 + length (cell_text (get_or row i 0)) ≤ length c.loop-code.to.out.now))
here c =
    let l = c.loop-code in
    let row = c.args.row.now in
    let n : l.code-index + 1 < length row = omega (arith, c.loop-code-test.true, length-take (length row - 1) (drop 1 row), length-drop 1 row) in
    (n, omega (arith, rest-length row (l.code-index + 1) n, l.invariant.left, l.invariant.same.1, c.requires.1))

pub word-requires : goal.word-requires
word-requires c =
    let l = c.loop-code in
    let row = c.args.row.now in
    let n : l.code-index + 1 < length row = omega (arith, c.loop-code-test.true, length-take (length row - 1) (drop 1 row), length-drop 1 row) in
    omega (arith, rest-length row (l.code-index + 1) n, l.invariant.left, l.invariant.same.1, c.requires.1)

pub put_cell-requires-in-loop-code : goal.put_cell-requires-in-loop-code
put_cell-requires-in-loop-code c =
    let p = c.word.ensures.puts in
    rw (behind c.args.row.now c.loop-code.code-index c.loop-code-test.true)
    (omega (arith, p.next, c.word.ensures.same.1, (here (goal.at.put_cell-requires-in-loop-code c).After-word).1))

pub loop-code-preserved : goal.loop-code-preserved
loop-code-preserved c =
    let l = c.loop-code in
    let row = c.args.row.now in
    let (n, room) = here (goal.at.loop-code-preserved c).After-word in
    let p = c.word.ensures.puts in
    let q = rw (behind row l.code-index c.loop-code-test.true) at c.put_cell-in-loop-code.ensures.puts in
    let short : l.to.at + length (comma ∷ []) ≤ length l.to.out.now = omega (arith, room) in
    let fits : l.to.at + length (comma ∷ cell_text (get_or row (l.code-index + 1) 0)) ≤ length l.to.out.now = omega (arith, room) in
    let k = rest-length row (l.code-index + 1) n in
    record {
      left = omega (arith, p.next, q.next, l.invariant.left, k);
      bytes = l.invariant.bytes ∙ rw (rest_more row (l.code-index + 1) n) (placed-rest fits (placed-append short p q) _);
      same = (c.put_cell-in-loop-code.ensures.same.0 ∙ c.word.ensures.same.0 ∙ l.invariant.same.0, omega arith);
    }

pub word-requires-2 : goal.word-requires-2
word-requires-2 c =
    let l = c.loop-code in
    let row = c.args.row.now in
    let n : length row ≤ l.code-index + 1 = omega (arith, c.loop-code-test.false, length-take (length row - 1) (drop 1 row), length-drop 1 row) in
    omega (arith, l.invariant.left, l.invariant.same.1, c.requires.1, ap length (rest-none row (l.code-index + 1) n))

pub returns-clause-puts : goal.returns-clause-puts
returns-clause-puts c =
    let l = c.loop-code in
    let row = c.args.row.now in
    let n : length row ≤ l.code-index + 1 = omega (arith, c.loop-code-test.false, length-take (length row - 1) (drop 1 row), length-drop 1 row) in
    let z = rest-none row (l.code-index + 1) n in
    let p = c.word-2.ensures.puts in
    record { next = omega (arith, p.next, l.invariant.left, ap length z); bytes = p.bytes ∙ sym (l.invariant.bytes ∙ rw z) }
