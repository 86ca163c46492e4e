-- `writer::write` meets its contract: every check is made before the first byte, and each answer is its law's. Assumes nothing.
use native.Mathlib.Omega.{arith}
use mathlib.Core.Path.{◌≡◌, refl, sym, ◌∙◌}
use lib.ListN.{length}
use Rattle.std.proofs.lemmas.Result.{err_from_is_err_and}
use Rattle.refusals.proofs.RefusalLaws.{number-some}
use Rattle.writer.specs.Write.{image_of, write_fault}
use Rattle.writer.proofs.WriteLaws.{written-fault, written-short, written-good}
use Rattle.writer.proofs.write.Goals.{In_ok-tables, After-image_length-len}
use Rattle.writer.proofs.write.Goals as goal

pub returns-in_err-tables : goal.returns-in_err-tables
returns-in_err-tables c =
    let p = err_from_is_err_and c.from_residual.result c.from_residual.ensures.1 in
    rw (p.1, p.2) (record { answer = sym (written-fault _ _ _ _ c.in_err-tables.ensures.fault (number-some _)); bytes = refl })

-- No refusal but for room is met,
clear : (c : In_ok-tables) → write_fault c.args.cat c.args.cells.now ≡ 0
clear c = sym c.in_ok-tables.ensures.fault

-- and the length is that of the image.
long : (c : After-image_length-len) → c.image_length-len.result ≡ length (image_of c.args.cat c.args.cells.now)
long c = let e = c.in_ok-tables.ensures.tables in c.image_length-len.ensures ∙ rw (e.0, e.1)

pub returns-then-out-len : goal.returns-then-out-len
returns-then-out-len c =
    let n = long (goal.at.returns-then-out-len c).After-image_length-len in
    record { answer = sym (written-short _ _ _ (clear (goal.at.returns-then-out-len c).In_ok-tables) (omega (arith, n, c.if-out-len.true))); bytes = refl }

pub returns : goal.returns
returns c =
    let n = long (goal.at.returns c).After-image_length-len in
    let e = c.in_ok-tables.ensures.tables in
    record {
      answer = rw n (sym (written-good _ _ _ (clear (goal.at.returns c).In_ok-tables) (omega (arith, n, c.if-out-len.false))));
      bytes = c.put_image.ensures ∙ rw (e.0, e.1);
    }
