-- `Image::tables` meets its contract: one law for each way. Assumes nothing.
use Rattle.std.proofs.Common.{◌-◌, refl, sym, ◌∙◌, arith}
use native.Mathlib.Nat.{sub-zero, sub-add-eq}
use lib.ListN.{length-set}
use Rattle.std.proofs.lemmas.Result.{err_from_is_err_and}
use Rattle.tables.specs.Catalogues.{first_cell}
use Rattle.tables.proofs.StoredLaws.{given-next}
use Rattle.tables.specs.Versions.{version_number}
use Rattle.loader.proofs.LoadLaws.{good-table, good-clear, tables-last, tables-bad, tables_more}
use Rattle.loader.proofs.scanner.Image.tables.Goals as goal

pub loop-t-init : goal.loop-t-init
unfolding first_cell
loop-t-init c = record { answer = rw sub-zero refl; most = omega arith; eight_schemes = refl; eight_counts = refl; cells = refl }

pub returns-in_err-table : goal.returns-in_err-table
returns-in_err-table c =
    let l = c.loop-t in
    let a = c.args in
    let i = a.self.now in
    let p = err_from_is_err_and c.from_residual.result c.from_residual.ensures.1 in
    rw (p.1, p.2) (sym (l.invariant.answer ∙ tables-bad i.bytes.now (version_number i.version) i.room i.m a.n l.t l.used l.schemes l.rows l.i (a.n - l.t) _ (omega arith) (sym c.in_err-table.ensures)))

pub loop-t-preserved : goal.loop-t-preserved
loop-t-preserved c =
    let l = c.loop-t in
    let a = c.args in
    let i = a.self.now in
    let e = sym c.in_ok-table.ensures in
    let g = good-table i.bytes.now (version_number i.version) i.room i.m l.used l.i _ _ _ _ e in
    record {
      answer = l.invariant.answer ∙ rw sub-add-eq (tables_more i.bytes.now (version_number i.version) i.room i.m a.n l.t l.used l.schemes l.rows l.i (a.n - l.t) _ _ _ _ (omega arith) e);
      most = rw g.cells (good-clear _ _ _ _ _ _ _ _ _ _ g).most;
      eight_schemes = simp length-set l.invariant.eight_schemes;
      eight_counts = simp length-set l.invariant.eight_counts;
      cells = given-next i.m a.n l.schemes l.rows l.t _ _ (omega arith) (omega arith) ∙ rw l.invariant.cells (sym g.cells);
    }

pub returns : goal.returns
returns c =
    let l = c.loop-t in
    let a = c.args in
    let i = a.self.now in
    c.tables_end.ensures ∙ rw c.given.ensures (sym (l.invariant.answer ∙ tables-last i.bytes.now (version_number i.version) i.room i.m a.n l.t l.used l.schemes l.rows l.i (a.n - l.t) (omega arith)))
