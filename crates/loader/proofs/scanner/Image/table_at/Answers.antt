-- `Image::table_at` meets its contract: one law for each way. Assumes nothing.
use Rattle.std.proofs.Common.{ap, sym, ◌∙◌}
use Rattle.std.proofs.lemmas.Result.{err_from_is_err_and}
use Rattle.loader.specs.Faults.{TableFault}
use Rattle.loader.proofs.ReadingLaws.{read-good}
use Rattle.loader.proofs.LoadLaws.{table-unread, table-scheme, table-count}
use Rattle.loader.proofs.scanner.Image.table_at.Goals as goal

pub returns-in_err-scheme : goal.returns-in_err-scheme
returns-in_err-scheme c =
    let p = err_from_is_err_and c.from_residual.result c.from_residual.ensures.1 in
    rw (p.1, p.2) (sym (table-unread _ _ _ _ _ _ _ c.in_err-scheme.ensures))

pub returns-then-scheme_bad : goal.returns-then-scheme_bad
returns-then-scheme_bad c =
    ap TableFault c.at.ensures
    ∙ sym (table-scheme _ _ _ _ _ _ _ _ (read-good _ _ _ _ c.in_ok-scheme.ensures) (sym c.scheme_bad.ensures ∙ c.if-scheme_bad.true))

pub returns : goal.returns
returns c =
    c.count_at.ensures
    ∙ sym (table-count _ _ _ _ _ _ _ _ (read-good _ _ _ _ c.in_ok-scheme.ensures) (sym c.scheme_bad.ensures ∙ c.if-scheme_bad.false))
