-- `tables::check_table` meets its contract: the scheme first, then the count. Assumes nothing.
use Rattle.std.proofs.Common.{sym, ◌∙◌}
use Rattle.tables.proofs.CheckLaws.{table-scheme, table-count}
use Rattle.tables.proofs.check_table.Goals as goal

pub returns-then-scheme_bad-clause-fault : goal.returns-then-scheme_bad-clause-fault
returns-then-scheme_bad-clause-fault c = sym (table-scheme _ _ _ _ _ (sym c.scheme_bad.ensures ∙ c.if-scheme_bad.true))

pub returns-clause-fault : goal.returns-clause-fault
returns-clause-fault c = c.check_count.ensures.fault ∙ sym (table-count _ _ _ _ _ (sym c.scheme_bad.ensures ∙ c.if-scheme_bad.false))
