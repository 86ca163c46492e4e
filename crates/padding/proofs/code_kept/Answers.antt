-- `padding::code_kept` meets its contract: one law for each way that it goes. Assumes nothing.
use Rattle.std.proofs.Common.{sym, ◌∙◌, eq-eqb}
use Rattle.padding.proofs.CoveringLaws.{keeps_null, keeps-value}
use Rattle.padding.proofs.code_kept.Goals as goal

pub returns-then-y-eq0 : goal.returns-then-y-eq0
returns-then-y-eq0 c = eq-eqb _ _ c.if-y-eq0.true ∙ sym (keeps_null _ _ c.if-y-eq0.true)

pub returns-else-y-eq0 : goal.returns-else-y-eq0
returns-else-y-eq0 c = sym (keeps-value _ _ c.if-y-eq0.false)
