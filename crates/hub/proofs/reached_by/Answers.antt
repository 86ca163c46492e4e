-- `hub::reached_by` meets its contract: a row of the set itself gives it back (`reached-own`), any other is tried. Assumes nothing.
use mathlib.Core.Path.{sym, ◌∙◌}
use Rattle.hub.proofs.JudgingLaws.{reached-own}
use Rattle.hub.proofs.reached_by.Goals as goal

pub returns-then-row : goal.returns-then-row
returns-then-row c =
    let p = c.requires in
    reached-own _ _ _ c.args.layout.now.tables.lawful _ _ _ p.0 p.2 p.1.table p.1.low (sym c.row.ensures ∙ c.if-row.true)
