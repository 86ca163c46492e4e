-- `walks::Rows::first_rises` meets its contract: the column of the lowest attribute begins where the rows do (`cursor-here`). Assumes nothing.
use Prim.Native.Nat.{ℕ}
use mathlib.Core.Path.{◌≡◌, refl, sym, ◌∙◌}
use mathlib.Core.Bool.{true}
use mathlib.Core.List.{List}
use Rattle.std.proofs.Common.{Option, Some, None, IfSome}
use Rattle.std.specs.Option.{is_some}
use Rattle.laws.proofs.TestLaws.{clash}
use Rattle.walks.specs.declared.Column.{Column}
use Rattle.walks.specs.declared.RisingColumn.{RisingColumn}
use Rattle.walks.specs.Merged.{Rising}
use Rattle.walks.specs.Columns.{IsColumn}
use Rattle.walks.proofs.CursorLaws.{cursor-start, cursor-here}
use Rattle.walks.proofs.Rows.first_rises.Goals as goal

-- a column that was found to rise does, by its numbers
found : (c : Column) (r : Option RisingColumn) (cells : List ℕ) (first w k : ℕ) → IfSome r (λ x. x.column ≡ c) → is_some r ≡ true
    → IsColumn c cells first w k → Rising cells first w k
found c None cells first w k e h q = absurd (clash h refl)
found c (Some x) cells first w k e h q = rw (← q.same_cells, ← q.begins, ← q.wide, ← q.rows, ← e) x.rising

pub returns : goal.returns
returns c h =
    let s = c.args.self.now in
    rw (cursor-here s.scheme s.base s.scheme s.base _ _ (cursor-start s.scheme s.base) c.lowest.ensures)
    (found _ _ _ _ _ _ c.rising.ensures (sym c.is_some.ensures ∙ h) c.column.ensures)
