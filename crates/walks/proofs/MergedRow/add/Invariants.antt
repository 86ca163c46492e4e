-- `walks::MergedRow::add` meets its contract. Invariant: the codes are merged but for the bits that are left (`Merging`), and their cells begin at the
-- place that is read next (`Cursor`). Assumes nothing.
use mathlib.Core.Path.{◌≡◌}
use Rattle.walks.specs.Merged.{row_in}
use Rattle.walks.proofs.MatchLaws.{Merging}
use Rattle.walks.proofs.CursorLaws.{Cursor}
use Rattle.walks.proofs.MergedRow.add.Given as goal

abbrev pub invariant-loop-a : goal.invariant-loop-a
invariant-loop-a l =
    let start = row_in l.rows.base l.rows.scheme l.i in
    record {
      attrs : l.self.attrs ≡ l.initial.self.attrs;
      codes : Merging l.rows.cells.now l.rows.scheme start l.initial.self.attrs l.initial.self.codes l.self.codes l.a-iterator.rest;
      cursor : Cursor l.rows.scheme start l.a-iterator.rest l.place;
    }
