-- `Image::rows_end` meets its contract. Invariant: the whole answer is the answer from the next row on. Assumes nothing.
use Rattle.std.proofs.Common.{◌≡◌, ◌-◌, true}
use Rattle.tables.specs.Versions.{version_number}
use Rattle.loader.specs.Reading.{rows_from}
use Rattle.loader.proofs.ReadingLaws.{is_first, row_before}
use Rattle.loader.proofs.scanner.Image.rows_end.Given as goal

abbrev pub invariant-loop : goal.invariant-loop
invariant-loop l = rows_from l.rows l.width l.s (version_number l.self.version) true 0 l.at ≡ rows_from (l.rows - l.counter) l.width l.s (version_number l.self.version) (is_first l.before) (row_before l.before) l.i
