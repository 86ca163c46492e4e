-- `Cursor::rows` meets its contract: a run of fields (`Run`) over the row numbers that the key holds. The measure is how many tables are left.
-- Assumes nothing.
use Rattle.keys.specs.Keys.{bits_per_row, rows_in}
use Rattle.keys.specs.TwoWords.{number_of}
use Rattle.lines.specs.Lines.{field}
use Rattle.lines.proofs.LineLaws.{field-few, Run}
use Rattle.lines.proofs.Cursor.rows.Given as goal

abbrev pub invariant-loop-t : goal.invariant-loop-t
invariant-loop-t l = Run field field-few (rows_in bits_per_row l.n (number_of l.key)) l.n l.initial.self l.t l.self
