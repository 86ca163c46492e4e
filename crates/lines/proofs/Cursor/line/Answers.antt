-- `Cursor::line` meets its contract: three parts, each behind the one before, are one. Assumes nothing.
use native.Mathlib.Omega.{arith}
use Rattle.laws.proofs.PlacedLaws.{placed-three}
use Rattle.lines.specs.Lines.{field, line}
use Rattle.lines.proofs.LineLaws.{field-few, each-few}
use Rattle.lines.proofs.Cursor.line.Goals as goal

pub byte-requires : goal.byte-requires
byte-requires c = omega (arith, each-few field field-few c.args.numbers.now, c.fields.ensures.puts.next, c.word.ensures.puts.next)

pub returns-clause-puts : goal.returns-clause-puts
unfolding line
returns-clause-puts c =
    placed-three (omega (arith, each-few field field-few c.args.numbers.now, c.requires)) c.word.ensures.puts c.fields.ensures.puts c.byte.ensures.puts
