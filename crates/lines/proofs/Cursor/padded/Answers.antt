-- `Cursor::padded` meets its contract: three parts, each behind the one before, are one. Assumes nothing.
use native.Mathlib.Omega.{arith}
use Rattle.laws.proofs.PlacedLaws.{placed-three}
use Rattle.lines.specs.Lines.{padded_end}
use Rattle.lines.proofs.LineLaws.{values-few}
use Rattle.lines.proofs.Cursor.padded.Goals as goal

pub byte-requires : goal.byte-requires
byte-requires c = omega (arith, values-few c.args.padded.now c.args.m c.requires.0, c.values.ensures.puts.next, c.word.ensures.puts.next)

pub returns-clause-puts : goal.returns-clause-puts
unfolding padded_end
returns-clause-puts c =
    placed-three (omega (arith, values-few c.args.padded.now c.args.m c.requires.0, c.requires)) c.word.ensures.puts c.values.ensures.puts c.byte.ensures.puts
