-- `Cursor::field` meets its contract: the digits stand behind the space. Assumes nothing.
use native.Mathlib.Omega.{arith}
use Rattle.laws.proofs.PlacedLaws.{placed-append}
use Rattle.lines.specs.Lines.{field}
use Rattle.lines.proofs.DecimalLaws.{decimal-few}
use Rattle.lines.proofs.Cursor.field.Goals as goal

pub decimal-requires : goal.decimal-requires
decimal-requires c = omega (arith, c.requires, decimal-few c.args.x)

pub returns-clause-puts : goal.returns-clause-puts
unfolding field
returns-clause-puts c =
    placed-append (omega (arith, c.requires)) c.byte.ensures.puts c.decimal.ensures.puts
