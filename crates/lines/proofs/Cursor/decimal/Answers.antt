-- `Cursor::decimal` meets its contract: a number below ten is one digit, and of any other the library prints the digits. Assumes nothing.
use native.Mathlib.Omega.{arith}
use Rattle.std.proofs.Common.{◌≡◌, sym, ap, ◌∙◌, length}
use Rattle.lines.specs.Decimals.{decimal}
use Rattle.lines.proofs.DecimalLaws.{decimal-last, decimal-printed}
use Rattle.lines.proofs.Cursor.decimal.Goals as goal
use Rattle.lines.proofs.Cursor.decimal.Goals.{After-as_bytes}

pub byte-requires : goal.byte-requires
byte-requires c = omega (arith, c.requires, ap length (decimal-last c.args.x c.if-x-lt10.true))

pub returns-then-x-lt10-clause-puts : goal.returns-then-x-lt10-clause-puts
returns-then-x-lt10-clause-puts c = rw (decimal-last c.args.x c.if-x-lt10.true) c.byte.ensures.puts

digits : (c : After-as_bytes) → c.as_bytes.result.now ≡ decimal c.args.x
digits c = c.as_bytes.ensures.value ∙ c.format.ensures.text ∙ sym (decimal-printed c.args.x c.ranges.x.fits)

pub word-requires : goal.word-requires
word-requires c = rw (digits (goal.at.word-requires c).After-as_bytes) c.requires

pub returns-else-x-lt10-clause-puts : goal.returns-else-x-lt10-clause-puts
returns-else-x-lt10-clause-puts c = rw (digits (goal.at.returns-else-x-lt10-clause-puts c).After-as_bytes) at c.word.ensures.puts
