-- `lines::places` meets its contract: a number below ten is one digit, and of any other the library prints the digits. Assumes nothing.
use Rattle.std.proofs.Common.{sym, ◌∙◌, ap, length}
use Rattle.lines.proofs.DecimalLaws.{decimal-last, decimal-printed}
use Rattle.lines.proofs.places.Goals as goal

pub returns-then-x-lt10 : goal.returns-then-x-lt10
returns-then-x-lt10 c = ap length (sym (decimal-last c.args.x c.if-x-lt10.true))

pub returns : goal.returns
returns c = ap length (c.format.ensures.text ∙ sym (decimal-printed c.args.x c.ranges.x.fits))
