-- `Key::has_spare` meets its contract: a spare bit of either word makes the number pass those of all keys, and without one it does not. Assumes nothing.
use mathlib.Core.Path.{sym}
use borrow.Author.Tests.{ne_eqb}
use native.Mathlib.Omega.{arith}
use Rattle.keys.specs.TwoWords.{bits_in_low, bits_in_high, bits_per_word}
use Rattle.keys.proofs.TwoWordLaws.{spare-first, spare-second}
use Rattle.keys.proofs.Key.has_spare.Goals as goal

pub returns-then-self-ne0 : goal.returns-then-self-ne0
returns-then-self-ne0 c = rw (ne_eqb _ _ c.if-self-ne0.true) (sym (spare-first bits_in_low bits_per_word _ _ bits_in_high (omega arith) c.if-self-ne0.true))

pub returns-else-self-ne0 : goal.returns-else-self-ne0
returns-else-self-ne0 c = sym (spare-second bits_in_low bits_per_word _ _ bits_in_high c.if-self-ne0.false)
