-- `words::lowest` meets its contract: the trailing zeros of a word that is not 0 end at its lowest set bit (`trailing-lowest`). Assumes nothing.
use native.Mathlib.Omega.{arith}
use lib.Count.{trailing_le}
use Rattle.words.proofs.WordLaws.{trailing-lowest}
use Rattle.words.proofs.lowest.Goals as goal

pub overflow_cast-result : goal.overflow_cast-result
overflow_cast-result c = omega (arith, trailing_le 64 c.args.word)

pub returns : goal.returns
returns c = trailing-lowest 64 c.args.word c.requires c.ranges.word.fits
