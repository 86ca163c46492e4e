-- `tables::width` meets its contract: a word of 64 bits has at most 64 ones. Assumes nothing.
use native.Mathlib.Omega.{arith}
use lib.Count.{ones-le}
use Rattle.tables.proofs.width.Goals as goal

pub overflow_cast-result : goal.overflow_cast-result
overflow_cast-result c = omega (arith, ones-le 64 _ c.ranges.scheme.fits)
