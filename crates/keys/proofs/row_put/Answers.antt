-- `keys::row_put` meets its contract: the law `replaced` of the masks, at a word of 64 bits. Assumes nothing.
use Prim.Native.Nat.{◌+◌, ◌*◌, ◌-◌}
use mathlib.Core.Path.{◌≡◌}
use native.Mathlib.Omega.{arith}
use Rattle.keys.specs.Keys.{bits_per_row}
use Rattle.keys.specs.TwoWords.{bits_per_word}
use Rattle.keys.proofs.KeyLaws.{replaced}
use Rattle.keys.proofs.row_put.Goals as goal

pub returns : goal.returns
returns c =
    let w = bits_per_row in
    let above = bits_per_word - w - w * c.args.t in
    let e : above + w + w * c.args.t ≡ bits_per_word = omega arith in
    replaced bits_per_word above w c.args.word c.args.t c.args.r e c.ranges.word.fits c.requires.1
