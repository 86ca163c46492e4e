-- `Key::bit` meets its contract: a bit of the number is one of the word that it lies in (`bit-first`, `bit-second`). Assumes nothing.
use Prim.Native.Nat.{◌+◌, ◌-◌}
use mathlib.Core.Path.{◌≡◌, sym, ap, ◌∙◌}
use native.Mathlib.Omega.{arith}
use Rattle.words.specs.Words.{bit_of}
use Rattle.keys.specs.TwoWords.{bits_in_low, bits_per_word, number_of}
use Rattle.keys.proofs.TwoWordLaws.{bit-first, bit-second}
use Rattle.keys.proofs.Key.bit.Goals as goal

pub returns-then-d-lt-BITS_IN_LOW : goal.returns-then-d-lt-BITS_IN_LOW
returns-then-d-lt-BITS_IN_LOW c = c.bit_of.ensures ∙ sym (bit-first bits_in_low bits_per_word _ _ _ c.if-d-lt-BITS_IN_LOW.true)

pub returns-else-d-lt-BITS_IN_LOW : goal.returns-else-d-lt-BITS_IN_LOW
returns-else-d-lt-BITS_IN_LOW c =
    let u = c.args.d - bits_in_low in
    let e : bits_in_low + u ≡ c.args.d = omega arith in
    c.bit_of-else-d-lt-BITS_IN_LOW.ensures
    ∙ sym (bit-second bits_in_low bits_per_word c.args.self.low c.args.self.high u (omega arith))
    ∙ ap (bit_of (number_of c.args.self)) e
