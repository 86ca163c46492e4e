-- `Key::row` meets its contract: a row of the number is one of the word that its table lies in (`row_first`, `row-second`). Assumes nothing.
use Prim.Native.Nat.{◌+◌, ◌-◌}
use mathlib.Core.Path.{◌≡◌, sym, ap, ◌∙◌}
use native.Mathlib.Omega.{arith}
use Rattle.keys.specs.Keys.{bits_per_row, row_of}
use Rattle.keys.specs.TwoWords.{bits_per_word, tables_in_low, number_of}
use Rattle.keys.proofs.TwoWordLaws.{row_first, row-second}
use Rattle.keys.proofs.Key.row.Goals as goal

pub returns-then-t-lt-TABLES_IN_LOW : goal.returns-then-t-lt-TABLES_IN_LOW
returns-then-t-lt-TABLES_IN_LOW c = c.row_in.ensures ∙ sym (row_first bits_per_row tables_in_low bits_per_word _ _ _ c.if-t-lt-TABLES_IN_LOW.true)

pub returns-else-t-lt-TABLES_IN_LOW : goal.returns-else-t-lt-TABLES_IN_LOW
returns-else-t-lt-TABLES_IN_LOW c =
    let u = c.args.t - tables_in_low in
    let e : tables_in_low + u ≡ c.args.t = omega arith in
    c.row_in-else-t-lt-TABLES_IN_LOW.ensures
    ∙ sym (row-second bits_per_row tables_in_low bits_per_word c.args.self.low c.args.self.high u (omega arith))
    ∙ ap (row_of bits_per_row (number_of c.args.self)) e
