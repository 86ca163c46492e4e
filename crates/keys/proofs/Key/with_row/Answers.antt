-- `Key::with_row` meets its contract: a row put into the word that its table lies in is put into the number (`with_first`, `with_second`).
-- Assumes nothing.
use Prim.Native.Nat.{ℕ, ◌+◌, ◌-◌}
use mathlib.Core.Path.{◌≡◌, ap, ◌∙◌}
use native.Mathlib.Omega.{arith}
use Rattle.keys.specs.Keys.{bits_per_row, with_row}
use Rattle.keys.specs.TwoWords.{bits_per_word, tables_in_low, number_in, number_of}
use Rattle.keys.proofs.TwoWordLaws.{with_first, with_second}
use Rattle.keys.proofs.Key.with_row.Goals as goal

pub returns-then-t-lt-TABLES_IN_LOW : goal.returns-then-t-lt-TABLES_IN_LOW
returns-then-t-lt-TABLES_IN_LOW c =
    ap (λ (x : ℕ). number_in x c.args.self.high) c.row_put.ensures
    ∙ with_first bits_per_row tables_in_low bits_per_word c.args.self.low c.args.self.high c.args.t c.args.r c.if-t-lt-TABLES_IN_LOW.true c.requires.1

pub returns-else-t-lt-TABLES_IN_LOW : goal.returns-else-t-lt-TABLES_IN_LOW
returns-else-t-lt-TABLES_IN_LOW c =
    let u = c.args.t - tables_in_low in
    let e : tables_in_low + u ≡ c.args.t = omega arith in
    ap (λ (x : ℕ). number_in c.args.self.low x) c.row_put-else-t-lt-TABLES_IN_LOW.ensures
    ∙ with_second bits_per_row tables_in_low bits_per_word c.args.self.low c.args.self.high u c.args.r (omega arith)
    ∙ ap (λ (x : ℕ). with_row bits_per_row (number_of c.args.self) x c.args.r) e
