-- `padding::code_at` meets its contract. Invariant: no table passed gives a code. Assumes nothing.
use Rattle.std.proofs.Common.{ℕ, ◌<◌, ◌≡◌, false}
use Rattle.keys.specs.TwoWords.{number_of}
use Rattle.padding.specs.Padding.{gives_in}
use Rattle.padding.proofs.code_at.Given as goal

abbrev pub invariant-loop-t : goal.invariant-loop-t
invariant-loop-t l = (u : ℕ) → u < l.t → gives_in l.tables.catalogue (number_of l.key) l.a u ≡ false
