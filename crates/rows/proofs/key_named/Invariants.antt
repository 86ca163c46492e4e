-- `rows::key_named` meets its contract. Invariant: the key names no missing row of the tables passed. Before the loop it was seen that some bit of it
-- is set and none is spare. Assumes nothing.
use Rattle.std.proofs.Common.{ℕ, ◌≤◌, ◌<◌}
use Rattle.keys.specs.Keys.{bits_per_row, row_of}
use Rattle.keys.specs.TwoWords.{number_of}
use Rattle.rows.specs.Named.{rows_there}
use Rattle.rows.proofs.key_named.Given as goal

abbrev pub invariant-loop-t : goal.invariant-loop-t
invariant-loop-t l = (u : ℕ) → u < l.t → row_of bits_per_row (number_of l.key) u ≤ rows_there l.cat u
