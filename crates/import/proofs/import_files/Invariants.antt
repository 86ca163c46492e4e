-- `import::import_files` is safe. Invariant: the cells used so far are among those there are. Assumes nothing.
use Prim.Native.Nat.{◌≤◌}
use mathlib.Core.Path.{◌≡◌}
use lib.ListN.{length}
use Rattle.tables.specs.Sizes.{most_cells}
use Rattle.import.proofs.import_files.Given as goal

abbrev pub invariant-loop-t : goal.invariant-loop-t
invariant-loop-t l = (l.used ≤ most_cells) × (length l.cells ≡ most_cells)
