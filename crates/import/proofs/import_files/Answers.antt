-- `import::import_files` is safe: a table that meets no refusal has few rows. Assumes nothing.
use native.Mathlib.Omega.{arith}
use mathlib.Core.Path.{sym}
use Rattle.tables.specs.Sizes.{most_rows}
use Rattle.tables.proofs.CheckLaws.{fault-counted}
use Rattle.import.proofs.import_files.Goals as goal

pub overflow_cast-rows : goal.overflow_cast-rows
overflow_cast-rows c = omega (arith, (fault-counted most_rows _ _ _ _ (sym c.in_ok-used.ensures.fault)).few)
