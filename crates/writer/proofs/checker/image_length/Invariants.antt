-- `writer::checker::image_length` meets its contract. Invariant: the sum and the length of the tables that are left make the whole length. Assumes nothing.
use Prim.Native.Nat.{◌+◌, ◌-◌}
use mathlib.Core.Path.{◌≡◌}
use lib.ListN.{length}
use Rattle.writer.specs.Write.{tables_image, image_of}
use Rattle.writer.proofs.checker.image_length.Given as goal

abbrev pub invariant-loop-t : goal.invariant-loop-t
invariant-loop-t l = l.sum + length (tables_image (l.tables.catalogue.n - l.t) l.tables.catalogue l.tables.cells.now l.t) ≡ length (image_of l.tables.catalogue l.tables.cells.now)
