-- `tables::touching_of` meets its contract. Invariant: the mask has the tables below u that touch t. Assumes nothing.
use Rattle.std.proofs.Common.{◌≡◌}
use Rattle.tables.specs.Catalogues.{touching_below}
use Rattle.tables.proofs.touching_of.Given as goal

abbrev pub invariant-loop-u : goal.invariant-loop-u
invariant-loop-u l = l.mask ≡ touching_below l.cat l.t l.u
