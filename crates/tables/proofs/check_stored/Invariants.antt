-- `tables::check_stored` meets its contract. Invariant: what is stored of the tables below t is right, and the sum is their cells. Assumes nothing.
use Rattle.std.proofs.Common.{ℕ, ◌<◌, ◌≡◌, false}
use Rattle.tables.specs.declared.Catalogue.{Catalogue}
use Rattle.tables.specs.Catalogues.{first_cell}
use Rattle.tables.specs.Checks.{misstored}
use Rattle.tables.proofs.check_stored.Given as goal

-- What is stored of the tables below t is right.
abbrev pub Right : Catalogue → ℕ → Type 0
Right cat t = (u : ℕ) → u < t → misstored cat u ≡ false

abbrev pub invariant-loop-t : goal.invariant-loop-t
invariant-loop-t l = (l.at ≡ first_cell l.cat l.t) × Right l.cat l.t
