-- `sets::measured` meets its contract. Invariant: the sum is the rows of the tables below t, and each of these has its own (`Entered`). Assumes nothing.
use Prim.Native.Nat.{ℕ}
use mathlib.Core.Path.{◌≡◌}
use lib.Count.{ones}
use Rattle.tables.specs.declared.Catalogue.{Catalogue}
use Rattle.tables.specs.Catalogues.{scheme_of, rows_before}
use Rattle.tables.proofs.StoredLaws.{Entered}
use Rattle.sets.proofs.measured.Given as goal

abbrev pub width : Catalogue → ℕ → ℕ
width cat t = ones (scheme_of cat t)

abbrev pub invariant-loop-t : goal.invariant-loop-t
invariant-loop-t l =
    record {
      sum : l.total ≡ rows_before l.tables.catalogue l.t;
      before : Entered (rows_before l.tables.catalogue) l.before l.t;
      widths : Entered (width l.tables.catalogue) l.widths l.t;
    }
