-- `sets::RowSet::row` meets its contract: a table of the mask has a row in the key, which is there. Assumes nothing.
use native.Mathlib.Omega.{arith}
use Prim.Native.Nat.{◌<◌}
use mathlib.Core.Path.{refl, sym, ◌∙◌}
use Rattle.keys.specs.Keys.{bits_per_row}
use Rattle.keys.specs.TwoWords.{number_of}
use Rattle.keys.proofs.SetLaws.{in-at, in-length}
use Rattle.sets.specs.Layouts.{rows_of}
use Rattle.sets.proofs.LackingLaws.{tables-has, tables-lt}
use Rattle.sets.proofs.RowSet.row.Goals.{Start}
use Rattle.sets.proofs.RowSet.row.Goals as goal

turn : (s : Start) → s.args.u < s.args.self.now.layout.now.tables.catalogue.n
turn s =
    let own = s.args.self.now in
    rw (in-length bits_per_row own.layout.now.tables.catalogue.n (number_of own.key)) at (tables-lt (rows_of own) _ own.members _ s.requires)

pub row-requires : goal.row-requires
row-requires c = omega (arith, turn (goal.at.row-requires c).Start, c.args.self.now.layout.now.tables.lawful.tables)

pub returns : goal.returns
returns c =
    let own = c.args.self.now in
    let b = turn (goal.at.returns c).Start in
    let e = in-at bits_per_row own.layout.now.tables.catalogue.n (number_of own.key) _ b ∙ sym c.row.ensures in
    let m = tables-has (rows_of own) _ own.members _ c.requires in
    (refl, sym e, record { table = b; low = omega (arith, e, m); high = omega (arith, c.row.ensures, own.named.rows _ b) })
