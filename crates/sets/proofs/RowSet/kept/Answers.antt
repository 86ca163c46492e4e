-- `sets::RowSet::kept` meets its contract: the row comes in, and the rows that have to go are taken (`gone-dropped`). Assumes nothing.
use Prim.Native.Nat.{ℕ, ◌^◌}
use mathlib.Core.Path.{◌≡◌, refl, sym, ap, ◌∙◌}
use mathlib.Core.List.{List}
use lib.ListN.{length}
use borrow.Author.Tests.{eq-eqb}
use Rattle.laws.proofs.TestLaws.{or_right}
use Rattle.words.specs.Words.{bit_of}
use Rattle.keys.specs.Keys.{bits_per_row}
use Rattle.keys.specs.TwoWords.{number_of}
use Rattle.keys.proofs.SetLaws.{in-length}
use Rattle.rows.specs.World.{place_of}
use Rattle.sets.specs.Promises.{lacking}
use Rattle.sets.specs.Layouts.{rows_of}
use Rattle.sets.proofs.MaskLaws.{bit-with}
use Rattle.sets.proofs.Dropping.{gone-under, gone-dropped, parts-own}
use Rattle.sets.proofs.RowSet.kept.Goals.{Start}
use Rattle.sets.proofs.RowSet.kept.Goals as goal

long : (s : Start) → length (rows_of s.args.self.now) ≡ s.args.self.now.layout.now.tables.catalogue.n
long s = in-length bits_per_row _ (number_of s.args.self.now.key)

pub without-requires-clause-own : goal.without-requires-clause-own
without-requires-clause-own c =
    let s = c.args.self.now in
    let t = s.layout.now.tables in
    rw c.with.ensures.tables
    (gone-under t.catalogue t.cells.now _ t.lawful (rows_of s) (long (goal.at.without-requires-clause-own c).Start) (place_of c.args.x) c.requires _ s.members _ c.parted.ensures _)

-- the row of x stays
pub without-requires-clause-stays : goal.without-requires-clause-stays
without-requires-clause-stays c =
    let s = c.args.self.now in
    let x = c.args.x.table in
    (x, rw c.with.ensures.tables (bit-with s.tables x (2 ^ x) x refl ∙ or_right (bit_of s.tables x) (eq-eqb x x refl)), c.parted.ensures x ∙ parts-own _ _ _ x refl)

pub returns-clause-rows : goal.returns-clause-rows
returns-clause-rows c =
    let s = c.args.self.now in
    let t = s.layout.now.tables in
    c.without.ensures.rows ∙ ap (λ (X : List ℕ). lacking X c.parted.result) c.with.ensures.rows
    ∙ sym (gone-dropped t.catalogue t.cells.now _ t.lawful (rows_of s) (long (goal.at.returns-clause-rows c).Start) (place_of c.args.x) c.requires _ s.members _ c.parted.ensures)
