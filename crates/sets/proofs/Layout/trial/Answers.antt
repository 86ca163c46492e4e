-- `sets::Layout::trial` meets its contract: its calls are the rule's three steps (`tried`), each in this layout. Assumes nothing.
use Prim.Native.Nat.{ℕ}
use mathlib.Core.Path.{◌≡◌, ◌∙◌}
use mathlib.Core.List.{List}
use Rattle.keys.specs.TwoWords.{number_of}
use Rattle.disjunction.specs.Rule.{Place, dropped, piece, extension}
use Rattle.rows.specs.World.{set_of, place_of}
use Rattle.sets.specs.declared.Layout.{Layout}
use Rattle.sets.specs.Promises.{Comes}
use Rattle.sets.specs.Layouts.{world, rows_of}
use Rattle.sets.proofs.Trials.{kept_here, tried}
use Rattle.sets.proofs.Layout.trial.Goals.{After-kept}
use Rattle.sets.proofs.Layout.trial.Goals as goal

-- the rows that are kept
kept : (c : After-kept)
    → rows_of c.kept.result ≡ dropped (world c.args.self.now) (set_of c.args.self.now.tables.catalogue (number_of c.args.key)) (place_of c.args.row)
kept c = rw (c.set.ensures.0, c.set.ensures.1) at c.kept.ensures.rows

-- what holds in one layout holds in the same one
piece-same : (l m : Layout) (D P : List ℕ) (s : Place) → m ≡ l → P ≡ piece (world m) D s → P ≡ piece (world l) D s
piece-same l m D P s e h = rw e at h

comes-same : (l m : Layout) (P : List ℕ) (to count : ℕ) → m ≡ l → Comes m.tables.catalogue (extension (world m) P) to count
    → Comes l.tables.catalogue (extension (world l) P) to count
comes-same l m P to count e h = rw e at h

pub piece-requires-clause-here : goal.piece-requires-clause-here
piece-requires-clause-here c =
    let t = c.args.self.now.tables in
    kept_here t.catalogue t.cells.now _ _ (place_of c.args.row) (kept (goal.at.piece-requires-clause-here c).After-kept) c.requires.1

pub returns : goal.returns
returns c =
    let s = c.args.self.now in
    let e = c.kept.ensures.layout ∙ c.set.ensures.0 in
    tried s.tables.catalogue s.tables.cells.now _ _ (place_of c.args.row) (kept (goal.at.returns c).After-kept) _
    (piece-same s _ (rows_of c.kept.result) (rows_of c.piece.result) _ e c.piece.ensures.rows) _ _
    (comes-same s _ (rows_of c.piece.result) _ _ (c.piece.ensures.layout ∙ e) c.extended.ensures)
