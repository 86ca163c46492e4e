-- A whole trial: the set that is kept, its piece, and the piece's extension are the rule's, one after the other. Assumes nothing.
use Prim.Native.Nat.{ℕ}
use mathlib.Core.Path.{◌≡◌, ap, ◌∙◌}
use mathlib.Core.List.{List}
use Rattle.tables.specs.declared.Catalogue.{Catalogue}
use Rattle.disjunction.specs.Sets.{at}
use Rattle.disjunction.specs.Rule.{Place, dropped, piece, start, extension, trial}
use Rattle.disjunction.proofs.Starting.{dropped-here}
use Rattle.rows.specs.World.{world_of}
use Rattle.rows.specs.Named.{There}
use Rattle.sets.specs.Promises.{Comes}

module _ (cat : Catalogue) (cells T D : List ℕ) (s : Place) (K : D ≡ dropped (world_of cat cells) T s) where
  -- What is kept has the row.
  pub kept_here : There cat s.table s.row → at D s.table ≡ s.row
  kept_here h = ap (λ (X : List ℕ). at X s.table) K ∙ dropped-here (world_of cat cells) T s h.table

  -- Its piece is where the trial starts to grow.
  pub tried : (P : List ℕ) → P ≡ piece (world_of cat cells) D s → (to count : ℕ) → Comes cat (extension (world_of cat cells) P) to count
      → Comes cat (trial (world_of cat cells) T s) to count
  unfolding trial start
  tried P e to count X = rw (e, K) at X
