-- The padded row of a set, by its key (document 01, 'Row sets'). What follows from it stands in proofs/PaddingLaws. Assumes nothing.
use Rattle.std.specs.Prelude.{ℕ, Bool, List, []}
use Rattle.tables.specs.declared.Catalogue.{Catalogue}
use Rattle.disjunction.specs.Cells.{gives, padded}
use Rattle.rows.specs.World.{cells_in, set_of}

-- Table t is a member with attribute a; no cell has a say in it.
unfoldable pub gives_in : Catalogue → ℕ → ℕ → ℕ → Bool
gives_in cat key a t = gives (cells_in cat []) (set_of cat key) a t

-- "The padded row has for each attribute below m the code from the lowest-numbered member table with that attribute, and 0 where there is none.
-- Cells from m on stay."
unfoldable pub padded_row : Catalogue → List ℕ → ℕ → List ℕ
padded_row cat cells key = padded (cells_in cat cells) (set_of cat key)
