-- A catalogue and its cells as the tables of the rule (document 01, 'Sizes' and 'Row sets'), and a key as a set of their rows.
-- What follows from these stands in proofs/WorldLaws and proofs/NamedLaws. Assumes nothing.
use Rattle.std.specs.Prelude.{ℕ, Bool, List, []}
use Rattle.words.specs.Words.{bit_of}
use Rattle.keys.specs.Keys.{bits_per_row, rows_in}
use Rattle.tables.specs.declared.Catalogue.{Catalogue}
use Rattle.tables.specs.Catalogues.{scheme_of, count_of, code_of}
use Rattle.tables.specs.declared.Row.{Row}
use Rattle.disjunction.specs.Sets.{Tables}
use Rattle.disjunction.specs.Rule.{Place}
use Rattle.disjunction.specs.Cells.{Cells, sharing, matching}

-- "A scheme is a mask: bit a stands for attribute a." A row's code of an attribute is where the catalogue says.
abbrev pub cells_in : Catalogue → List ℕ → Cells
cells_in cat cells =
    record {
      m = cat.m;
      n = cat.n;
      count = λ t. count_of cat t;
      has = λ t a. bit_of (scheme_of cat t) a;
      cell = λ t r a. code_of cat cells t r a;
    }

-- Two tables touch; no cell has a say in it.
unfoldable pub touches_in : Catalogue → ℕ → ℕ → Bool
touches_in cat t u = sharing (cells_in cat []) t u

-- Two rows are consistent.
unfoldable pub fits_in : Catalogue → List ℕ → ℕ → ℕ → ℕ → ℕ → Bool
fits_in cat cells t r u q = matching (cells_in cat cells) t r u q

-- The tables of the rule. They are those of `cells_in` (`world-tables`), with both tests under a name that stays shut.
abbrev pub world_of : Catalogue → List ℕ → Tables
world_of cat cells = record { n = cat.n; count = λ t. count_of cat t; touches = touches_in cat; fits = fits_in cat cells }

-- The set of a key.
abbrev pub set_of : Catalogue → ℕ → List ℕ
set_of cat key = rows_in bits_per_row cat.n key

-- A row of the catalogue, as one of the rule.
abbrev pub place_of : Row → Place
place_of x = record { table = x.table; row = x.row }
