-- The words in which the two round trips of the image format are stated. The laws stand in proofs/RoundTrip. Assumes nothing.
use Rattle.std.specs.Prelude.{ℕ, ◌-◌, List, ◌++◌, take, replicate}
use Rattle.laws.specs.Lists.{put}
use Rattle.tables.specs.declared.Catalogue.{Catalogue}
use Rattle.tables.specs.Catalogues.{filled, given}
use Rattle.tables.specs.Sizes.{most_tables}
use Rattle.loader.specs.Faults.{Good, Loaded}
use Rattle.loader.specs.Load.{first_table, tables_codes}

-- The first n of eight entries; "entries from n on .. are 0".
unfoldable pub front : ℕ → List ℕ → List ℕ
front n l = take n l ++ replicate (most_tables - n) 0

-- The catalogue as it is "after a load": the entries from n on are 0, and places and masks are filled. Below n a lawful one has the same (`trimmed-stored`).
abbrev pub trimmed : Catalogue → Catalogue
trimmed cat = filled (given cat.m cat.n (front cat.n cat.schemes) (front cat.n cat.rows))

-- The answer of a load that finds these tables.
abbrev pub found : Catalogue → Loaded
found cat = record { verdict = Good; catalogue = cat }

-- What the lent cells hold behind a load that finds these tables in the bytes s.
abbrev pub loaded_cells : Catalogue → List ℕ → List ℕ → List ℕ
loaded_cells cat s lent = put (tables_codes cat.n s first_table) lent
