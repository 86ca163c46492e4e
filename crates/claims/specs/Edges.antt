-- "The items marked P below form one list under one claim, shown from the definitions." The list, in document 01's order; proofs/Edged proves it.
-- Assumes nothing.
use Rattle.std.specs.Prelude.{ℕ, ◌≡◌, false, List, [], ◌∷◌, length, replicate}
use Rattle.laws.specs.Lists.{put}
use Rattle.tables.specs.declared.Catalogue.{Catalogue}
use Rattle.tables.specs.Catalogues.{filled, given}
use Rattle.tables.specs.Sample.{sample_bytes, three, three_cells}
use Rattle.tables.specs.Sizes.{most_cells}
use Rattle.rows.specs.World.{fits_in}
use Rattle.loader.specs.Faults.{Loaded}
use Rattle.loader.specs.Load.{first_table, scan_of, tables_codes, Loads}
use Rattle.image.specs.RoundTrip.{found}
use Rattle.image.specs.Edges.{NumberEdges, ImageEdges, VersionEdges, NullEdges}
use Rattle.machine.specs.Machine.{Says, a_set, finished, Called, call, opening}
use Rattle.machine.specs.Runs.{Given, run_of, handed}

-- A call with a budget of two trials, which lends a padded row of one cell.
abbrev pub two_trials : Given
two_trials = record { budget = 2; row = 0 ∷ [] }

-- The calls of a stream on what an image loads to, in the 8,192 lent cells as the load leaves them, and in a store of four records that starts as zeros.
unfoldable pub calls_on : List ℕ → List Given → List Called
calls_on image gs =
    let cat = (scan_of image most_cells).catalogue in
    let cells = put (tables_codes cat.n image first_table) (replicate most_cells 0) in
    run_of (call cat cells) gs (opening cat cells (replicate 4 0) (replicate 4 0) (replicate 4 0) (replicate 4 0)).after

-- What calls answer.
unfoldable pub says_in : List Called → List Says
says_in [] = []
says_in (s ∷ l) = s.says ∷ says_in l

-- Two tables over the one attribute 0, each with one row.
abbrev pub pair : Catalogue
pair = filled (given 1 2 (1 ∷ 1 ∷ replicate 6 0) (1 ∷ 1 ∷ replicate 6 0))

-- The list.
pub record Edges : Type 0 where
  pub numbers : NumberEdges
  pub images : ImageEdges
  -- Those that #110 moves and adds.
  pub versions : VersionEdges
  -- And those of #111.
  pub nulls : NullEdges
  -- "P `01 01 01 01 00`, good, N = 0, finished at once."
  pub at_once : says_in (calls_on (0x01 ∷ 0x01 ∷ 0x01 ∷ 0x01 ∷ 0x00 ∷ []) (two_trials ∷ [])) ≡ finished ∷ []
  -- "P `01 01 01 01 01 00`, good, one null row, one set."
  pub one_set : says_in (calls_on (0x01 ∷ 0x01 ∷ 0x01 ∷ 0x01 ∷ 0x01 ∷ 0x00 ∷ []) (two_trials ∷ two_trials ∷ [])) ≡ a_set ∷ finished ∷ []
  pub its-key : handed (calls_on (0x01 ∷ 0x01 ∷ 0x01 ∷ 0x01 ∷ 0x01 ∷ 0x00 ∷ []) (two_trials ∷ two_trials ∷ [])) ≡ 1 ∷ []
  -- "P Values 10 and 4,294,967,306 are not consistent." A cell's code is its value plus 1.
  pub values-whole : fits_in pair (11 ∷ 4294967307 ∷ []) 0 1 1 1 ≡ false
  -- "P Null and null are not."
  pub nulls-apart : fits_in pair (0 ∷ 0 ∷ []) 0 1 1 1 ≡ false

-- "Input, 25 bytes": a load of it into 8,192 cells finds the sample's tables, on which the crates below compute, and puts their cells in front of the others.
abbrev pub SampleLoads : Type 0
SampleLoads =
    (lent after : List ℕ) (r : Loaded) → length lent ≡ most_cells → Loads sample_bytes lent r after → (r ≡ found three) × (after ≡ put three_cells lent)
