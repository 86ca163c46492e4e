-- "Entries from n on are ignored when read and are 0 after a load": whatever stands there, open, the stream call and the writer give the same.
-- Proved in proofs/Trimmed. Assumes nothing.
use Rattle.std.specs.Prelude.{ℕ, ◌<◌, ◌≡◌, List, get_or}
use Rattle.tables.specs.declared.Catalogue.{Catalogue}
use Rattle.tables.specs.Catalogues.{scheme_of, count_of, place_in, mask_in}
use Rattle.loader.specs.Faults.{Good, Loaded}
use Rattle.loader.specs.Load.{Loads}
use Rattle.writer.specs.Write.{image_of, written}
use Rattle.image.specs.RoundTrip.{front, trimmed}
use Rattle.disjunction.specs.Asked.{Asked}
use Rattle.machine.specs.Machine.{State, call, opening_for}
use Rattle.claims.specs.Images.{Bytes}

-- A catalogue with other schemes, row counts, places and masks.
abbrev pub entered : Catalogue → List ℕ → List ℕ → List ℕ → List ℕ → Catalogue
entered cat xs cs ps ms = record { m = cat.m; n = cat.n; schemes = xs; rows = cs; places = ps; touching = ms }

-- They are the catalogue's own as far as there are tables.
pub record Agree (cat : Catalogue) (xs cs ps ms : List ℕ) : Type 0 where
  pub schemes : (t : ℕ) → t < cat.n → get_or xs t 0 ≡ scheme_of cat t
  pub rows : (t : ℕ) → t < cat.n → get_or cs t 0 ≡ count_of cat t
  pub places : (t : ℕ) → t < cat.n → get_or ps t 0 ≡ place_in cat t
  pub touching : (t : ℕ) → t < cat.n → get_or ms t 0 ≡ mask_in cat t

-- Of every catalogue, lawful or not.
pub record Ignored : Type 0 where
  pub opens : (cat : Catalogue) (xs cs ps ms : List ℕ) → Agree cat xs cs ps ms → (cells : List ℕ) (a : Asked) (low high left right : List ℕ)
      → opening_for (entered cat xs cs ps ms) cells a low high left right ≡ opening_for cat cells a low high left right
  pub calls : (cat : Catalogue) (xs cs ps ms : List ℕ) → Agree cat xs cs ps ms → (cells : List ℕ) (b : ℕ) (q : State) (row : List ℕ)
      → call (entered cat xs cs ps ms) cells b q row ≡ call cat cells b q row
  pub writes : (cat : Catalogue) (xs cs ps ms : List ℕ) → Agree cat xs cs ps ms → (cells : List ℕ) (room : ℕ)
      → (written (entered cat xs cs ps ms) cells room ≡ written cat cells room) × (image_of (entered cat xs cs ps ms) cells ≡ image_of cat cells)
  -- Zeros from n on are such entries, ..
  pub zeros : (cat : Catalogue) → Agree cat (front cat.n cat.schemes) (front cat.n cat.rows) (front cat.n cat.places) (front cat.n cat.touching)
  -- .. and they are what a load gives.
  pub loads : (s lent after : List ℕ) (r : Loaded) → Bytes s → Loads s lent r after → r.verdict ≡ Good → trimmed r.catalogue ≡ r.catalogue
