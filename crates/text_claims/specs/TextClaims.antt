-- What is claimed of a reading and of a write, in document 02's words: each refusal exactly where its condition is the first to hold, with its line and
-- field; what is read; that no input admits two outcomes; and that a write refuses as the image writer does. Proved in proofs/. Assumes nothing.
use Rattle.std.specs.Prelude.{ℕ, ◌*◌, ◌≤◌, ◌≡◌, ◌↔◌, true, List, ◌∷◌, length, take, replicate}
use Rattle.std.specs.Int.Count.{ones}
use Rattle.laws.specs.Lists.{put}
use Rattle.tables.specs.declared.Catalogue.{Catalogue}
use Rattle.tables.specs.Sizes.{most_rows_one, version_one}
use Rattle.tables.specs.Catalogues.{filled, given}
use Rattle.tables.specs.Checks.{first_met, catalogue_fault}
use Rattle.writer.specs.Write.{rows_fault, write_fault as image_fault}
use Rattle.text.specs.Reading.{flat}
use Rattle.text.specs.Refusals.{FirstFault, ReadWhole, WriteFault, TablePasses, RowsPass}
use Rattle.text.specs.Writing.{text_of, cut, write_fault}
use Rattle.importer.specs.Answers.{TextRead, Table, Refused}
use Rattle.importer.specs.Promise.{ReadsText}
use Rattle.exporter.specs.TextWritten.{TextWritten, Length, Refused as Unwritten}
use Rattle.exporter.specs.Promise.{WritesText}

-- Of a reading of the bytes s with m attributes into the lent cells.
pub record ReadExactly (m : ℕ) (s lent : List ℕ) (r : TextRead) (after : List ℕ) : Type 0 where
  pub refuses : (k l f : ℕ) → (r ≡ Refused k l f) ↔ FirstFault m (length lent) s k l f
  pub accepts : (x n : ℕ) → (r ≡ Table x n) ↔ ((rows : List (List ℕ)) × ReadWhole m (length lent) s x rows × (n ≡ length rows))
  -- "A refusal writes nothing."
  pub nothing : (k l f : ℕ) → r ≡ Refused k l f → after ≡ lent
  pub filled : (x : ℕ) (rows : List (List ℕ)) → ReadWhole m (length lent) s x rows → after ≡ put (flat rows) lent

-- Of a write of a table into the lent bytes.
pub record WriteExactly (m x count : ℕ) (cells lent : List ℕ) (r : TextWritten) (after : List ℕ) : Type 0 where
  pub refuses : (k : ℕ) → (r ≡ Unwritten k) ↔ WriteFault m x count cells (length lent) k
  pub nothing : (k : ℕ) → r ≡ Unwritten k → after ≡ lent
  pub written : (n : ℕ) → r ≡ Length n
      → TablePasses m x count (length cells) × RowsPass (cut count (ones x) cells) × (n ≡ length (text_of m x (cut count (ones x) cells)))
      × (after ≡ put (text_of m x (cut count (ones x) cells)) lent)

-- No input admits two outcomes.
pub record OneReading : Type 0 where
  pub answer : (m : ℕ) (s lent : List ℕ) (r q : TextRead) (a b : List ℕ) → ReadsText m s lent r a → ReadsText m s lent q b → r ≡ q
  pub cells : (m : ℕ) (s lent : List ℕ) (r q : TextRead) (a b : List ℕ) → ReadsText m s lent r a → ReadsText m s lent q b → a ≡ b

pub record OneWriting : Type 0 where
  pub answer : (m x n : ℕ) (cells lent : List ℕ) (r q : TextWritten) (a b : List ℕ) → WritesText m x n cells lent r a → WritesText m x n cells lent q b → r ≡ q
  pub bytes : (m x n : ℕ) (cells lent : List ℕ) (r q : TextWritten) (a b : List ℕ) → WritesText m x n cells lent r a → WritesText m x n cells lent q b → a ≡ b

-- "reading that gives the same table": the bytes of a write, read into cells that have room.
pub record ComesBack (m x count : ℕ) (cells lent : List ℕ) (r : TextRead) (after : List ℕ) : Type 0 where
  pub answer : r ≡ Table x count
  pub cells_are : after ≡ put (take (count * ones x) cells) lent

-- ---- "The text writer refuses a table as the image writer refuses one table alone, 21 aside"

-- The table as it is said, and the catalogue of it alone.
abbrev pub said_alone : ℕ → ℕ → ℕ → Catalogue
said_alone m x count = given m 1 (x ∷ replicate 7 0) (count ∷ replicate 7 0)

abbrev pub alone : ℕ → ℕ → ℕ → Catalogue
alone m x count = filled (said_alone m x count)

pub record SameRefusals (m x count : ℕ) (cells : List ℕ) : Type 0 where
  -- The two refuse alike, or the image writer gives 21.
  pub aside : (image_fault (alone m x count) cells ≡ 21 → ⊥) → write_fault m x count cells ≡ image_fault (alone m x count) cells
  -- It gives 21 for no table of at most 255 rows, so those are refused alike.
  pub short : count ≤ most_rows_one → write_fault m x count cells ≡ image_fault (alone m x count) cells
  -- Whatever it gives, the text writer's tests are the image writer's, of the catalogue and then of the rows, but that no row is 21, as in version 1.
  pub tests : write_fault m x count cells
      ≡ first_met (catalogue_fault (alone m x count) (length cells)) (rows_fault count (ones x) cells version_one true 0 0)
