-- What a reading of a table from text promises: "#113 Read one table from it .. A refusal writes nothing." Assumes nothing.
use Rattle.std.specs.Prelude.{ℕ, ◌≡◌, List, length}
use Rattle.text.specs.Reading.{Told, table, refused, read_of, cells_after}
use Rattle.importer.specs.Answers.{TextRead, Table, Refused}

-- A table by its scheme and how many rows it has, or a refusal with line and field.
abbrev pub answer_of : Told → TextRead
answer_of (table scheme rows) = Table scheme (length rows)
answer_of (refused number line field) = Refused number line field

-- What is told, as an answer, and what the lent cells hold then.
pub record Tells (t : Told) (lent : List ℕ) (r : TextRead) (after : List ℕ) : Type 0 where
  pub answer : r ≡ answer_of t
  pub cells : after ≡ cells_after t lent

-- A reading of the bytes s into the lent cells.
abbrev pub ReadsText : (m : ℕ) (s lent : List ℕ) → TextRead → List ℕ → Type 0
ReadsText m s lent r after = Tells (read_of m (length lent) s) lent r after
