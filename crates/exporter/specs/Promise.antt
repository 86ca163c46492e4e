-- What a write of a table as text promises: "Also write a table as such text .. then gives 11. A refusal writes nothing." Assumes nothing.
use Rattle.std.specs.Prelude.{ℕ, ◌/◌, ◌≡◌, List, length}
use Rattle.std.specs.Int.Count.{ones}
use Rattle.text.specs.Writing.{cut, text_of, Wrote, wrote, unwritten, write_of, output_after}
use Rattle.exporter.specs.TextWritten.{TextWritten, Length, Refused}

-- The text of a table whose cells are just these.
abbrev pub text_in : ℕ → ℕ → List ℕ → List ℕ
text_in m scheme cells = text_of m scheme (cut (length cells / ones scheme) (ones scheme) cells)

-- The text's length, or the number of the refusal.
abbrev pub answer_of : Wrote → TextWritten
answer_of (wrote text) = Length (length text)
answer_of (unwritten number) = Refused number

-- The answer of a write into the lent bytes, and what these hold then.
pub record WritesText (m scheme count : ℕ) (cells lent : List ℕ) (r : TextWritten) (after : List ℕ) : Type 0 where
  pub answer : r ≡ answer_of (write_of m scheme count cells (length lent))
  pub bytes : after ≡ output_after (write_of m scheme count cells (length lent)) lent
