-- What the reader of a number gives, in the theory's terms: a refusal is a number there. Assumes nothing.
use Rattle.std.specs.Prelude.{ℕ, Result, Ok, Err}
use Rattle.refusals.specs.Refusals.{number}
use Rattle.numbers.specs.declared.Number.{Number as Found}
use Rattle.numbers.specs.declared.NumberFault.{NumberFault as Fault}

-- A number and the place behind it, or the refusal (1, 2, 17) that is met in reading it and how many bytes were looked at.
pub data Reading : Type 0 where
  Number : ℕ → ℕ → Reading
  NumberFault : ℕ → ℕ → Reading

-- What the code answers, as a reading.
abbrev pub reading_of : Result Found Fault → Reading
reading_of (Ok found) = Number found.value found.next
reading_of (Err fault) = NumberFault (number fault.refusal) fault.looked
