-- The answer of a write, as the theory has it, and which one the call's answer is. Assumes nothing.
use Rattle.std.specs.Prelude.{ℕ, Result, Ok, Err}
use Rattle.refusals.specs.declared.Refusal.{Refusal}
use Rattle.refusals.specs.Refusals.{number}

-- The image's length, or the number of the refusal.
pub data Written : Type 0 where
  Length : ℕ → Written
  Refused : ℕ → Written

abbrev pub as_written : Result ℕ Refusal → Written
as_written (Ok n) = Length n
as_written (Err refusal) = Refused (number refusal)
