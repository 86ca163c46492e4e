-- The answer of a write, as the theory has it, and which one the call's answer is. Assumes nothing.
use Rattle.std.specs.Prelude.{ℕ, Result, Ok, Err}
use Rattle.refusals.specs.declared.Refusal.{Refusal}
use Rattle.refusals.specs.Refusals.{number}

-- The text's length, or the number of the refusal.
pub data TextWritten : Type 0 where
  Length : ℕ → TextWritten
  Refused : ℕ → TextWritten

abbrev pub as_text_written : Result ℕ Refusal → TextWritten
as_text_written (Ok n) = Length n
as_text_written (Err refusal) = Refused (number refusal)
