-- The answers of a reading and of its steps, in the theory's words: refusals are the numbers that the documents give them. And which such answer the code's is.
-- Assumes nothing.
use Rattle.std.specs.Prelude.{ℕ, Option, Some, None, Result, Ok, Err}
use Rattle.refusals.specs.Refusals.{number}
use Rattle.importer.specs.declared.answers.Table.{Table as TableRead}
use Rattle.importer.specs.declared.answers.TextFault.{TextFault}
use Rattle.importer.specs.declared.answers.LineFault.{LineFault}
use Rattle.importer.specs.declared.header.Header.{Header}

-- The answer of a reading: the table's scheme and how many rows it has; or the number of the refusal with its line and field.
pub data TextRead : Type 0 where
  Table : (scheme rows : ℕ) → TextRead
  Refused : (number line field : ℕ) → TextRead

abbrev pub read_in : Result TableRead TextFault → TextRead
read_in (Ok t) = Table t.scheme t.rows
read_in (Err f) = Refused (number f.refusal) f.line f.field

-- What the header gives: the scheme, how many attributes it has and the place of the first row's line; or the refusal's number and field.
pub data Head : Type 0 where
  Rows : (scheme width place : ℕ) → Head
  BadHead : (number field : ℕ) → Head

abbrev pub head_in : Result Header LineFault → Head
head_in (Ok h) = Rows h.scheme h.width h.rows
head_in (Err f) = BadHead (number f.refusal) f.field

-- What a row's line gives: the place of the next line; that there is none here; or the refusal's number and field.
pub data Line : Type 0 where
  Row : (place : ℕ) → Line
  End : Line
  BadLine : (number field : ℕ) → Line

abbrev pub line_in : Result (Option ℕ) LineFault → Line
line_in (Ok (Some n)) = Row n
line_in (Ok None) = End
line_in (Err f) = BadLine (number f.refusal) f.field

-- What all rows' lines give: how many different rows there are, or the refusal's number, line and field.
pub data Collected : Type 0 where
  Kept : (count : ℕ) → Collected
  Faulty : (number line field : ℕ) → Collected

abbrev pub fault_of : TextFault → Collected
fault_of f = Faulty (number f.refusal) f.line f.field

abbrev pub collected_in : Result Unit TextFault → ℕ → Collected
collected_in (Ok u) n = Kept n
collected_in (Err f) n = fault_of f
