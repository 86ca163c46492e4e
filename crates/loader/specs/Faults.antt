-- What the loader's steps and the loader itself say, in the theory's terms, where a refusal is its number (see refusals); and what of it the code's
-- answers are. Assumes nothing.
use Rattle.std.specs.Prelude.{ℕ, Result, Ok, Err}
use Rattle.refusals.specs.Refusals.{number}
use Rattle.numbers.specs.declared.Number.{Number}
use Rattle.tables.specs.declared.Catalogue.{Catalogue}
use Rattle.loader.specs.declared.Fault.{Fault as FaultMet}
use Rattle.loader.specs.declared.Table.{Table as TableRead}

-- Why an image is refused: the number of the refusal, its place, and how many bytes of a number that is at fault by itself were looked at, else 0.
pub record Fault : Type 0 where
  pub refusal : ℕ
  pub place : ℕ
  pub looked : ℕ

-- The place that a walk came to, or its fault.
pub data Walk : Type 0 where
  To : ℕ → Walk
  WalkFault : Fault → Walk

-- A number of the image's head and the place behind it, or its fault.
pub data Field : Type 0 where
  Value : ℕ → ℕ → Field
  FieldFault : Fault → Field

-- A table's scheme, its row count, the cells with it and the place behind it, or its fault.
pub data Entry : Type 0 where
  Table : ℕ → ℕ → ℕ → ℕ → Entry
  TableFault : Fault → Entry

-- What the loader says of an image: good, or its first fault.
pub data Verdict : Type 0 where
  Good : Verdict
  Refused : Fault → Verdict

-- The answer of a load: the verdict, and the catalogue, which is all zeros where the image is refused.
pub record Loaded : Type 0 where
  pub verdict : Verdict
  pub catalogue : Catalogue

-- ---- the code's answers

abbrev pub fault_of : FaultMet → Fault
fault_of f = record { refusal = number f.refusal; place = f.place; looked = f.looked }

abbrev pub walk_of : Result ℕ FaultMet → Walk
walk_of (Ok n) = To n
walk_of (Err f) = WalkFault (fault_of f)

abbrev pub field_of : Result Number FaultMet → Field
field_of (Ok x) = Value x.value x.next
field_of (Err f) = FieldFault (fault_of f)

abbrev pub table_of : Result TableRead FaultMet → Entry
table_of (Ok t) = Table t.scheme t.rows t.used t.next
table_of (Err f) = TableFault (fault_of f)
