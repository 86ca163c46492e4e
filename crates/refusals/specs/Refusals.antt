-- The number of each refusal, as the documents' tables give it: those of document 01, then 16 (#106), 17 (#107), 19 (#104), 20 (#110), 21 (#111) and
-- 22 to 24 (#113). The theory speaks of refusals by these numbers, where 0 stands for none. Assumes nothing.
use Rattle.std.specs.Prelude.{ℕ, Option, Some, None, Result, Ok, Err}
use Rattle.refusals.specs.declared.Refusal.{Refusal}
use Rattle.refusals.specs.declared.Refusal.TheVariants.{EndOfImage, PaddedNumber, UnknownVersion, SizesOut, BadScheme, ManyRows, RowNotRising, ManyCells, Surplus, HighCode, ShortOutput, FullStore, UnfitRecord, DamagedStore, Misstored, EndlessNumber, NoSuchRow, NeedlessVersion, NullRow, BadLine, BadHeader, BadCell}

-- A refusal's number.
abbrev pub number : Refusal → ℕ
number EndOfImage = 1
number PaddedNumber = 2
number UnknownVersion = 3
number SizesOut = 4
number BadScheme = 5
number ManyRows = 6
number RowNotRising = 7
number ManyCells = 8
number Surplus = 9
number HighCode = 10
number ShortOutput = 11
number FullStore = 12
number UnfitRecord = 13
number DamagedStore = 14
number Misstored = 16
number EndlessNumber = 17
number NoSuchRow = 19
number NeedlessVersion = 20
number NullRow = 21
number BadLine = 22
number BadHeader = 23
number BadCell = 24

-- The number of what a test came to: 0 where it let pass.
abbrev pub fault_in : {A : Type 0} → Result A Refusal → ℕ
fault_in (Ok a) = 0
fault_in (Err refusal) = number refusal

-- The same of a refusal that may be none.
abbrev pub number_in : Option Refusal → ℕ
number_in None = 0
number_in (Some refusal) = number refusal
