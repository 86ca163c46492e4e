-- The sizes of document 01 and the image's versions, each under its name. Assumes nothing.
use Rattle.std.specs.Prelude.{ℕ}

-- "Attributes m: 1 to 63"
abbrev pub most_attributes : ℕ
most_attributes = 63

-- "Tables n: 1 to 8"
abbrev pub most_tables : ℕ
most_tables = 8

-- Request #110: "6 means above 255 in version 1, above 4,095 in version 2 and in a catalogue".
abbrev pub most_rows : ℕ
most_rows = 4095

abbrev pub most_rows_one : ℕ
most_rows_one = 255

-- "Cells of all tables together: at most 8,192"
abbrev pub most_cells : ℕ
most_cells = 8192

-- "The cell limit stays, so N is now at most 8,192" (#110): a row has a cell.
abbrev pub most_total : ℕ
most_total = most_cells

-- The first number of an image. "Images with a table above 255 rows carry version 2, all others version 1" (#110).
abbrev pub version_one : ℕ
version_one = 1

abbrev pub version_two : ℕ
version_two = 2
