-- Worked examples, computed by the definitions: what #113 and READINGS name, and the orders between the refusals. Assumes nothing.
use mathlib.Core.Path.{◌≡◌, refl}
use mathlib.Core.List.{[], ◌∷◌}
use lib.Count.{ones}
use Rattle.tables.specs.Rows.{below}
use Rattle.lines.specs.Decimals.{decimal}
use Rattle.tables.specs.Checks.{bad_scheme}
use Rattle.text.specs.Lines.{lines_from, kind_of, is_digit, code_on}
use Rattle.text.specs.Reading.{table, refused, header_fault, scheme_from, cell_fault, insert, counted, rows_from, headed, read_of}
use Rattle.text.specs.Writing.{cell_text, rest_text, line_text, lines_text, attribute_codes, text_of, cut, too_high, rows_fault, all_fault, table_fault, write_fault, wrote, unwritten, write_of}

-- Empty text: ``
pub empty-text : read_of 2 8192 ([]) ≡ refused 23 1 1
unfolding read_of headed rows_from counted header_fault scheme_from cell_fault insert below lines_from kind_of is_digit code_on
empty-text = refl

-- An empty first line: `\r\n`
pub empty-first-line : read_of 2 8192 (0x0D ∷ 0x0A ∷ []) ≡ refused 23 1 1
unfolding read_of headed rows_from counted header_fault scheme_from cell_fault insert below lines_from kind_of is_digit code_on
empty-first-line = refl

-- `0` alone: `0`
pub header-alone : read_of 2 8192 (0x30 ∷ []) ≡ table 1 ([])
unfolding read_of headed rows_from counted header_fault scheme_from cell_fault insert below lines_from kind_of is_digit code_on
header-alone = refl

-- An empty line, one attribute: `0\r\n\r\n`
pub null-row : read_of 2 8192 (0x30 ∷ 0x0D ∷ 0x0A ∷ 0x0D ∷ 0x0A ∷ []) ≡ table 1 ((0 ∷ []) ∷ [])
unfolding read_of headed rows_from counted header_fault scheme_from cell_fault insert below lines_from kind_of is_digit code_on
null-row = refl

-- An empty line, two attributes: `0,1\r\n\r\n`
pub empty-line : read_of 2 8192 (0x30 ∷ 0x2C ∷ 0x31 ∷ 0x0D ∷ 0x0A ∷ 0x0D ∷ 0x0A ∷ []) ≡ refused 22 2 2
unfolding read_of headed rows_from counted header_fault scheme_from cell_fault insert below lines_from kind_of is_digit code_on
empty-line = refl

-- A quoted cell: `0\r\n"1"\r\n`
pub quoted-cell : read_of 2 8192 (0x30 ∷ 0x0D ∷ 0x0A ∷ 0x22 ∷ 0x31 ∷ 0x22 ∷ 0x0D ∷ 0x0A ∷ []) ≡ table 1 ((2 ∷ []) ∷ [])
unfolding read_of headed rows_from counted header_fault scheme_from cell_fault insert below lines_from kind_of is_digit code_on
quoted-cell = refl

-- A leading zero: `0\r\n01\r\n`
pub leading-zero : read_of 2 8192 (0x30 ∷ 0x0D ∷ 0x0A ∷ 0x30 ∷ 0x31 ∷ 0x0D ∷ 0x0A ∷ []) ≡ refused 24 2 1
unfolding read_of headed rows_from counted header_fault scheme_from cell_fault insert below lines_from kind_of is_digit code_on
leading-zero = refl

-- The largest value: `0\r\n9223372036854775806\r\n`
pub largest : read_of 2 8192 (0x30 ∷ 0x0D ∷ 0x0A ∷ 0x39 ∷ 0x32 ∷ 0x32 ∷ 0x33 ∷ 0x33 ∷ 0x37 ∷ 0x32 ∷ 0x30 ∷ 0x33 ∷ 0x36 ∷ 0x38 ∷ 0x35 ∷ 0x34 ∷ 0x37 ∷ 0x37 ∷ 0x35 ∷ 0x38 ∷ 0x30 ∷ 0x36 ∷ 0x0D ∷ 0x0A ∷ []) ≡ table 1 ((9223372036854775807 ∷ []) ∷ [])
unfolding read_of headed rows_from counted header_fault scheme_from cell_fault insert below lines_from kind_of is_digit code_on
largest = refl

-- One more: `0\r\n9223372036854775807\r\n`
pub too_large : read_of 2 8192 (0x30 ∷ 0x0D ∷ 0x0A ∷ 0x39 ∷ 0x32 ∷ 0x32 ∷ 0x33 ∷ 0x33 ∷ 0x37 ∷ 0x32 ∷ 0x30 ∷ 0x33 ∷ 0x36 ∷ 0x38 ∷ 0x35 ∷ 0x34 ∷ 0x37 ∷ 0x37 ∷ 0x35 ∷ 0x38 ∷ 0x30 ∷ 0x37 ∷ 0x0D ∷ 0x0A ∷ []) ≡ refused 24 2 1
unfolding read_of headed rows_from counted header_fault scheme_from cell_fault insert below lines_from kind_of is_digit code_on
too_large = refl

-- A lone LF: `0\n1\n`
pub lone-lf : read_of 2 8192 (0x30 ∷ 0x0A ∷ 0x31 ∷ 0x0A ∷ []) ≡ refused 22 1 1
unfolding read_of headed rows_from counted header_fault scheme_from cell_fault insert below lines_from kind_of is_digit code_on
lone-lf = refl

-- A quoted comma is one field: `0\r\n"1,2"\r\n`
pub quoted-comma : read_of 2 8192 (0x30 ∷ 0x0D ∷ 0x0A ∷ 0x22 ∷ 0x31 ∷ 0x2C ∷ 0x32 ∷ 0x22 ∷ 0x0D ∷ 0x0A ∷ []) ≡ refused 24 2 1
unfolding read_of headed rows_from counted header_fault scheme_from cell_fault insert below lines_from kind_of is_digit code_on
quoted-comma = refl

-- 22 before 24 on a line, and before 24 of a later field: `0,1\r\nx\r\n`
pub wrong-number-first : read_of 2 8192 (0x30 ∷ 0x2C ∷ 0x31 ∷ 0x0D ∷ 0x0A ∷ 0x78 ∷ 0x0D ∷ 0x0A ∷ []) ≡ refused 22 2 2
unfolding read_of headed rows_from counted header_fault scheme_from cell_fault insert below lines_from kind_of is_digit code_on
wrong-number-first = refl

-- A surplus field: `0,1\r\nx,1,2\r\n`
pub surplus : read_of 2 8192 (0x30 ∷ 0x2C ∷ 0x31 ∷ 0x0D ∷ 0x0A ∷ 0x78 ∷ 0x2C ∷ 0x31 ∷ 0x2C ∷ 0x32 ∷ 0x0D ∷ 0x0A ∷ []) ≡ refused 22 2 3
unfolding read_of headed rows_from counted header_fault scheme_from cell_fault insert below lines_from kind_of is_digit code_on
surplus = refl

-- A quote never closed: `0,1\r\n1,"2\r\n3,4\r\n`
pub open-quote : read_of 2 8192 (0x30 ∷ 0x2C ∷ 0x31 ∷ 0x0D ∷ 0x0A ∷ 0x31 ∷ 0x2C ∷ 0x22 ∷ 0x32 ∷ 0x0D ∷ 0x0A ∷ 0x33 ∷ 0x2C ∷ 0x34 ∷ 0x0D ∷ 0x0A ∷ []) ≡ refused 22 2 2
unfolding read_of headed rows_from counted header_fault scheme_from cell_fault insert below lines_from kind_of is_digit code_on
open-quote = refl

-- A line break in quotes begins no line: `0\r\n"1\r\n2"\r\n`
pub quoted-break : read_of 2 8192 (0x30 ∷ 0x0D ∷ 0x0A ∷ 0x22 ∷ 0x31 ∷ 0x0D ∷ 0x0A ∷ 0x32 ∷ 0x22 ∷ 0x0D ∷ 0x0A ∷ []) ≡ refused 24 2 1
unfolding read_of headed rows_from counted header_fault scheme_from cell_fault insert below lines_from kind_of is_digit code_on
quoted-break = refl

-- A header that does not rise: `1,0\r\n`
pub falling-header : read_of 2 8192 (0x31 ∷ 0x2C ∷ 0x30 ∷ 0x0D ∷ 0x0A ∷ []) ≡ refused 23 1 2
unfolding read_of headed rows_from counted header_fault scheme_from cell_fault insert below lines_from kind_of is_digit code_on
falling-header = refl

-- An attribute that is not below m: `0,2\r\n`
pub high-attribute : read_of 2 8192 (0x30 ∷ 0x2C ∷ 0x32 ∷ 0x0D ∷ 0x0A ∷ []) ≡ refused 23 1 2
unfolding read_of headed rows_from counted header_fault scheme_from cell_fault insert below lines_from kind_of is_digit code_on
high-attribute = refl

-- Rows in order, repeats once: `0\r\n5\r\n3\r\n5\r\n\r\n`
pub in_order_lem : read_of 2 8192 (0x30 ∷ 0x0D ∷ 0x0A ∷ 0x35 ∷ 0x0D ∷ 0x0A ∷ 0x33 ∷ 0x0D ∷ 0x0A ∷ 0x35 ∷ 0x0D ∷ 0x0A ∷ 0x0D ∷ 0x0A ∷ []) ≡ table 1 ((0 ∷ []) ∷ (4 ∷ []) ∷ (6 ∷ []) ∷ [])
unfolding read_of headed rows_from counted header_fault scheme_from cell_fault insert below lines_from kind_of is_digit code_on
in_order_lem = refl

-- The last line without its CRLF: `0,1\r\n7,`
pub unended : read_of 2 8192 (0x30 ∷ 0x2C ∷ 0x31 ∷ 0x0D ∷ 0x0A ∷ 0x37 ∷ 0x2C ∷ []) ≡ table 3 ((8 ∷ 0 ∷ []) ∷ [])
unfolding read_of headed rows_from counted header_fault scheme_from cell_fault insert below lines_from kind_of is_digit code_on
unended = refl

-- 8 by a short lent slice
pub short-slice : read_of 2 3 (0x30 ∷ 0x2C ∷ 0x31 ∷ 0x0D ∷ 0x0A ∷ 0x31 ∷ 0x2C ∷ 0x32 ∷ 0x0D ∷ 0x0A ∷ 0x31 ∷ 0x2C ∷ 0x33 ∷ 0x0D ∷ 0x0A ∷ 0x31 ∷ 0x2C ∷ 0x32 ∷ 0x0D ∷ 0x0A ∷ []) ≡ refused 8 0 0
unfolding read_of headed rows_from counted header_fault scheme_from cell_fault insert below lines_from kind_of is_digit code_on
short-slice = refl

-- and two rows that fit, once the repeat is dropped
pub just-fits : read_of 2 4 (0x30 ∷ 0x2C ∷ 0x31 ∷ 0x0D ∷ 0x0A ∷ 0x31 ∷ 0x2C ∷ 0x32 ∷ 0x0D ∷ 0x0A ∷ 0x31 ∷ 0x2C ∷ 0x33 ∷ 0x0D ∷ 0x0A ∷ 0x31 ∷ 0x2C ∷ 0x32 ∷ 0x0D ∷ 0x0A ∷ []) ≡ table 3 ((2 ∷ 3 ∷ []) ∷ (2 ∷ 4 ∷ []) ∷ [])
unfolding read_of headed rows_from counted header_fault scheme_from cell_fault insert below lines_from kind_of is_digit code_on
just-fits = refl

-- 4 before all
pub bad-m : read_of 64 0 ([]) ≡ refused 4 0 0
unfolding read_of headed rows_from counted header_fault scheme_from cell_fault insert below lines_from kind_of is_digit code_on
bad-m = refl

-- One attribute and a null row: `0\r\n\r\n`
pub written-null : write_of 1 1 1 (0 ∷ []) 9 ≡ wrote (0x30 ∷ 0x0D ∷ 0x0A ∷ 0x0D ∷ 0x0A ∷ [])
unfolding write_of write_fault table_fault all_fault rows_fault too_high cut text_of attribute_codes lines_text line_text rest_text cell_text decimal ones bad_scheme below
written-null = refl

-- Two attributes, two rows: `0,2\r\n,0\r\n9223372036854775806,\r\n`
pub written-two : write_of 3 5 2 (0 ∷ 1 ∷ 9223372036854775807 ∷ 0 ∷ []) 100 ≡ wrote (0x30 ∷ 0x2C ∷ 0x32 ∷ 0x0D ∷ 0x0A ∷ 0x2C ∷ 0x30 ∷ 0x0D ∷ 0x0A ∷ 0x39 ∷ 0x32 ∷ 0x32 ∷ 0x33 ∷ 0x33 ∷ 0x37 ∷ 0x32 ∷ 0x30 ∷ 0x33 ∷ 0x36 ∷ 0x38 ∷ 0x35 ∷ 0x34 ∷ 0x37 ∷ 0x37 ∷ 0x35 ∷ 0x38 ∷ 0x30 ∷ 0x36 ∷ 0x2C ∷ 0x0D ∷ 0x0A ∷ [])
unfolding write_of write_fault table_fault all_fault rows_fault too_high cut text_of attribute_codes lines_text line_text rest_text cell_text decimal ones bad_scheme below
written-two = refl

-- A byte short: refusal 11
pub written-short : write_of 1 1 1 (0 ∷ []) 4 ≡ unwritten 11
unfolding write_of write_fault table_fault all_fault rows_fault too_high cut text_of attribute_codes lines_text line_text rest_text cell_text decimal ones bad_scheme below
written-short = refl

-- 10 before 7: refusal 10
pub written-high : write_of 1 1 2 (5 ∷ 9223372036854775808 ∷ []) 100 ≡ unwritten 10
unfolding write_of write_fault table_fault all_fault rows_fault too_high cut text_of attribute_codes lines_text line_text rest_text cell_text decimal ones bad_scheme below
written-high = refl

-- A row that does not rise: refusal 7
pub written-falling : write_of 1 1 2 (5 ∷ 5 ∷ []) 100 ≡ unwritten 7
unfolding write_of write_fault table_fault all_fault rows_fault too_high cut text_of attribute_codes lines_text line_text rest_text cell_text decimal ones bad_scheme below
written-falling = refl
