-- Words for the reading's own steps: the header and a row's line, field by field. What a step gives says, of all that is left to tell, what is told now.
-- Assumes nothing.
use Rattle.std.specs.Prelude.{Result, Ok, Err, ℕ, zero, suc, ◌+◌, ◌-◌, ◌^◌, ◌≤◌, ◌<◌, ◌≡◌, cond, ◌&&◌, List, [], length, drop, ltb, leb, eqb}
use Rattle.tables.specs.Checks.{first_met}
use Rattle.text.specs.declared.Form.TheVariants.{AtStart}
use Rattle.text.specs.Lines.{no_code, lines_from}
use Rattle.text.specs.Reading.{Told, refused, insert, counted, rows_from, headed}
use Rattle.text.specs.Fields.{codes_at}
use Rattle.importer.specs.declared.answers.LineFault.{LineFault}
use Rattle.refusals.specs.declared.Refusal.TheVariants.{BadHeader, BadCell}
use Rattle.importer.specs.Answers.{Head, Rows, BadHead, Line, Row, End, BadLine}

-- ---- the header

-- The first field of the header that is at fault, once its field of code c ends, behind the code `before`; 0 for none.
unfoldable pub head_bad : (m bad field before c : ℕ) → ℕ
head_bad m bad field before c = first_met bad (cond (ltb before c && leb c m) 0 field)

-- The scheme with one attribute more, unless the header is bad.
unfoldable pub scheme_on : (bad x c : ℕ) → ℕ
scheme_on zero x c = x + 2 ^ (c - 1)
scheme_on (suc k) x c = x

-- The header ends: 23 at the field at fault, or the rows.
unfoldable pub head_or : (bad x w n : ℕ) → Head
head_or zero x w n = Rows x w n
head_or (suc k) x w n = BadHead 23 (suc k)

-- The scheme so far as the code holds it: or the first field at fault, where there is one.
unfoldable pub scheme_or : (bad x : ℕ) → Result ℕ LineFault
scheme_or zero x = Ok x
scheme_or (suc k) x = Err (record { refusal = BadHeader; field = suc k })

-- One field more.
abbrev pub Grows : (m field before c : ℕ) → Result ℕ LineFault → Result ℕ LineFault → Type 0
Grows m field before c r next =
    (bad x : ℕ) → r ≡ scheme_or bad x → next ≡ scheme_or (head_bad m bad field before c) (scheme_on (head_bad m bad field before c) x c)

-- What is told of a text whose header is read.
abbrev pub head_told : ℕ → List ℕ → Head → Told
head_told room s (Rows x w n) = rows_from room x w 2 [] (lines_from (drop n s) AtStart 0 [])
head_told room s (BadHead k f) = refused k 1 f

abbrev pub HeadSizes : ℕ → ℕ → Head → Type 0
HeadSizes m end (Rows x w n) = (1 ≤ w) × (w ≤ m) × (1 ≤ n) × (n ≤ end)
HeadSizes m end (BadHead k f) = Unit

-- For every room: what the text tells is what the header gives and the rest tells. Its width and its end are in range.
pub record HeadSays (m : ℕ) (s : List ℕ) (r : Head) : Type 0 where
  pub told : (room : ℕ) → headed m room (lines_from s AtStart 0 []) ≡ head_told room s r
  pub sizes : HeadSizes m (length s) r

-- ---- a row's line

-- The first field of a line whose cell is at fault, once its field of code c ends; 0 for none.
unfoldable pub cells_bad : (bad field c : ℕ) → ℕ
cells_bad bad field c = first_met bad (cond (ltb c no_code) 0 field)

-- Whether all cells so far are good, as the code holds it: or the first that is at fault, where there is one.
unfoldable pub cells_or : (bad : ℕ) → Result Unit LineFault
cells_or zero = Ok tt
cells_or (suc k) = Err (record { refusal = BadCell; field = suc k })

-- A line of w attributes ends in its field of this number: 22 at the first missing field, else 24 at the cell at fault, else a row.
unfoldable pub line_or : (bad n : ℕ) → Line
line_or zero n = Row n
line_or (suc k) n = BadLine 24 (suc k)

unfoldable pub ended_of : (w field bad n : ℕ) → Line
ended_of w field bad n = cond (eqb field w) (line_or bad n) (BadLine 22 (field + 1))

abbrev pub Ends : (w field : ℕ) → Result Unit LineFault → ℕ → Line → Type 0
Ends w field cells n a = (bad : ℕ) → cells ≡ cells_or bad → a ≡ ended_of w field bad n

-- What is told from line l on, behind the rows kept.
abbrev pub line_told : (room x w l : ℕ) → List (List ℕ) → List ℕ → ℕ → Line → Told
line_told room x w l kept s at (Row n) = rows_from room x w (l + 1) (insert (codes_at w s at) kept) (lines_from (drop n s) AtStart 0 [])
line_told room x w l kept s at End = counted room x w kept
line_told room x w l kept s at (BadLine k f) = refused k l f

abbrev pub LineSizes : ℕ → ℕ → Line → Type 0
LineSizes at end (Row n) = (at < n) × (n ≤ end)
LineSizes at end End = Unit
LineSizes at end (BadLine k f) = Unit

-- Of the line of w attributes at a place, for every room, scheme, number and rows before it.
pub record LineSays (w : ℕ) (s : List ℕ) (at : ℕ) (r : Line) : Type 0 where
  pub told : (room x l : ℕ) (kept : List (List ℕ)) → rows_from room x w l kept (lines_from (drop at s) AtStart 0 []) ≡ line_told room x w l kept s at r
  pub sizes : LineSizes at (length s) r
