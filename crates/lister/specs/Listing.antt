-- What the programs print, as one definition from what is asked for and the bytes of standard input to the bytes of standard output, and where a program
-- stands in it: the listing asks for every set, `holding` for those that hold one row. Assumes nothing.
use Rattle.std.specs.Prelude.{ℕ, zero, suc, ◌+◌, ◌-◌, ◌*◌, ◌≤◌, ◌<◌, ◌≡◌, cond, List, [], ◌∷◌, ◌++◌, length, take, replicate, ltb, Option, Some, None}
use Rattle.keys.specs.Keys.{bits_per_row, rows_in}
use Rattle.tables.specs.declared.Catalogue.{Catalogue}
use Rattle.tables.specs.Sizes.{most_attributes, most_tables, most_cells, most_total}
use Rattle.tables.specs.Catalogues.{total}
use Rattle.loader.specs.Faults.{Verdict, Good, Refused}
use Rattle.loader.specs.Load.{first_table, scan_of, tables_codes, cells_after}
use Rattle.disjunction.specs.Asked.{Asked}
use Rattle.machine.specs.Machine.{most_tests, most_looks, State, Says, a_set, finished, working, refused, call, opening_for}
use Rattle.store.specs.declared.Store.{Store}
use Rattle.stream.specs.Promises.{asked_of}
use Rattle.stream.specs.Parts.{stream_in}
use Rattle.lines.specs.declared.Cursor.{Cursor}
use Rattle.lines.specs.Lines.{tables_line, set_line, end_line, refused_line, too_long, set_room}
use Rattle.lister.specs.declared.Standing.{Standing}

-- "Reads at most 65,536 bytes of standard input as an image"; of longer input one byte more is read.
abbrev pub most_input : ℕ
most_input = 65536

-- "Its store of 4,096 records starts as zeros."
abbrev pub most_records : ℕ
most_records = 4096

-- So many zeros.
unfoldable pub blank : ℕ → List ℕ
blank k = replicate k 0

-- A list takes a call for each record of the store, and one for its last line.
abbrev pub most_calls : ℕ
most_calls = most_records + 1

-- No line is longer than the line of a set may be.
abbrev pub most_line : ℕ
most_line = set_room most_tables most_attributes

module _ (cat : Catalogue) where
  -- The line of what a call answered: with the key and the padded row that it gave, the sets taken, and the trials, row tests and looks of all calls.
  abbrev pub line_of : Says → ℕ → List ℕ → ℕ → ℕ → ℕ → ℕ → List ℕ
  line_of a_set key row taken trials tests looks = set_line (rows_in bits_per_row cat.n key) (take cat.m row)
  line_of finished key row taken trials tests looks = end_line (taken ∷ trials ∷ tests ∷ looks ∷ [])
  line_of working key row taken trials tests looks = []
  line_of (refused r) key row taken trials tests looks = refused_line (r ∷ taken ∷ [])

-- How many of k calls are left behind an answer: the last line ends the list.
abbrev pub left_of : Says → ℕ → ℕ
left_of a_set k = k
left_of finished k = 0
left_of working k = k
left_of (refused r) k = 0

-- What follows the line of an answer.
abbrev pub further : Says → List ℕ → List ℕ
further a_set rest = rest
further finished rest = []
further working rest = rest
further (refused r) rest = []

-- The text behind open: where it is refused, the line of its refusal alone.
abbrev pub unless_refused : ℕ → List ℕ → List ℕ
unless_refused zero text = text
unless_refused (suc k) text = refused_line (suc k ∷ [])

module _ (cat : Catalogue) (cells : List ℕ) where
  -- The lines of k calls, each with a budget of N, on the stream q that lends the padded row: behind calls with so many trials, row tests and looks.
  unfoldable pub lines_of : ℕ → State → List ℕ → ℕ → ℕ → ℕ → List ℕ
  lines_of zero q row trials tests looks = []
  lines_of (suc k) q row trials tests looks =
      let s = call cat cells (total cat) q row in
      line_of cat s.says s.key s.row s.after.taken (trials + s.trials) (tests + s.tests) (looks + s.looks)
      ++ further s.says (lines_of k s.after s.row (trials + s.trials) (tests + s.tests) (looks + s.looks))

  -- "First line: `tables`, m, n, N, open's row tests." Then the sets that are asked for, and the last line. A row that is not there has no list.
  unfoldable pub tables_text : Asked → List ℕ
  tables_text a =
      let o = opening_for cat cells a (blank most_records) (blank most_records) (blank most_records) (blank most_records) in
      unless_refused o.refusal
      (tables_line cat.m cat.n (total cat) o.tests ++ lines_of most_calls o.after (blank most_attributes) 0 0 0)

module _ (a : Asked) where
  -- "A refused load prints only `refused`, number, place."
  abbrev pub verdict_text : Verdict → Catalogue → List ℕ → List ℕ
  verdict_text Good cat cells = tables_text cat cells a
  verdict_text (Refused f) cat cells = refused_line (f.refusal ∷ f.place ∷ [])

  -- "It lends 8,192 cells": the text of an image.
  unfoldable pub image_text : List ℕ → List ℕ
  image_text s =
      let r = scan_of s most_cells in
      verdict_text r.verdict r.catalogue (cells_after r.verdict (tables_codes r.catalogue.n s first_table) (blank most_cells))

  -- "Longer input prints only `input too long`." The text of any input.
  unfoldable pub listing_of : List ℕ → List ℕ
  listing_of input = cond (ltb most_input (length input)) too_long (image_text input)

-- ---- where the program stands

-- The store as a list begins with it.
abbrev pub Zeros : Store → Type 0
Zeros s = (s.low.now ≡ blank most_records) × (s.high.now ≡ blank most_records) × (s.left.now ≡ blank most_records) × (s.right.now ≡ blank most_records)

-- How much of the buffer is filled, and where the list stands behind that: nowhere once it has ended.
pub record Lines : Type 0 where
  pub filled : ℕ
  pub more : Option Standing

-- The lines that are still to come from where a list stands, ..
abbrev pub to_come : Standing → Store → List ℕ → List ℕ
to_come p store row =
    lines_of p.tables.catalogue p.tables.cells.now p.calls (stream_in (asked_of p.scope) p.stream store) row p.counts.trials p.counts.tests p.counts.looks

-- .. and none where it has ended.
abbrev pub more_to_come : Option Standing → Store → List ℕ → List ℕ
more_to_come None store row = []
more_to_come (Some p) store row = to_come p store row

-- What the buffer holds and has not been written, and the lines that are still to come.
abbrev pub text_from : Lines → Store → List ℕ → List ℕ → List ℕ
text_from r store row out = take r.filled out ++ more_to_come r.more store row

-- What the buffer is filled with up to a cursor, and where the list stands behind that.
abbrev pub lines_at : Cursor → Option Standing → Lines
lines_at c more = record { filled = c.at; more = more }

-- The calls that are left: none where it has ended.
abbrev pub calls_in : Option Standing → ℕ
calls_in None = 0
calls_in (Some p) = p.calls

-- A list can go on from where it stands: a call is left, the lent row has room for the attributes of its tables, and the counts are those of calls so far.
pub record Ready (p : Standing) (row : List ℕ) : Type 0 where
  pub some : 0 < p.calls
  pub wide : length row ≡ most_attributes
  pub calls : p.calls ≤ most_calls
  pub trials : p.counts.trials ≤ (most_calls - p.calls) * most_total
  pub tests : p.counts.tests ≤ (most_calls - p.calls) * (most_total * most_tests)
  pub looks : p.counts.looks ≤ (most_calls - p.calls) * (most_total * most_looks)

-- The same, unless it has ended.
abbrev pub ReadyUnlessEnded : Option Standing → List ℕ → Type 0
ReadyUnlessEnded None row = Unit
ReadyUnlessEnded (Some p) row = Ready p row

-- A call of the lister gives this text: what the buffer then holds, and the lines that are still to come; and the list can go on.
pub record Gives (text : List ℕ) (r : Lines) (store : Store) (row out : List ℕ) : Type 0 where
  pub same : text_from r store row out ≡ text
  pub filled : r.filled ≤ length out
  pub ready : ReadyUnlessEnded r.more row

-- w has been written, and with what the buffer holds and what is still to come it is the whole text; and the list can go on.
pub record Printing (text w : List ℕ) (r : Lines) (store : Store) (row out : List ℕ) : Type 0 where
  pub whole : w ++ text_from r store row out ≡ text
  pub filled : r.filled ≤ length out
  pub ready : ReadyUnlessEnded r.more row
