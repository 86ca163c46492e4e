-- What the parts of open and of a call promise, in the words of specs/Promises, of what is asked for and of the store in its lent slices. Assumes nothing.
use Rattle.std.specs.Prelude.{ℕ, ◌+◌, ◌<◌, ◌≡◌, Bool, true, List, eqb, Result, Ok, Err}
use Rattle.keys.specs.Keys.{bits_per_row, most_tables, row_of}
use Rattle.refusals.specs.declared.Refusal.{Refusal}
use Rattle.tables.specs.declared.Tables.{Tables}
use Rattle.store.specs.declared.Store.{Store}
use Rattle.disjunction.specs.Asked.{Asked, every_set, every_with}
use Rattle.machine.specs.Machine.{State, Trial, done, full, damaged, trial_on, Called, piled, work, blank}
use Rattle.machine.specs.Machine as machine
use Rattle.stream.specs.declared.StreamRecord.{StreamRecord}
use Rattle.stream.specs.declared.Counts.{Counts}
use Rattle.stream.specs.declared.Stepped.{Stepped}
use Rattle.stream.specs.declared.Opened.{Opened}
use Rattle.stream.specs.declared.Done.{Done}
use Rattle.stream.specs.Answers.{open_answer_of, step_answer_of}
use Rattle.stream.specs.Promises.{state_with, called_with, opened_with}

-- ---- what is asked for

-- A key has room for the table that is asked for.
abbrev pub Reached : Asked → Type 0
Reached every_set = Unit
Reached (every_with s) = s.table < most_tables

-- Whether a key's set is asked for.
abbrev pub key_wanted : Asked → ℕ → Bool
key_wanted every_set key = true
key_wanted (every_with s) key = eqb (row_of bits_per_row key s.table) s.row

-- ---- the stream in a lent store

-- A stream record with its store, as a state of the machine.
abbrev pub stream_in : Asked → StreamRecord → Store → State
stream_in a s q = state_with a s q.low.now q.high.now q.left.now q.right.now

-- All that a call gave, with what the store and the lent row hold after it.
abbrev pub called_in : Asked → Stepped StreamRecord → Store → List ℕ → Called
called_in a r q row = called_with a (step_answer_of r) q.low.now q.high.now q.left.now q.right.now row

-- All that open gave, with what the lent slices hold after it: a record of zeros asks for row 0 of table 0, unless it asks for every set.
abbrev pub opened_for : Asked → Result (Opened StreamRecord) Refusal → List ℕ → List ℕ → List ℕ → List ℕ → machine.Opened
opened_for a (Ok o) low high left right = opened_with a (open_answer_of (Ok o)) low high left right
opened_for a (Err refusal) low high left right = opened_with (blank a) (open_answer_of (Err refusal)) low high left right

-- ---- a trial

-- The number of the refusal that a trial meets.
abbrev pub refused_by : Trial → ℕ
refused_by (done p tests looks) = 0
refused_by full = 12
refused_by damaged = 14

-- A trial that is done has raised next row.
abbrev pub Did : Tables → Asked → StreamRecord → Store → Store → Done → Type 0
Did tables a s q q' d =
    trial_on tables.catalogue tables.cells.now (stream_in a s q)
    ≡ done (stream_in a (record { found = d.found; taken = s.taken; next_row = s.next_row + 1 }) q') d.tests d.looks

-- A refused trial "leaves no mark": the four slices are as they were.
pub record NoMark (q q' : Store) : Type 0 where
  pub low : q'.low.now ≡ q.low.now
  pub high : q'.high.now ≡ q.high.now
  pub left : q'.left.now ≡ q.left.now
  pub right : q'.right.now ≡ q.right.now

-- ---- the end of a call

-- Where next row is N: whatever is asked for and whatever budget is left, with these counts made before.
abbrev pub Ends : Tables → StreamRecord → Counts → Store → List ℕ → Stepped StreamRecord → List ℕ → Type 0
Ends tables s n q row r row' =
    (a : Asked) (b : ℕ) → called_in a r q row' ≡ piled n.trials n.tests n.looks (work tables.catalogue tables.cells.now b (stream_in a s q) row)
