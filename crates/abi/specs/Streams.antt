-- What the stream's calls from C promise: each is the library's own call, with a stream record as 3 words (5 where it names a row) and the key and the counts of a call as 5. Where a lent
-- slice has fewer words than its call needs, the answer is 31 and nothing changes. Assumes nothing.
use Rattle.std.specs.Prelude.{ℕ, ◌+◌, ◌*◌, ◌≡◌, Bool, cond, ◌||◌, List, [], ◌∷◌, ◌++◌, length, get_or, ltb}
use Rattle.laws.specs.Lists.{put}
use Rattle.machine.specs.Machine.{State, Says, a_set, finished, working, refused, Called, call, Opened, opening, opening_holding}
use Rattle.disjunction.specs.Asked.{Asked, every_set, every_with}
use Rattle.keys.specs.TwoWords.{low_of, high_of}
use Rattle.stream.specs.declared.StreamRecord.{StreamRecord}
use Rattle.stream.specs.declared.HoldingRecord.{HoldingRecord}
use Rattle.stream.specs.Promises.{state_of, holding_state_of}
use Rattle.abi.specs.Words.{catalogue_in}
use Rattle.abi.specs.Calls.{too_few_words, short}

-- ---- a record and a result in words

-- How many words a stream record has.
abbrev pub record_words : ℕ
record_words = 3

-- How many words a record has that names a row.
abbrev pub holding_words : ℕ
holding_words = 5

-- How many words a result has.
abbrev pub result_words : ℕ
result_words = 5

-- Found, taken, next row of a stream record.
abbrev pub words_of_record : StreamRecord → List ℕ
words_of_record s = s.found ∷ (s.taken ∷ (s.next_row ∷ []))

-- The words of a record that names a row: the same, then its table and its number.
abbrev pub words_of_holding : HoldingRecord → List ℕ
words_of_holding s = words_of_record s.stream ++ (s.table ∷ (s.row ∷ []))

-- The words of what is asked for: none for every set, else the table and the row.
abbrev pub words_of_asked : Asked → List ℕ
words_of_asked every_set = []
words_of_asked (every_with s) = s.table ∷ (s.row ∷ [])

-- How many words the record of such a stream has.
abbrev pub words_for : Asked → ℕ
words_for every_set = record_words
words_for (every_with s) = holding_words

-- The words of the record of a state of the machine.
abbrev pub words_of_state : State → List ℕ
words_of_state q = q.store.found ∷ (q.taken ∷ (q.next ∷ words_of_asked q.asked))

-- The record of words, of which those from 3 on are ignored.
abbrev pub record_in : List ℕ → StreamRecord
record_in words = record { found = get_or words 0 0; taken = get_or words 1 0; next_row = get_or words 2 0 }

-- The record of words that names a row, of which those from 5 on are ignored.
abbrev pub holding_in : List ℕ → HoldingRecord
holding_in words = record { stream = record_in words; table = get_or words 3 0; row = get_or words 4 0 }

-- The words of a result: both words of the key, trials, row tests, looks.
abbrev pub result_of : ℕ → ℕ → ℕ → ℕ → ℕ → List ℕ
result_of low high trials tests looks = low ∷ (high ∷ (trials ∷ (tests ∷ (looks ∷ []))))

-- Those of a call of the machine.
abbrev pub result_of_call : Called → List ℕ
result_of_call s = result_of (low_of s.key) (high_of s.key) s.trials s.tests s.looks

-- ---- the numbers that are answered

-- Answer x 32 + refusal, the answers from 0: refused, a set, finished, working.
abbrev pub answer_number : Says → ℕ
answer_number a_set = 32
answer_number finished = 64
answer_number working = 96
answer_number (refused k) = k

-- Row tests x 32 + refusal.
abbrev pub opened_number : Opened → ℕ
opened_number o = o.tests * 32 + o.refusal

-- ---- the calls

-- The lent words are too few: those of a catalogue, or of a record of w words.
unfoldable pub open_short : ℕ → List ℕ → List ℕ → Bool
open_short w catalogue words = short catalogue || ltb (length words) w

-- The same of a stream call, which lends a result too.
unfoldable pub next_short : ℕ → List ℕ → List ℕ → List ℕ → Bool
next_short w catalogue words result = open_short w catalogue words || ltb (length result) result_words

-- What an open o of the machine comes to in the lent slices: its number, the store, and the words of the record; nothing where the words are too few.
pub record Opening (few : Bool) (o : Opened) (low high left right words : List ℕ) (r : ℕ) (low' high' left' right' words' : List ℕ) : Type 0 where
  pub answer : r ≡ cond few too_few_words (opened_number o)
  pub low-after : low' ≡ cond few low o.after.store.low
  pub high_after : high' ≡ cond few high o.after.store.high
  pub left_after : left' ≡ cond few left o.after.store.left
  pub right-after : right' ≡ cond few right o.after.store.right
  pub words-after : words' ≡ cond few words (put (words_of_state o.after) words)

-- What a call s of the machine comes to: its number, the store, the words of the record, the padded row, and the words of the result.
pub record Calling (few : Bool) (s : Called) (low high left right words row result : List ℕ) (r : ℕ) (low' high' left' right' words' row' result' : List ℕ) : Type 0 where
  pub answer : r ≡ cond few too_few_words (answer_number s.says)
  pub low-after : low' ≡ cond few low s.after.store.low
  pub high_after : high' ≡ cond few high s.after.store.high
  pub left_after : left' ≡ cond few left s.after.store.left
  pub right-after : right' ≡ cond few right s.after.store.right
  pub words-after : words' ≡ cond few words (put (words_of_state s.after) words)
  pub row-after : row' ≡ cond few row s.row
  pub result-after : result' ≡ cond few result (put (result_of_call s) result)

-- ---- the promises, a name each

-- harbour_open: the library's open, on what is lent as words.
abbrev pub OpenCall : (catalogue cells low high left right words : List ℕ) (r : ℕ) (low' high' left' right' words' : List ℕ) → Type 0
OpenCall catalogue cells low high left right words =
    Opening (open_short record_words catalogue words) (opening (catalogue_in catalogue) cells low high left right) low high left right words

-- harbour_next: the library's stream call.
abbrev pub NextCall : (catalogue cells low high left right words : List ℕ) (budget : ℕ) (row result : List ℕ)
    (r : ℕ) (low' high' left' right' words' row' result' : List ℕ) → Type 0
NextCall catalogue cells low high left right words budget row result =
    Calling (next_short record_words catalogue words result) (call (catalogue_in catalogue) cells budget (state_of (record_in words) low high left right) row)
    low high left right words row result

-- harbour_open_holding: the library's open of the sets that hold row n of table t.
abbrev pub OpenHoldingCall : (catalogue cells low high left right : List ℕ) (t n : ℕ) (words : List ℕ) (r : ℕ) (low' high' left' right' words' : List ℕ) → Type 0
OpenHoldingCall catalogue cells low high left right t n words =
    Opening (open_short holding_words catalogue words)
    (opening_holding (catalogue_in catalogue) cells (record { table = t; row = n }) low high left right)
    low high left right words

-- harbour_next_holding: the library's call of that stream.
abbrev pub NextHoldingCall : (catalogue cells low high left right words : List ℕ) (budget : ℕ) (row result : List ℕ)
    (r : ℕ) (low' high' left' right' words' row' result' : List ℕ) → Type 0
NextHoldingCall catalogue cells low high left right words budget row result =
    Calling (next_short holding_words catalogue words result)
    (call (catalogue_in catalogue) cells budget (holding_state_of (holding_in words) low high left right) row)
    low high left right words row result
