-- The stream as document 01 words it ('The stream's own rule', 'Stream call', 'Open'): its record and store, a trial on them, all that a call gives,
-- and what open gives. The tables are a catalogue and its cells. Calls one after the other are in specs/Runs, what follows in proofs/. Assumes nothing.
use Rattle.std.specs.Prelude.{ℕ, zero, suc, ◌+◌, ◌-◌, ◌*◌, ◌≤◌, ◌<◌, ◌≡◌, Bool, false, not, cond, ◌&&◌, ◌||◌, List, length, ltb, eqb}
use Rattle.laws.specs.Lists.{put}
use Rattle.keys.specs.Keys.{bits_per_row, key_of}
use Rattle.tables.specs.Sizes.{most_tables, most_total}
use Rattle.tables.specs.declared.Catalogue.{Catalogue}
use Rattle.tables.specs.Catalogues.{total}
use Rattle.tables.specs.Checks.{first_met, catalogue_fault}
use Rattle.disjunction.specs.Rule.{Place, Grown, row_at, extension, alone, trial}
use Rattle.disjunction.specs.Asked.{Asked, every_set, every_with, wanted, first_for}
use Rattle.disjunction.specs.Cells.{padded}
use Rattle.rows.specs.World.{cells_in, world_of, set_of}
use Rattle.rows.specs.Named.{named, There, rows_there}
use Rattle.store.specs.Store as stores
use Rattle.store.specs.Store.{Store, store_in, room_in, search_of, filed, answer_of, store_after}
use Rattle.store.specs.Looks.{Placed, Known, Added, Full, Broken}

-- ---- the state

-- "One stream record per open stream ..: found, taken, next row", and the four lists of the store. Found stands in the store. A stream's record
-- also says what is asked for: every set, or those that hold the row that it names.
pub record State : Type 0 where
  pub store : Store
  pub taken : ℕ
  pub next : ℕ
  pub asked : Asked

-- The state of the four lists and the three numbers, of a stream that is asked for a.
abbrev pub state_for : Asked → List ℕ → List ℕ → List ℕ → List ℕ → ℕ → ℕ → ℕ → State
state_for a low high left right found taken next = record { store = store_in low high left right found; taken = taken; next = next; asked = a }

-- That of the stream of every set.
abbrev pub state_in : List ℕ → List ℕ → List ℕ → List ℕ → ℕ → ℕ → ℕ → State
state_in low high left right found taken next = state_for every_set low high left right found taken next

-- The key of record p.
abbrev pub key_at : State → ℕ → ℕ
key_at q p = stores.key_at q.store p

-- ---- a trial

-- What a trial comes to: the state after it, its row tests and its looks; or refusal 12, or 14.
pub data Trial : Type 0 where
  done : State → ℕ → ℕ → Trial
  full : Trial
  damaged : Trial

-- "Do the trial .., and raise next row": r is the store after it.
abbrev pub raised : State → Store → State
raised q r = record { store = r; taken = q.taken; next = q.next + 1; asked = q.asked }

-- By what the store made of the key that was offered.
unfoldable pub placed : State → ℕ → Placed → Store → Trial
placed q tests (Known looks) r = done (raised q r) tests looks
placed q tests (Added looks) r = done (raised q r) tests looks
placed q tests Full r = full
placed q tests Broken r = damaged

-- "Search. If absent, the key becomes the next record ..; if no record is free, 12", in a store that turns by `deepest` bits.
unfoldable pub offered : ℕ → State → ℕ → ℕ → Trial
offered deepest q key tests =
    let a = search_of q.store key deepest in placed q tests (answer_of q.store a) (store_after q.store key a)

-- "A trial whose extended set lacks the row makes no search" (#109): no look is made, and the store stays.
abbrev pub offered_if : Bool → ℕ → State → ℕ → ℕ → Trial
offered_if b deepest q key tests = cond b (offered deepest q key tests) (done (raised q q.store) tests 0)

-- "8n + 1 becomes 12n + 1" (#110): that look is the last one, and 12n bits turn a search.
abbrev pub deepest : Catalogue → ℕ
deepest cat = bits_per_row * cat.n

-- No trial has more row tests and looks, nor open more row tests: there are at most 8 tables and, since a row has a cell, 8,192 rows (#110).
abbrev pub most_tests : ℕ
most_tests = most_tables * most_total

abbrev pub most_looks : ℕ
most_looks = bits_per_row * most_tables + 1

module _ (cat : Catalogue) (cells : List ℕ) where
  -- The set that the trial at hand comes to, with its row tests: "the trial of the row at place next row (row order, from 0) on the set in record
  -- taken - 1".
  abbrev pub trial_due : State → Grown
  trial_due q = trial (world_of cat cells) (set_of cat (key_at q (q.taken - 1))) (row_at (world_of cat cells) q.next)

  -- The trial. "14 is met when a used record's key is 0 or names a missing row or a table from n on (tested when handed out or tried on)."
  unfoldable pub trial_on : State → Trial
  trial_on q =
      cond (named cat (key_at q (q.taken - 1)))
      (offered_if (wanted q.asked (trial_due q).rows) (deepest cat) q (key_of bits_per_row (trial_due q).rows) (trial_due q).tests)
      damaged

-- ---- what a call gives

-- Its answer.
pub data Says : Type 0 where
  a_set : Says
  finished : Says
  working : Says
  refused : ℕ → Says

-- "It gives its trials, row tests and looks", the key that is handed out, the stream moved on, and what the lent padded row then holds.
pub record Called : Type 0 where
  pub says : Says
  pub key : ℕ
  pub trials : ℕ
  pub tests : ℕ
  pub looks : ℕ
  pub after : State
  pub row : List ℕ

-- An answer without a trial, in state q. "Only *set* writes the padded row; otherwise the key given is 0."
abbrev pub answer : Says → State → List ℕ → Called
answer a q row = record { says = a; key = 0; trials = 0; tests = 0; looks = 0; after = q; row = row }

-- One more trial, with its row tests and looks, counted before the rest of the call.
abbrev pub counted : ℕ → ℕ → Called → Called
counted t l s =
    record {
      says = s.says;
      key = s.key;
      trials = suc s.trials;
      tests = t + s.tests;
      looks = l + s.looks;
      after = s.after;
      row = s.row;
    }

-- a trials, t row tests and l looks that were made before what s gives.
abbrev pub piled : ℕ → ℕ → ℕ → Called → Called
piled a t l s =
    record {
      says = s.says;
      key = s.key;
      trials = a + s.trials;
      tests = t + s.tests;
      looks = l + s.looks;
      after = s.after;
      row = s.row;
    }

-- "12 and 14 may then be met at work: trials done before stand, the failing trial leaves no mark, and neither it nor its row tests and looks are
-- counted."
abbrev pub after_trial : Trial → State → List ℕ → (State → Called) → Called
after_trial (done p t l) q row go = counted t l (go p)
after_trial full q row go = answer (refused 12) q row
after_trial damaged q row go = answer (refused 14) q row

-- "Raise taken, set next row to 0."
abbrev pub taken_of : State → State
taken_of q = record { store = q.store; taken = q.taken + 1; next = 0; asked = q.asked }

-- The key of the record that is handed out next.
abbrev pub key_due : State → ℕ
key_due q = key_at q q.taken

-- ---- the refusals before work

-- "No such table or row" (#109: 19 at open, 13 in a record). It is not met where every set is asked for.
abbrev pub stray : Catalogue → Asked → Bool
stray cat every_set = false
stray cat (every_with s) = eqb s.row 0 || ltb (rows_there cat s.table) s.row

-- What it is for the row asked for to be there (`stray-iff`).
abbrev pub Askable : Catalogue → Asked → Type 0
Askable cat every_set = Unit
Askable cat (every_with s) = There cat s.table s.row

-- "13 is met when found passes the store, taken passes found, next row passes N, taken is 0 with next row not N, or found is 0 with N above 0 or above
-- 0 with N = 0", and "also if its record names no such row" (#109).
unfoldable pub unfit : Catalogue → State → Bool
unfit cat q =
    stray cat q.asked
    || ltb (room_in q.store) q.store.found
    || ltb q.store.found q.taken
    || ltb (total cat) q.next
    || (eqb q.taken 0 && not (eqb q.next (total cat)))
    || (eqb q.store.found 0 && ltb 0 (total cat))
    || (ltb 0 q.store.found && eqb (total cat) 0)

-- What a stream that fits is known to be (`unfit-iff`).
pub record Fit (cat : Catalogue) (q : State) : Type 0 where
  pub room : q.store.found ≤ room_in q.store
  pub taken : q.taken ≤ q.store.found
  pub next : q.next ≤ total cat
  pub begun : q.taken ≡ 0 → q.next ≡ total cat
  pub some : 0 < total cat → 0 < q.store.found
  pub none : total cat ≡ 0 → q.store.found ≡ 0
  pub asked : Askable cat q.asked

-- "Stream call checks the catalogue as open does, then 13, then 11 (padded row shorter than m)." 0 stands for none.
unfoldable pub call_fault : Catalogue → ℕ → State → List ℕ → ℕ
call_fault cat lent q row =
    first_met (catalogue_fault cat lent)
    (cond (unfit cat q) 13
    (cond (ltb (length row) cat.m) 11
    0))

-- "These change nothing." "With every refusal before work the counts are 0."
abbrev pub unless_met : ℕ → State → List ℕ → Called → Called
unless_met zero q row other = other
unless_met (suc k) q row other = answer (refused (suc k)) q row

-- ---- a call

module _ (cat : Catalogue) (cells : List ℕ) where
  -- The lent row with a set's padded row in its front. "Cells from m on stay."
  abbrev pub padded_in : ℕ → List ℕ → List ℕ
  padded_in key row = put (padded (cells_in cat cells) (set_of cat key)) row

  -- "Hand out record `taken` with its padded row, raise taken, set next row to 0 and answer *set*", unless 14 is met.
  unfoldable pub hand_out : State → List ℕ → Called
  hand_out q row =
      cond (named cat (key_due q))
      (record { says = a_set; key = key_due q; trials = 0; tests = 0; looks = 0; after = taken_of q; row = padded_in (key_due q) row })
      (answer (refused 14) q row)

  -- "If next row is N, hand out ..; or, if taken is found, answer *finished*. Else .."
  unfoldable pub due_or : State → List ℕ → Called → Called
  due_or q row other = cond (eqb q.next (total cat)) (cond (eqb q.taken q.store.found) (answer finished q row) (hand_out q row)) other

  -- "It repeats: ..; else, if the budget is spent, answer *working*; else do the trial." The number is the budget that is left.
  unfoldable pub work : ℕ → State → List ℕ → Called
  work zero q row = due_or q row (answer working q row)
  work (suc b) q row = due_or q row (after_trial (trial_on cat cells q) q row (λ p. work b p row))

  -- "A call has a budget of trials", here b; q is the stream, and `row` the padded row that is lent.
  unfoldable pub call : ℕ → State → List ℕ → Called
  call b q row = unless_met (call_fault cat (length cells) q row) q row (work b q row)

-- ---- open

-- "A record of zeros": a record that names a row then names row 0 of table 0.
abbrev pub blank : Asked → Asked
blank every_set = every_set
blank (every_with s) = every_with (record { table = 0; row = 0 })

-- It, and lists as they were lent.
abbrev pub zeros : Asked → List ℕ → List ℕ → List ℕ → List ℕ → State
zeros a low high left right = state_for (blank a) low high left right 0 0 0

-- What open gives: its refusal, 0 for none, the stream, and its row tests.
pub record Opened : Type 0 where
  pub refusal : ℕ
  pub after : State
  pub tests : ℕ

-- "Open checks the catalogue (4; then table by table 5, 6, 8)," 19 "after open's catalogue checks and before 12" (#109), "then 12 if N is above 0 and
-- the store has no record." 0 stands for none.
unfoldable pub open_fault : Catalogue → ℕ → Asked → Store → ℕ
open_fault cat lent a store =
    first_met (catalogue_fault cat lent)
    (cond (stray cat a) 19
    (cond (ltb 0 (total cat) && eqb (room_in store) 0) 12
    0))

-- "Refused, it gives a record of zeros and writes nothing."
abbrev pub unless_refused : ℕ → State → Opened → Opened
unless_refused zero q other = other
unless_refused (suc k) q other = record { refusal = suc k; after = q; tests = 0 }

module _ (cat : Catalogue) (cells : List ℕ) (a : Asked) where
  -- The first row, or the row asked for, alone and extended.
  abbrev pub first_grown : Grown
  first_grown = extension (world_of cat cells) (alone (world_of cat cells) (first_for (world_of cat cells) a))

  -- "Open with N above 0 extends the first row alone, stores it as record 0 with both links 0 and gives found 1, taken 0, next row N. With N = 0 all
  -- three are 0. Open also gives its row tests."
  unfoldable pub begun : List ℕ → List ℕ → List ℕ → List ℕ → Opened
  begun low high left right =
      cond (eqb (total cat) 0)
      (record { refusal = 0; after = state_for a low high left right 0 0 0; tests = 0 })
      (record {
        refusal = 0;
        after = record { store = filed (store_in low high left right 0) (key_of bits_per_row first_grown.rows); taken = 0; next = total cat; asked = a };
        tests = first_grown.tests;
      })

  -- Open of a stream that is asked for a, on the four lists that are lent.
  unfoldable pub opening_for : List ℕ → List ℕ → List ℕ → List ℕ → Opened
  opening_for low high left right =
      unless_refused (open_fault cat (length cells) a (store_in low high left right 0)) (zeros a low high left right) (begun low high left right)

module _ (cat : Catalogue) (cells : List ℕ) where
  -- Open, for every set.
  abbrev pub opening : List ℕ → List ℕ → List ℕ → List ℕ → Opened
  opening low high left right = opening_for cat cells every_set low high left right

  -- "Add a stream that starts by extending that row alone" (#109). Its calls are those of any stream: `call`.
  abbrev pub opening_holding : Place → List ℕ → List ℕ → List ℕ → List ℕ → Opened
  opening_holding s low high left right = opening_for cat cells (every_with s) low high left right
