-- What open and the stream call promise: all that they give, and all that the lent slices then hold, is what crate machine says of them.
-- One equation each, so that no input admits two outcomes. Assumes nothing.
use Rattle.std.specs.Prelude.{ℕ, ◌≡◌, List}
use Rattle.tables.specs.declared.Catalogue.{Catalogue}
use Rattle.machine.specs.Machine.{State, state_for, Says, a_set, finished, working, refused, Called, call}
use Rattle.machine.specs.Machine.{Opened, opening, opening_holding}
use Rattle.disjunction.specs.Asked.{Asked, every_set, every_with}
use Rattle.keys.specs.TwoWords.{number_of}
use Rattle.stream.specs.declared.StreamRecord.{StreamRecord}
use Rattle.stream.specs.declared.Scope.{Scope}
use Rattle.stream.specs.declared.HoldingRecord.{HoldingRecord}
use Rattle.stream.specs.declared.Scope.TheVariants.{Every, With}
use Rattle.stream.specs.Answers.{Answer, Set, Finished, Working, Refused, StepAnswer, HoldingStepAnswer, OpenAnswer, HoldingOpenAnswer}

-- What the code is asked for, as the machine says it.
abbrev pub asked_of : Scope → Asked
asked_of Every = every_set
asked_of (With x) = every_with (record { table = x.table; row = x.row })

-- A stream record with the four lists of its store, as a state of the machine.
abbrev pub state_with : Asked → StreamRecord → List ℕ → List ℕ → List ℕ → List ℕ → State
state_with a s low high left right = state_for a low high left right s.found s.taken s.next_row

-- That of the stream of every set.
abbrev pub state_of : StreamRecord → List ℕ → List ℕ → List ℕ → List ℕ → State
state_of s low high left right = state_with every_set s low high left right

-- What a record that names a row is asked for.
abbrev pub held_by : HoldingRecord → Asked
held_by s = every_with (record { table = s.table; row = s.row })

-- That of the stream of the sets that hold one row, which its record names.
abbrev pub holding_state_of : HoldingRecord → List ℕ → List ℕ → List ℕ → List ℕ → State
holding_state_of s low high left right = state_with (held_by s) s.stream low high left right

-- The paper's word for each answer, with its number for each refusal.
abbrev pub says_of : Answer → Says
says_of Set = a_set
says_of Finished = finished
says_of Working = working
says_of (Refused k) = refused k

-- All that a call gave, with what the lent slices hold after it.
abbrev pub called_with : Asked → StepAnswer → List ℕ → List ℕ → List ℕ → List ℕ → List ℕ → Called
called_with a r low high left right row =
    record {
      says = says_of r.answer;
      key = number_of r.key;
      trials = r.trials;
      tests = r.tests;
      looks = r.looks;
      after = state_with a r.stream low high left right;
      row = row;
    }

-- That of the stream of every set.
abbrev pub called_of : StepAnswer → List ℕ → List ℕ → List ℕ → List ℕ → List ℕ → Called
called_of r low high left right row = called_with every_set r low high left right row

-- That of the stream of the sets that hold the row that its record names.
abbrev pub called_holding : HoldingStepAnswer → List ℕ → List ℕ → List ℕ → List ℕ → List ℕ → Called
called_holding r low high left right row =
    called_with (held_by r.stream)
    (record { answer = r.answer; key = r.key; trials = r.trials; tests = r.tests; looks = r.looks; stream = r.stream.stream })
    low high left right row

-- All that open gave, with what the lent slices hold after it.
abbrev pub opened_with : Asked → OpenAnswer → List ℕ → List ℕ → List ℕ → List ℕ → Opened
opened_with a r low high left right = record { refusal = r.refusal; after = state_with a r.stream low high left right; tests = r.tests }

-- That of the stream of every set.
abbrev pub opened_of : OpenAnswer → List ℕ → List ℕ → List ℕ → List ℕ → Opened
opened_of r low high left right = opened_with every_set r low high left right

-- That of the stream of the sets that hold the row that its record names.
abbrev pub opened_holding : HoldingOpenAnswer → List ℕ → List ℕ → List ℕ → List ℕ → Opened
opened_holding r low high left right =
    opened_with (held_by r.stream) (record { refusal = r.refusal; stream = r.stream.stream; tests = r.tests }) low high left right

-- ---- the promises, a name each

-- Open: all that it gave, and all that the store's lists then hold, is the machine's open.
abbrev pub Opens : Catalogue → List ℕ → List ℕ → List ℕ → List ℕ → List ℕ → OpenAnswer → List ℕ → List ℕ → List ℕ → List ℕ → Type 0
Opens cat cells low high left right r low' high' left' right' = opened_of r low' high' left' right' ≡ opening cat cells low high left right

-- The stream call: all that it gave, counts too, and all that the store's lists and the lent row then hold, is the machine's call.
abbrev pub Steps :
    Catalogue → List ℕ → List ℕ → List ℕ → List ℕ → List ℕ → StreamRecord → ℕ → List ℕ → StepAnswer → List ℕ → List ℕ → List ℕ → List ℕ → List ℕ
    → Type 0
Steps cat cells low high left right s budget row r low' high' left' right' row' =
    called_of r low' high' left' right' row' ≡ call cat cells budget (state_of s low high left right) row

-- Open of the stream of the sets that hold row r of table t.
abbrev pub OpensHolding :
    Catalogue → List ℕ → List ℕ → List ℕ → List ℕ → List ℕ → ℕ → ℕ → HoldingOpenAnswer → List ℕ → List ℕ → List ℕ → List ℕ → Type 0
OpensHolding cat cells low high left right t r o low' high' left' right' =
    opened_holding o low' high' left' right' ≡ opening_holding cat cells (record { table = t; row = r }) low high left right

-- A call of that stream.
abbrev pub StepsHolding :
    Catalogue → List ℕ → List ℕ → List ℕ → List ℕ → List ℕ → HoldingRecord → ℕ → List ℕ → HoldingStepAnswer → List ℕ → List ℕ → List ℕ → List ℕ → List ℕ
    → Type 0
StepsHolding cat cells low high left right s budget row r low' high' left' right' row' =
    called_holding r low' high' left' right' row' ≡ call cat cells budget (holding_state_of s low high left right) row
