-- What open and a call give, in the documents' words: each refusal is its number and 0 is none, a refused open gives zeros, and the key that a call gives
-- is that of no row unless a set is handed out. And what the code's answers say in these words. Assumes nothing.
use Rattle.std.specs.Prelude.{ℕ, Result, Ok, Err}
use Rattle.keys.specs.declared.Key.{Key}
use Rattle.refusals.specs.declared.Refusal.{Refusal}
use Rattle.refusals.specs.Refusals.{number}
use Rattle.stream.specs.declared.StreamRecord.{StreamRecord}
use Rattle.stream.specs.declared.HoldingRecord.{HoldingRecord}
use Rattle.stream.specs.declared.Answer as code
use Rattle.stream.specs.declared.Answer.TheVariants as said
use Rattle.stream.specs.declared.Stepped.{Stepped}
use Rattle.stream.specs.declared.Opened.{Opened}

-- What a call answers: a set, the end, or that its budget is spent; or the number of a refusal.
pub data Answer : Type 0 where
  Set : Answer
  Finished : Answer
  Working : Answer
  Refused : ℕ → Answer

-- All that a call gives: the answer, the key of a set (else that of no row), its trials, row tests and looks, and the record moved on.
pub record StepAnswer : Type 0 where
  pub answer : Answer
  pub key : Key
  pub trials : ℕ
  pub tests : ℕ
  pub looks : ℕ
  pub stream : StreamRecord

-- The same of a stream of the sets that hold one row, which stays the one that its record names.
pub record HoldingStepAnswer : Type 0 where
  pub answer : Answer
  pub key : Key
  pub trials : ℕ
  pub tests : ℕ
  pub looks : ℕ
  pub stream : HoldingRecord

-- All that open gives: the refusal (0 for none), the record, and its row tests.
pub record OpenAnswer : Type 0 where
  pub refusal : ℕ
  pub stream : StreamRecord
  pub tests : ℕ

-- The same of a stream of the sets that hold one row, with the row that its record then names.
pub record HoldingOpenAnswer : Type 0 where
  pub refusal : ℕ
  pub stream : HoldingRecord
  pub tests : ℕ

-- ---- the code's answers

-- The answer of a call, ..
abbrev pub answer_in : code.Answer → Answer
answer_in (said.Set key) = Set
answer_in said.Finished = Finished
answer_in said.Working = Working
answer_in (said.Refused refusal) = Refused (number refusal)

-- .. and its key.
abbrev pub key_in : code.Answer → Key
key_in (said.Set key) = key
key_in said.Finished = record { low = 0; high = 0 }
key_in said.Working = record { low = 0; high = 0 }
key_in (said.Refused refusal) = record { low = 0; high = 0 }

-- All that a call gives.
abbrev pub step_answer_of : Stepped StreamRecord → StepAnswer
step_answer_of r =
    record {
      answer = answer_in r.answer;
      key = key_in r.answer;
      trials = r.counts.trials;
      tests = r.counts.tests;
      looks = r.counts.looks;
      stream = r.stream;
    }

abbrev pub holding_step_answer_of : Stepped HoldingRecord → HoldingStepAnswer
holding_step_answer_of r =
    record {
      answer = answer_in r.answer;
      key = key_in r.answer;
      trials = r.counts.trials;
      tests = r.counts.tests;
      looks = r.counts.looks;
      stream = r.stream;
    }

-- All that open gives: refused, it gives a record of zeros.
abbrev pub zeros : StreamRecord
zeros = record { found = 0; taken = 0; next_row = 0 }

abbrev pub open_answer_of : Result (Opened StreamRecord) Refusal → OpenAnswer
open_answer_of (Ok o) = record { refusal = 0; stream = o.stream; tests = o.tests }
open_answer_of (Err refusal) = record { refusal = number refusal; stream = zeros; tests = 0 }

abbrev pub holding_open_answer_of : Result (Opened HoldingRecord) Refusal → HoldingOpenAnswer
holding_open_answer_of (Ok o) = record { refusal = 0; stream = o.stream; tests = o.tests }
holding_open_answer_of (Err refusal) = record { refusal = number refusal; stream = record { stream = zeros; table = 0; row = 0 }; tests = 0 }
