-- The thin calls' answer and the record that each left, read as the answer of the by-value call; and their promises. Assumes nothing.
use Rattle.std.specs.Prelude.{ℕ, List}
use Rattle.tables.specs.declared.Catalogue.{Catalogue}
use Rattle.stream.specs.declared.StreamRecord.{StreamRecord}
use Rattle.stream.specs.declared.HoldingRecord.{HoldingRecord}
use Rattle.stream.specs.Answers.{Answer, StepAnswer, HoldingStepAnswer, answer_in, key_in}
use Rattle.stream.specs.Promises.{Steps, StepsHolding}
use Rattle.keys.specs.declared.Key.{Key}
use Rattle.harbour.specs.declared.NextAnswer as code

-- What the thin call answers: the answer, the key of a set (else that of no row), its trials, row tests and looks.
pub record NextAnswer : Type 0 where
  pub answer : Answer
  pub key : Key
  pub trials : ℕ
  pub tests : ℕ
  pub looks : ℕ

-- That of the code's answer.
abbrev pub next_answer_of : code.NextAnswer → NextAnswer
next_answer_of r =
    record { answer = answer_in r.answer; key = key_in r.answer; trials = r.counts.trials; tests = r.counts.tests; looks = r.counts.looks }

-- What the thin call answered, with the record as the call left it, is what the by-value call answers.
abbrev pub with_record : NextAnswer → StreamRecord → StepAnswer
with_record r s = record { answer = r.answer; key = r.key; trials = r.trials; tests = r.tests; looks = r.looks; stream = s }

-- The same of the stream of the sets that hold one row.
abbrev pub with_holding : NextAnswer → HoldingRecord → HoldingStepAnswer
with_holding r s = record { answer = r.answer; key = r.key; trials = r.trials; tests = r.tests; looks = r.looks; stream = s }

-- The thin call: s is the record that was lent, and s' what it holds afterwards.
abbrev pub Nexts :
    Catalogue → List ℕ → List ℕ → List ℕ → List ℕ → List ℕ → StreamRecord → ℕ → List ℕ → NextAnswer → StreamRecord → List ℕ → List ℕ → List ℕ → List ℕ
    → List ℕ → Type 0
Nexts cat cells low high left right s budget row r s' low' high' left' right' row' =
    Steps cat cells low high left right s budget row (with_record r s') low' high' left' right' row'

-- That of the stream of the sets that hold one row.
abbrev pub NextsHolding :
    Catalogue → List ℕ → List ℕ → List ℕ → List ℕ → List ℕ → HoldingRecord → ℕ → List ℕ → NextAnswer → HoldingRecord → List ℕ → List ℕ → List ℕ → List ℕ
    → List ℕ → Type 0
NextsHolding cat cells low high left right s budget row r s' low' high' left' right' row' =
    StepsHolding cat cells low high left right s budget row (with_holding r s') low' high' left' right' row'
