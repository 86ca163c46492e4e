-- The contracts of `harbour` say of each answer what it is in the paper's words, through a map (`loaded_of`, `open_answer_of` ..). Here: no such map takes
-- two answers to one. For each answer is read back from its image, since nothing of it is left out and a number names its refusal. Assumes nothing.
use Prim.Native.Nat.{ℕ}
use mathlib.Core.Path.{◌≡◌, refl, sym, ap, ◌∙◌}
use Rattle.std.specs.Prelude.{Option, None, Some, Result, Ok, Err}
use Rattle.refusals.specs.declared.Refusal.{Refusal}
use Rattle.refusals.proofs.RefusalLaws.{named, named-none, named-number}
use Rattle.keys.specs.declared.Key.{Key}
use Rattle.tables.specs.declared.Catalogue.{Catalogue}
use Rattle.tables.specs.Catalogues.{no_tables}
use Rattle.tables.specs.Checks.{Made, made_of}
use Rattle.loader.specs.declared.Fault.{Fault as FaultMet}
use Rattle.loader.specs.Faults as faults
use Rattle.loader.specs.Faults.{Fault, Verdict, Loaded, fault_of}
use Rattle.loader.specs.Load.{loaded_of}
use Rattle.writer.specs.Written as written
use Rattle.writer.specs.Written.{Written, as_written}
use Rattle.stream.specs.declared.StreamRecord.{StreamRecord}
use Rattle.stream.specs.declared.HoldingRecord.{HoldingRecord}
use Rattle.stream.specs.declared.Counts.{Counts}
use Rattle.stream.specs.declared.Opened.{Opened}
use Rattle.stream.specs.declared.Stepped.{Stepped}
use Rattle.stream.specs.declared.Answer as code
use Rattle.stream.specs.declared.Answer.TheVariants as said
use Rattle.stream.specs.Answers.{Answer, Set, Finished, Working, Refused, OpenAnswer, StepAnswer, HoldingOpenAnswer, HoldingStepAnswer, answer_in, key_in, zeros, open_answer_of, holding_open_answer_of, step_answer_of, holding_step_answer_of}
use Rattle.harbour.specs.declared.NextAnswer as thin
use Rattle.harbour.specs.Answers.{NextAnswer, next_answer_of}
use Rattle.hub.specs.declared.ListVerdict as listed
use Rattle.hub.specs.declared.ListVerdict.TheVariants as verdicts
use Rattle.hub.specs.Answers as told
use Rattle.hub.specs.Answers.{ListVerdict, told_of}

-- Two things that are read back from their images are one where these are.
back-one : {A B : Type 0} (image : A → B) (back : B → A) → ((a : A) → back (image a) ≡ a) → (a a' : A) → image a ≡ image a' → a ≡ a'
back-one image back law a a' e = sym (law a) ∙ ap back e ∙ law a'

-- The refusal that a number names, or else this answer.
abbrev refused_or : {A : Type 0} → A → Option Refusal → Result A Refusal
refused_or a None = Ok a
refused_or a (Some refusal) = Err refusal

-- ---- the image

-- The answer behind a verdict and a catalogue.
abbrev fault_or : Catalogue → Fault → Option Refusal → Result Catalogue FaultMet
fault_or cat f None = Ok cat
fault_or cat f (Some refusal) = Err (record { refusal = refusal; place = f.place; looked = f.looked })

abbrev load_back : Verdict → Catalogue → Result Catalogue FaultMet
load_back faults.Good cat = Ok cat
load_back (faults.Refused f) cat = fault_or cat f (named f.refusal)

load-read : (r : Result Catalogue FaultMet) → load_back (loaded_of r).verdict (loaded_of r).catalogue ≡ r
load-read (Ok cat) = refl
load-read (Err f) = ap (fault_or no_tables (fault_of f)) (named-number f.refusal)

pub loaded-one : (r r' : Result Catalogue FaultMet) → loaded_of r ≡ loaded_of r' → r ≡ r'
loaded-one = back-one loaded_of (λ (x : Loaded). load_back x.verdict x.catalogue) load-read

-- That of tables made by hand.
make-read : (r : Result Catalogue Refusal) → refused_or (made_of r).catalogue (named (made_of r).refusal) ≡ r
make-read (Ok cat) = ap (refused_or cat) named-none
make-read (Err refusal) = ap (refused_or no_tables) (named-number refusal)

pub made-one : (r r' : Result Catalogue Refusal) → made_of r ≡ made_of r' → r ≡ r'
made-one = back-one made_of (λ (x : Made). refused_or x.catalogue (named x.refusal)) make-read

-- That of a write.
abbrev write_back : Written → Result ℕ Refusal
write_back (written.Length n) = Ok n
write_back (written.Refused k) = refused_or 0 (named k)

write-read : (r : Result ℕ Refusal) → write_back (as_written r) ≡ r
write-read (Ok n) = refl
write-read (Err refusal) = ap (refused_or 0) (named-number refusal)

pub written-one : (r r' : Result ℕ Refusal) → as_written r ≡ as_written r' → r ≡ r'
written-one = back-one as_written write_back write-read

-- ---- the stream

-- That of open, and of a stream of the sets that hold one row.
abbrev open_back : OpenAnswer → Result (Opened StreamRecord) Refusal
open_back o = refused_or (record { stream = o.stream; tests = o.tests }) (named o.refusal)

open-read : (r : Result (Opened StreamRecord) Refusal) → open_back (open_answer_of r) ≡ r
open-read (Ok o) = ap (refused_or o) named-none
open-read (Err refusal) = ap (refused_or (record { stream = zeros; tests = 0 })) (named-number refusal)

pub opened-one : (r r' : Result (Opened StreamRecord) Refusal) → open_answer_of r ≡ open_answer_of r' → r ≡ r'
opened-one = back-one open_answer_of open_back open-read

abbrev open_holding_back : HoldingOpenAnswer → Result (Opened HoldingRecord) Refusal
open_holding_back o = refused_or (record { stream = o.stream; tests = o.tests }) (named o.refusal)

open-holding-read : (r : Result (Opened HoldingRecord) Refusal) → open_holding_back (holding_open_answer_of r) ≡ r
open-holding-read (Ok o) = ap (refused_or o) named-none
open-holding-read (Err refusal) = ap (refused_or (record { stream = record { stream = zeros; table = 0; row = 0 }; tests = 0 })) (named-number refusal)

pub opened-holding-one : (r r' : Result (Opened HoldingRecord) Refusal) → holding_open_answer_of r ≡ holding_open_answer_of r' → r ≡ r'
opened-holding-one = back-one holding_open_answer_of open_holding_back open-holding-read

-- What a call says and its key tell its answer.
abbrev said_or : Option Refusal → code.Answer
said_or None = said.Finished
said_or (Some refusal) = said.Refused refusal

abbrev answer_back : Answer → Key → code.Answer
answer_back Set key = said.Set key
answer_back Finished key = said.Finished
answer_back Working key = said.Working
answer_back (Refused k) key = said_or (named k)

answer-read : (a : code.Answer) → answer_back (answer_in a) (key_in a) ≡ a
answer-read (said.Set key) = refl
answer-read said.Finished = refl
answer-read said.Working = refl
answer-read (said.Refused refusal) = ap said_or (named-number refusal)

-- All that a call gives, by its answer; then the by-value calls and the thin one.
abbrev stepped : {R : Type 0} → Counts → R → code.Answer → Stepped R
stepped counts stream answer = record { answer = answer; counts = counts; stream = stream }

abbrev step_back : StepAnswer → Stepped StreamRecord
step_back r = stepped (record { trials = r.trials; tests = r.tests; looks = r.looks }) r.stream (answer_back r.answer r.key)

pub stepped-one : (r r' : Stepped StreamRecord) → step_answer_of r ≡ step_answer_of r' → r ≡ r'
stepped-one = back-one step_answer_of step_back (λ (r : Stepped StreamRecord). ap (stepped r.counts r.stream) (answer-read r.answer))

abbrev step_holding_back : HoldingStepAnswer → Stepped HoldingRecord
step_holding_back r = stepped (record { trials = r.trials; tests = r.tests; looks = r.looks }) r.stream (answer_back r.answer r.key)

pub stepped-holding-one : (r r' : Stepped HoldingRecord) → holding_step_answer_of r ≡ holding_step_answer_of r' → r ≡ r'
stepped-holding-one = back-one holding_step_answer_of step_holding_back (λ (r : Stepped HoldingRecord). ap (stepped r.counts r.stream) (answer-read r.answer))

abbrev thinly : Counts → code.Answer → thin.NextAnswer
thinly counts answer = record { answer = answer; counts = counts }

abbrev next_back : NextAnswer → thin.NextAnswer
next_back r = thinly (record { trials = r.trials; tests = r.tests; looks = r.looks }) (answer_back r.answer r.key)

pub next-one : (r r' : thin.NextAnswer) → next_answer_of r ≡ next_answer_of r' → r ≡ r'
next-one = back-one next_answer_of next_back (λ (r : thin.NextAnswer). ap (thinly r.counts) (answer-read r.answer))

-- ---- the list

abbrev list_back : ListVerdict → Result listed.ListVerdict Refusal
list_back told.Right = Ok verdicts.Right
list_back (told.Entry i) = Ok (verdicts.Entry i)
list_back (told.Missing key) = Ok (verdicts.Missing key)
list_back (told.Refused k) = refused_or verdicts.Right (named k)

list-read : (r : Result listed.ListVerdict Refusal) → list_back (told_of r) ≡ r
list-read (Ok verdicts.Right) = refl
list-read (Ok (verdicts.Entry i)) = refl
list-read (Ok (verdicts.Missing key)) = refl
list-read (Err refusal) = ap (refused_or verdicts.Right) (named-number refusal)

pub told-one : (r r' : Result listed.ListVerdict Refusal) → told_of r ≡ told_of r' → r ≡ r'
told-one = back-one told_of list_back list-read
