-- "Show that no input admits two outcomes": for each public call, whatever meets its promise twice has met it with the same answer, the same counts,
-- the same record and the same words in every lent slice. Proved in proofs/Determined. Assumes nothing.
use Rattle.std.specs.Prelude.{ℕ, ◌^◌, ◌<◌, ◌≡◌, Bool, List, Result}
use Rattle.refusals.specs.declared.Refusal.{Refusal}
use Rattle.keys.specs.TwoWords.{bits_per_word}
use Rattle.keys.specs.declared.Key.{Key}
use Rattle.tables.specs.declared.Catalogue.{Catalogue}
use Rattle.tables.specs.Checks.{Made, made_of}
use Rattle.tables.specs.Checks.{Makes}
use Rattle.writer.specs.Written.{Written, as_written}
use Rattle.loader.specs.declared.Fault.{Fault}
use Rattle.loader.specs.Faults.{Loaded}
use Rattle.loader.specs.Load.{loaded_of, Loads}
use Rattle.writer.specs.Write.{Writes}
use Rattle.door.specs.Door.{Checks}
use Rattle.padding.specs.Covering.{Covers}
use Rattle.stream.specs.declared.StreamRecord.{StreamRecord}
use Rattle.stream.specs.declared.Opened.{Opened}
use Rattle.stream.specs.declared.Stepped.{Stepped}
use Rattle.stream.specs.Answers.{OpenAnswer, StepAnswer, HoldingOpenAnswer, HoldingStepAnswer, key_in, open_answer_of, step_answer_of, holding_open_answer_of, holding_step_answer_of}
use Rattle.stream.specs.declared.HoldingRecord.{HoldingRecord}
use Rattle.stream.specs.Promises.{Opens, Steps, OpensHolding, StepsHolding}
use Rattle.hub.specs.declared.ListVerdict as list
use Rattle.hub.specs.Answers.{ListVerdict, told_of}
use Rattle.hub.specs.Promises.{ChecksList}
use Rattle.harbour.specs.declared.NextAnswer as thin
use Rattle.harbour.specs.Answers.{NextAnswer, next_answer_of, Nexts, NextsHolding}
use Rattle.abi.specs.Calls.{LoadCall, MakeCall, WriteCall, CoversCall}
use Rattle.abi.specs.Lists.{ListCall}
use Rattle.abi.specs.Streams.{OpenCall, NextCall, OpenHoldingCall, NextHoldingCall}

-- A key is two 64-bit words, as every key that a call gives is.
abbrev pub Words : Key → Type 0
Words key = (key.low < 2 ^ bits_per_word) × (key.high < 2 ^ bits_per_word)

-- Of the answers of `harbour`'s calls as the paper has them, where a refusal is its number: two that meet a promise are one.
pub record OneReading : Type 0 where
  pub load : (s lent : List ℕ) (r r' : Loaded) (after after' : List ℕ) → Loads s lent r after → Loads s lent r' after' → (r ≡ r') × (after ≡ after')
  pub make_catalogue : (m n : ℕ) (schemes rows : List ℕ) (r r' : Made) → Makes m n schemes rows r → Makes m n schemes rows r' → r ≡ r'
  pub write : (cat : Catalogue) (cells lent : List ℕ) (r r' : Written) (after after' : List ℕ)
      → Writes cat cells lent r after → Writes cat cells lent r' after' → (r ≡ r') × (after ≡ after')
  pub «open» : (cat : Catalogue) (cells low high left right : List ℕ) (r r' : OpenAnswer) (ks hs ls rs ks' hs' ls' rs' : List ℕ)
      → Opens cat cells low high left right r ks hs ls rs → Opens cat cells low high left right r' ks' hs' ls' rs'
      → (r ≡ r') × (ks ≡ ks') × (hs ≡ hs') × (ls ≡ ls') × (rs ≡ rs')
  pub step : (cat : Catalogue) (cells : List ℕ) (s : StreamRecord) (low high left right row : List ℕ) (b : ℕ)
      (r r' : StepAnswer) (ks hs ls rs w ks' hs' ls' rs' w' : List ℕ) → Words r.key → Words r'.key
      → Steps cat cells low high left right s b row r ks hs ls rs w → Steps cat cells low high left right s b row r' ks' hs' ls' rs' w'
      → (r ≡ r') × (ks ≡ ks') × (hs ≡ hs') × (ls ≡ ls') × (rs ≡ rs') × (w ≡ w')
  pub next : (cat : Catalogue) (cells : List ℕ) (s : StreamRecord) (low high left right row : List ℕ) (b : ℕ)
      (r r' : NextAnswer) (q q' : StreamRecord) (ks hs ls rs w ks' hs' ls' rs' w' : List ℕ) → Words r.key → Words r'.key
      → Nexts cat cells low high left right s b row r q ks hs ls rs w → Nexts cat cells low high left right s b row r' q' ks' hs' ls' rs' w'
      → (r ≡ r') × (q ≡ q') × (ks ≡ ks') × (hs ≡ hs') × (ls ≡ ls') × (rs ≡ rs') × (w ≡ w')
  pub open_holding : (cat : Catalogue) (cells : List ℕ) (table row : ℕ) (low high left right : List ℕ)
      (r r' : HoldingOpenAnswer) (ks hs ls rs ks' hs' ls' rs' : List ℕ)
      → OpensHolding cat cells low high left right table row r ks hs ls rs → OpensHolding cat cells low high left right table row r' ks' hs' ls' rs'
      → (r ≡ r') × (ks ≡ ks') × (hs ≡ hs') × (ls ≡ ls') × (rs ≡ rs')
  pub step_holding : (cat : Catalogue) (cells : List ℕ) (s : HoldingRecord) (low high left right row : List ℕ) (b : ℕ)
      (r r' : HoldingStepAnswer) (ks hs ls rs w ks' hs' ls' rs' w' : List ℕ) → Words r.key → Words r'.key
      → StepsHolding cat cells low high left right s b row r ks hs ls rs w → StepsHolding cat cells low high left right s b row r' ks' hs' ls' rs' w'
      → (r ≡ r') × (ks ≡ ks') × (hs ≡ hs') × (ls ≡ ls') × (rs ≡ rs') × (w ≡ w')
  pub next_holding : (cat : Catalogue) (cells : List ℕ) (s : HoldingRecord) (low high left right row : List ℕ) (b : ℕ)
      (r r' : NextAnswer) (q q' : HoldingRecord) (ks hs ls rs w ks' hs' ls' rs' w' : List ℕ) → Words r.key → Words r'.key
      → NextsHolding cat cells low high left right s b row r q ks hs ls rs w → NextsHolding cat cells low high left right s b row r' q' ks' hs' ls' rs' w'
      → (r ≡ r') × (q ≡ q') × (ks ≡ ks') × (hs ≡ hs') × (ls ≡ ls') × (rs ≡ rs') × (w ≡ w')
  pub check_list : (cat : Catalogue) (cells low high : List ℕ) (r r' : ListVerdict)
      → ChecksList cat cells low high r → ChecksList cat cells low high r' → r ≡ r'

-- One field for each public call: two outcomes that meet its promise are one. The answers of `harbour`'s calls are here those that the code gives; by a map
-- each contract says what they are as the paper has them.
pub record OneOutcome : Type 0 where
  pub load : (s lent : List ℕ) (r r' : Result Catalogue Fault) (after after' : List ℕ)
      → Loads s lent (loaded_of r) after → Loads s lent (loaded_of r') after' → (r ≡ r') × (after ≡ after')
  pub make_catalogue : (m n : ℕ) (schemes rows : List ℕ) (r r' : Result Catalogue Refusal)
      → Makes m n schemes rows (made_of r) → Makes m n schemes rows (made_of r') → r ≡ r'
  pub write : (cat : Catalogue) (cells lent : List ℕ) (r r' : Result ℕ Refusal) (after after' : List ℕ)
      → Writes cat cells lent (as_written r) after → Writes cat cells lent (as_written r') after' → (r ≡ r') × (after ≡ after')
  pub «open» : (cat : Catalogue) (cells low high left right : List ℕ) (r r' : Result (Opened StreamRecord) Refusal) (ks hs ls rs ks' hs' ls' rs' : List ℕ)
      → Opens cat cells low high left right (open_answer_of r) ks hs ls rs → Opens cat cells low high left right (open_answer_of r') ks' hs' ls' rs'
      → (r ≡ r') × (ks ≡ ks') × (hs ≡ hs') × (ls ≡ ls') × (rs ≡ rs')
  pub step : (cat : Catalogue) (cells : List ℕ) (s : StreamRecord) (low high left right row : List ℕ) (b : ℕ)
      (r r' : Stepped StreamRecord) (ks hs ls rs w ks' hs' ls' rs' w' : List ℕ) → Words (key_in r.answer) → Words (key_in r'.answer)
      → Steps cat cells low high left right s b row (step_answer_of r) ks hs ls rs w
      → Steps cat cells low high left right s b row (step_answer_of r') ks' hs' ls' rs' w'
      → (r ≡ r') × (ks ≡ ks') × (hs ≡ hs') × (ls ≡ ls') × (rs ≡ rs') × (w ≡ w')
  pub next : (cat : Catalogue) (cells : List ℕ) (s : StreamRecord) (low high left right row : List ℕ) (b : ℕ)
      (r r' : thin.NextAnswer) (q q' : StreamRecord) (ks hs ls rs w ks' hs' ls' rs' w' : List ℕ) → Words (key_in r.answer) → Words (key_in r'.answer)
      → Nexts cat cells low high left right s b row (next_answer_of r) q ks hs ls rs w
      → Nexts cat cells low high left right s b row (next_answer_of r') q' ks' hs' ls' rs' w'
      → (r ≡ r') × (q ≡ q') × (ks ≡ ks') × (hs ≡ hs') × (ls ≡ ls') × (rs ≡ rs') × (w ≡ w')
  pub open_holding : (cat : Catalogue) (cells : List ℕ) (table row : ℕ) (low high left right : List ℕ)
      (r r' : Result (Opened HoldingRecord) Refusal) (ks hs ls rs ks' hs' ls' rs' : List ℕ)
      → OpensHolding cat cells low high left right table row (holding_open_answer_of r) ks hs ls rs
      → OpensHolding cat cells low high left right table row (holding_open_answer_of r') ks' hs' ls' rs'
      → (r ≡ r') × (ks ≡ ks') × (hs ≡ hs') × (ls ≡ ls') × (rs ≡ rs')
  pub step_holding : (cat : Catalogue) (cells : List ℕ) (s : HoldingRecord) (low high left right row : List ℕ) (b : ℕ)
      (r r' : Stepped HoldingRecord) (ks hs ls rs w ks' hs' ls' rs' w' : List ℕ) → Words (key_in r.answer) → Words (key_in r'.answer)
      → StepsHolding cat cells low high left right s b row (holding_step_answer_of r) ks hs ls rs w
      → StepsHolding cat cells low high left right s b row (holding_step_answer_of r') ks' hs' ls' rs' w'
      → (r ≡ r') × (ks ≡ ks') × (hs ≡ hs') × (ls ≡ ls') × (rs ≡ rs') × (w ≡ w')
  pub next_holding : (cat : Catalogue) (cells : List ℕ) (s : HoldingRecord) (low high left right row : List ℕ) (b : ℕ)
      (r r' : thin.NextAnswer) (q q' : HoldingRecord) (ks hs ls rs w ks' hs' ls' rs' w' : List ℕ) → Words (key_in r.answer) → Words (key_in r'.answer)
      → NextsHolding cat cells low high left right s b row (next_answer_of r) q ks hs ls rs w
      → NextsHolding cat cells low high left right s b row (next_answer_of r') q' ks' hs' ls' rs' w'
      → (r ≡ r') × (q ≡ q') × (ks ≡ ks') × (hs ≡ hs') × (ls ≡ ls') × (rs ≡ rs') × (w ≡ w')
  pub covers : (first second : List ℕ) (r r' : Bool) → Covers first second r → Covers first second r' → r ≡ r'
  pub check_list : (cat : Catalogue) (cells low high : List ℕ) (r r' : Result list.ListVerdict Refusal)
      → ChecksList cat cells low high (told_of r) → ChecksList cat cells low high (told_of r') → r ≡ r'
  pub check : (s : List ℕ) (r r' : ℕ) → Checks s r → Checks s r' → r ≡ r'
  -- The calls for C.
  pub harbour_load : (image cells words looked : List ℕ) (r r' : ℕ) (cs ws ls cs' ws' ls' : List ℕ)
      → LoadCall image cells words looked r cs ws ls → LoadCall image cells words looked r' cs' ws' ls' → (r ≡ r') × (cs ≡ cs') × (ws ≡ ws') × (ls ≡ ls')
  pub harbour_make_catalogue : (given words : List ℕ) (r r' : ℕ) (ws ws' : List ℕ)
      → MakeCall given words r ws → MakeCall given words r' ws' → (r ≡ r') × (ws ≡ ws')
  pub harbour_write : (words cells out : List ℕ) (r r' : ℕ) (o o' : List ℕ)
      → WriteCall words cells out r o → WriteCall words cells out r' o' → (r ≡ r') × (o ≡ o')
  pub harbour_open : (catalogue cells low high left right words : List ℕ) (r r' : ℕ) (ks hs ls rs ws ks' hs' ls' rs' ws' : List ℕ)
      → OpenCall catalogue cells low high left right words r ks hs ls rs ws → OpenCall catalogue cells low high left right words r' ks' hs' ls' rs' ws'
      → (r ≡ r') × (ks ≡ ks') × (hs ≡ hs') × (ls ≡ ls') × (rs ≡ rs') × (ws ≡ ws')
  pub harbour_next : (catalogue cells low high left right words : List ℕ) (b : ℕ) (row result : List ℕ)
      (r r' : ℕ) (ks hs ls rs ws w res ks' hs' ls' rs' ws' w' res' : List ℕ)
      → NextCall catalogue cells low high left right words b row result r ks hs ls rs ws w res
      → NextCall catalogue cells low high left right words b row result r' ks' hs' ls' rs' ws' w' res'
      → (r ≡ r') × (ks ≡ ks') × (hs ≡ hs') × (ls ≡ ls') × (rs ≡ rs') × (ws ≡ ws') × (w ≡ w') × (res ≡ res')
  pub harbour_open_holding : (catalogue cells low high left right : List ℕ) (t n : ℕ) (words : List ℕ) (r r' : ℕ) (ks hs ls rs ws ks' hs' ls' rs' ws' : List ℕ)
      → OpenHoldingCall catalogue cells low high left right t n words r ks hs ls rs ws
      → OpenHoldingCall catalogue cells low high left right t n words r' ks' hs' ls' rs' ws'
      → (r ≡ r') × (ks ≡ ks') × (hs ≡ hs') × (ls ≡ ls') × (rs ≡ rs') × (ws ≡ ws')
  pub harbour_next_holding : (catalogue cells low high left right words : List ℕ) (b : ℕ) (row result : List ℕ)
      (r r' : ℕ) (ks hs ls rs ws w res ks' hs' ls' rs' ws' w' res' : List ℕ)
      → NextHoldingCall catalogue cells low high left right words b row result r ks hs ls rs ws w res
      → NextHoldingCall catalogue cells low high left right words b row result r' ks' hs' ls' rs' ws' w' res'
      → (r ≡ r') × (ks ≡ ks') × (hs ≡ hs') × (ls ≡ ls') × (rs ≡ rs') × (ws ≡ ws') × (w ≡ w') × (res ≡ res')
  pub harbour_covers : (first second : List ℕ) (r r' : ℕ) → CoversCall first second r → CoversCall first second r' → r ≡ r'
  pub harbour_check_list : (catalogue cells low high result : List ℕ) (r r' : ℕ) (w w' : List ℕ)
      → ListCall catalogue cells low high result r w → ListCall catalogue cells low high result r' w' → (r ≡ r') × (w ≡ w')
  -- The calls of `harbour`, once more as the paper has them.
  pub readings : OneReading
