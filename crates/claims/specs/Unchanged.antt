-- What a refusal leaves of what was lent, over the promises of the public calls: "a refusal gives a catalogue of zeros and leaves the cells untouched"
-- (load), "a refusal writes nothing" (write), "refused, it gives a record of zeros and writes nothing" (open), "these change nothing" (the stream call
-- before work). Proved in proofs/Refused. Assumes nothing.
use Rattle.std.specs.Prelude.{ℕ, ◌≡◌, List, length}
use Rattle.tables.specs.declared.Catalogue.{Catalogue}
use Rattle.writer.specs.Written as Written
use Rattle.loader.specs.Faults.{Fault, Refused, Loaded}
use Rattle.tables.specs.Catalogues.{no_tables}
use Rattle.loader.specs.Load.{Loads}
use Rattle.writer.specs.Write.{Writes}
use Rattle.machine.specs.Machine.{call_fault}
use Rattle.stream.specs.declared.StreamRecord.{StreamRecord}
use Rattle.stream.specs.Answers.{OpenAnswer, StepAnswer}
use Rattle.stream.specs.Promises.{state_of, Opens, Steps}

-- Of every call that was refused, whatever by.
pub record Unchanged : Type 0 where
  pub load : (s lent after : List ℕ) (r : Loaded) (f : Fault) → Loads s lent r after → r.verdict ≡ Refused f → (r.catalogue ≡ no_tables) × (after ≡ lent)
  pub write : (cat : Catalogue) (cells lent after : List ℕ) (k : ℕ) → Writes cat cells lent (Written.Refused k) after → after ≡ lent
  pub «open» : (cat : Catalogue) (cells low high left right : List ℕ) (o : OpenAnswer) (ks hs ls rs : List ℕ) → Opens cat cells low high left right o ks hs ls rs
      → (o.refusal ≡ 0 → ⊥) → (o.stream ≡ record { found = 0; taken = 0; next_row = 0 }) × (ks ≡ low) × (hs ≡ high) × (ls ≡ left) × (rs ≡ right)
  -- The thin call's promise is this one's, with the record that it leaves.
  pub step : (cat : Catalogue) (cells low high left right : List ℕ) (s : StreamRecord) (b : ℕ) (row : List ℕ) (r : StepAnswer) (ks hs ls rs w : List ℕ)
      → Steps cat cells low high left right s b row r ks hs ls rs w → (call_fault cat (length cells) (state_of s low high left right) row ≡ 0 → ⊥)
      → (r.stream ≡ s) × (ks ≡ low) × (hs ≡ high) × (ls ≡ left) × (rs ≡ right) × (w ≡ row)
