-- The calls for C read back, over what they promise: 31 is given exactly where a lent slice is too short, `% 32` and `/ 32` read every other answer, and what
-- a refused call leaves in the words that carry its answer. Proved in proofs/ForC. Assumes nothing.
use Rattle.std.specs.Prelude.{ℕ, ◌/◌, ◌%◌, ◌≤◌, ◌<◌, ◌≡◌, ◌⊎◌, ◌↔◌, List, [], ◌∷◌, length, set}
use Rattle.laws.specs.Lists.{put}
use Rattle.disjunction.specs.Asked.{Asked, every_set, every_with}
use Rattle.writer.specs.Written as Written
use Rattle.loader.specs.Faults.{Fault, Good, Refused}
use Rattle.tables.specs.Catalogues.{no_tables}
use Rattle.loader.specs.Load.{scan_of}
use Rattle.writer.specs.Write.{written}
use Rattle.machine.specs.Machine.{Says, a_set, finished, working, refused, Called, call_fault, call, Opened, zeros, opening_for}
use Rattle.stream.specs.Promises.{state_of, holding_state_of}
use Rattle.abi.specs.Words.{catalogue_words, table_words, words_of, catalogue_in}
use Rattle.abi.specs.Calls.{too_few_words, LoadCall, made_in, MakeCall, WriteCall}
use Rattle.abi.specs.Lists.{named_words, verdict_words, ListCall}
use Rattle.hub.specs.Answers.{ListVerdict}
use Rattle.hub.specs.Answers as Hub
use Rattle.hub.specs.Promises.{listed_keys, checked}
use Rattle.abi.specs.Streams.{record_words, holding_words, result_words, words_of_state, record_in, holding_in, OpenCall, NextCall, OpenHoldingCall, NextHoldingCall}

-- ---- what is told, and what is left

-- A stream's answer, read off its number: 1 for a set, 2 for the end, 3 for a spent budget, over no refusal; or a refusal alone.
abbrev pub Reads : ℕ → Says → Type 0
Reads r a_set = (r % 32 ≡ 0) × (r / 32 ≡ 1)
Reads r finished = (r % 32 ≡ 0) × (r / 32 ≡ 2)
Reads r working = (r % 32 ≡ 0) × (r / 32 ≡ 3)
Reads r (refused k) = (r % 32 ≡ k) × (r / 32 ≡ 0)

-- Of an open o whose slices are long enough, which answered r: refusal and row tests are read off. Refused, it has written nothing but a record of zeros.
pub record OpenTold (asked : Asked) (o : Opened) (low high left right words : List ℕ) (r : ℕ) (low' high' left' right' words' : List ℕ) : Type 0 where
  pub reads : (r % 32 ≡ o.refusal) × (r / 32 ≡ o.tests)
  pub leaves : (o.refusal ≡ 0 → ⊥)
      → (low' ≡ low) × (high' ≡ high) × (left' ≡ left) × (right' ≡ right) × (words' ≡ put (words_of_state (zeros asked low high left right)) words)

-- Of a call s whose slices are long enough, which answered r. `fault` is its refusal before work, 0 for none: such a call has changed neither the store nor
-- the record nor the padded row, and gives the key of no row and counts 0.
pub record CallTold (fault : ℕ) (s : Called) (low high left right words row result : List ℕ) (r : ℕ) (low' high' left' right' words' row' result' : List ℕ) : Type 0 where
  pub reads : Reads r s.says
  pub leaves : (fault ≡ 0 → ⊥)
      → (low' ≡ low) × (high' ≡ high) × (left' ≡ left) × (right' ≡ right) × (words' ≡ words) × (row' ≡ row) × (result' ≡ put (0 ∷ 0 ∷ 0 ∷ 0 ∷ 0 ∷ []) result)

-- The answer of a list's check, read off its number: 1 for right, 2 for an entry, 3 for a missing set, over no refusal; or a refusal alone.
abbrev pub ReadsList : ℕ → ListVerdict → Type 0
ReadsList r Hub.Right = (r % 32 ≡ 0) × (r / 32 ≡ 1)
ReadsList r (Hub.Entry i) = (r % 32 ≡ 0) × (r / 32 ≡ 2)
ReadsList r (Hub.Missing k) = (r % 32 ≡ 0) × (r / 32 ≡ 3)
ReadsList r (Hub.Refused k) = (r % 32 ≡ k) × (r / 32 ≡ 0)

-- ---- the calls

-- A lent slice of the open, or of the call, of a stream whose record has w words is too short.
abbrev pub FewToOpen : ℕ → List ℕ → List ℕ → Type 0
FewToOpen w catalogue words = (length catalogue < catalogue_words) ⊎ (length words < w)

abbrev pub FewToCall : ℕ → List ℕ → List ℕ → List ℕ → Type 0
FewToCall w catalogue words result = FewToOpen w catalogue words ⊎ (length result < result_words)

-- Each call of include/harbour.h but harbour_check (`CheckExact`) and harbour_covers, whose answer is 1 or 0.
pub record AbiExact : Type 0 where
  pub load-few : (image cells words looked : List ℕ) (r : ℕ) (cells' words' looked' : List ℕ) → LoadCall image cells words looked r cells' words' looked'
      → (r ≡ too_few_words) ↔ (length words < catalogue_words)
  pub load-good : (image cells words looked : List ℕ) (r : ℕ) (cells' words' looked' : List ℕ) → LoadCall image cells words looked r cells' words' looked' → catalogue_words ≤ length words
      → (r ≡ 0) ↔ ((scan_of image (length cells)).verdict ≡ Good)
  -- A refused load: refusal and place are read off; it leaves the cells, gives a catalogue of zeros and, where a word is lent for it, tells the bytes
  -- looked at (#107).
  pub load-refused : (image cells words looked : List ℕ) (r : ℕ) (cells' words' looked' : List ℕ) → LoadCall image cells words looked r cells' words' looked' → catalogue_words ≤ length words
      → (f : Fault) → (scan_of image (length cells)).verdict ≡ Refused f
      → (r % 32 ≡ f.refusal) × (r / 32 ≡ f.place) × (cells' ≡ cells) × (words' ≡ put (words_of no_tables) words) × (looked' ≡ set looked 0 f.looked)
  pub make-few : (given words : List ℕ) (r : ℕ) (words' : List ℕ) → MakeCall given words r words'
      → (r ≡ too_few_words) ↔ ((length given < table_words) ⊎ (length words < catalogue_words))
  -- A catalogue that is made: the refusal is the answer, and the words are those of the catalogue that the library's own call gives.
  pub make-told : (given words : List ℕ) (r : ℕ) (words' : List ℕ) → MakeCall given words r words'
      → ((length given < table_words) ⊎ (length words < catalogue_words) → ⊥)
      → (r ≡ (made_in given).refusal) × (words' ≡ put (words_of (made_in given).catalogue) words)
  pub write-few : (words cells out : List ℕ) (r : ℕ) (out' : List ℕ) → WriteCall words cells out r out' → (r ≡ too_few_words) ↔ (length words < catalogue_words)
  pub write-length : (words cells out : List ℕ) (r : ℕ) (out' : List ℕ) → WriteCall words cells out r out' → catalogue_words ≤ length words
      → (n : ℕ) → written (catalogue_in words) cells (length out) ≡ Written.Length n → (r % 32 ≡ 0) × (r / 32 ≡ n)
  -- A refused write has changed nothing.
  pub write-refused : (words cells out : List ℕ) (r : ℕ) (out' : List ℕ) → WriteCall words cells out r out' → catalogue_words ≤ length words
      → (k : ℕ) → written (catalogue_in words) cells (length out) ≡ Written.Refused k → (r % 32 ≡ k) × (r / 32 ≡ 0) × (out' ≡ out)
  pub open-few : (catalogue cells low high left right words : List ℕ) (r : ℕ) (ks hs ls rs ws : List ℕ) → OpenCall catalogue cells low high left right words r ks hs ls rs ws
      → (r ≡ too_few_words) ↔ FewToOpen record_words catalogue words
  pub open_told : (catalogue cells low high left right words : List ℕ) (r : ℕ) (ks hs ls rs ws : List ℕ) → OpenCall catalogue cells low high left right words r ks hs ls rs ws
      → (FewToOpen record_words catalogue words → ⊥)
      → OpenTold every_set (opening_for (catalogue_in catalogue) cells every_set low high left right) low high left right words r ks hs ls rs ws
  pub open-holding-few : (catalogue cells low high left right : List ℕ) (t n : ℕ) (words : List ℕ) (r : ℕ) (ks hs ls rs ws : List ℕ)
      → OpenHoldingCall catalogue cells low high left right t n words r ks hs ls rs ws → (r ≡ too_few_words) ↔ FewToOpen holding_words catalogue words
  pub open-holding-told : (catalogue cells low high left right : List ℕ) (t n : ℕ) (words : List ℕ) (r : ℕ) (ks hs ls rs ws : List ℕ)
      → OpenHoldingCall catalogue cells low high left right t n words r ks hs ls rs ws → (FewToOpen holding_words catalogue words → ⊥)
      → OpenTold (every_with (record { table = t; row = n }))
      (opening_for (catalogue_in catalogue) cells (every_with (record { table = t; row = n })) low high left right) low high left right words r ks hs ls rs ws
  pub next-few : (catalogue cells low high left right words : List ℕ) (b : ℕ) (row result : List ℕ) (r : ℕ) (ks hs ls rs ws w' res : List ℕ)
      → NextCall catalogue cells low high left right words b row result r ks hs ls rs ws w' res → (r ≡ too_few_words) ↔ FewToCall record_words catalogue words result
  pub next-told : (catalogue cells low high left right words : List ℕ) (b : ℕ) (row result : List ℕ) (r : ℕ) (ks hs ls rs ws w' res : List ℕ)
      → NextCall catalogue cells low high left right words b row result r ks hs ls rs ws w' res → (FewToCall record_words catalogue words result → ⊥)
      → CallTold (call_fault (catalogue_in catalogue) (length cells) (state_of (record_in words) low high left right) row)
      (call (catalogue_in catalogue) cells b (state_of (record_in words) low high left right) row) low high left right words row result r ks hs ls rs ws w' res
  pub next-holding-few : (catalogue cells low high left right words : List ℕ) (b : ℕ) (row result : List ℕ) (r : ℕ) (ks hs ls rs ws w' res : List ℕ)
      → NextHoldingCall catalogue cells low high left right words b row result r ks hs ls rs ws w' res
      → (r ≡ too_few_words) ↔ FewToCall holding_words catalogue words result
  pub next-holding-told : (catalogue cells low high left right words : List ℕ) (b : ℕ) (row result : List ℕ) (r : ℕ) (ks hs ls rs ws w' res : List ℕ)
      → NextHoldingCall catalogue cells low high left right words b row result r ks hs ls rs ws w' res → (FewToCall holding_words catalogue words result → ⊥)
      → CallTold (call_fault (catalogue_in catalogue) (length cells) (holding_state_of (holding_in words) low high left right) row)
      (call (catalogue_in catalogue) cells b (holding_state_of (holding_in words) low high left right) row) low high left right words row result r ks hs ls rs ws w' res
  pub list-few : (catalogue cells low high result : List ℕ) (r : ℕ) (result' : List ℕ) → ListCall catalogue cells low high result r result'
      → (r ≡ too_few_words) ↔ ((length catalogue < catalogue_words) ⊎ (length result < verdict_words))
  -- The answer is read off, and the two words of the result have what it names.
  pub list-told : (catalogue cells low high result : List ℕ) (r : ℕ) (result' : List ℕ) → ListCall catalogue cells low high result r result'
      → ((length catalogue < catalogue_words) ⊎ (length result < verdict_words) → ⊥)
      → ReadsList r (checked (catalogue_in catalogue) cells (listed_keys low high))
      × (result' ≡ put (named_words (checked (catalogue_in catalogue) cells (listed_keys low high))) result)
