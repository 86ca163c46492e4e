-- Each promise is an equation with a definition, so two outcomes are equal to the same thing; of the stream's, part by part. And two of
-- the code's answers that are one as the paper has them are one (OneToOne). Assumes nothing.
use Prim.Native.Nat.{ℕ}
use native.Mathlib.Omega.{arith}
use mathlib.Core.Path.{◌≡◌, refl, sym, ap, ap₂, ◌∙◌}
use mathlib.Core.Bool.{Bool}
use mathlib.Core.List.{List}
use Rattle.keys.specs.TwoWords.{bits_in_low, bits_per_word, number_of}
use Rattle.keys.specs.declared.Key.{Key}
use Rattle.keys.proofs.TwoWordLaws.{joined-one}
use Rattle.disjunction.specs.Rule.{Place}
use Rattle.disjunction.specs.Asked.{Asked, every_set, every_with}
use Rattle.machine.specs.Machine.{State, Called, Opened}
use Rattle.stream.specs.declared.StreamRecord.{StreamRecord}
use Rattle.stream.specs.Answers.{Answer, Set, Finished, Working, Refused, OpenAnswer, StepAnswer, HoldingOpenAnswer, HoldingStepAnswer, open_answer_of, step_answer_of, holding_open_answer_of, holding_step_answer_of}
use Rattle.stream.specs.declared.HoldingRecord.{HoldingRecord}
use Rattle.stream.specs.Promises.{held_by, state_with, says_of, called_with, called_of, called_holding, opened_with, opened_holding}
use Rattle.harbour.specs.Answers.{NextAnswer, next_answer_of, with_record, with_holding}
use Rattle.writer.specs.Written.{Written, as_written}
use Rattle.loader.specs.Faults.{Loaded}
use Rattle.loader.specs.Load.{loaded_of, first_table, tables_codes, cells_after, Loads}
use Rattle.writer.specs.Write.{image_of, bytes_after_write, Writes}
use Rattle.tables.specs.declared.Catalogue.{Catalogue}
use Rattle.abi.specs.Streams.{Opening, Calling}
use Rattle.claims.specs.Outcomes.{Words, OneReading, OneOutcome}
use Rattle.claims.proofs.OneToOne.{loaded-one, made-one, written-one, opened-one, stepped-one, next-one, opened-holding-one, stepped-holding-one, told-one}

-- ---- the image

loads-one : (s lent : List ℕ) (r r' : Loaded) (after after' : List ℕ) → Loads s lent r after → Loads s lent r' after' → (r ≡ r') × (after ≡ after')
loads-one s lent r r' after after' l l' =
    let e : r ≡ r' = l.answer ∙ sym l'.answer in
    (e, l.cells ∙ ap (λ (x : Loaded). cells_after x.verdict (tables_codes x.catalogue.n s first_table) lent) e ∙ sym l'.cells)

writes_one : (cat : Catalogue) (cells lent : List ℕ) (r r' : Written) (after after' : List ℕ)
    → Writes cat cells lent r after → Writes cat cells lent r' after' → (r ≡ r') × (after ≡ after')
writes_one cat cells lent r r' after after' l l' =
    let e : r ≡ r' = l.answer ∙ sym l'.answer in
    (e, l.bytes ∙ ap (λ (x : Written). bytes_after_write x (image_of cat cells) lent) e ∙ sym l'.bytes)

-- ---- the stream

-- A state tells its record and its lists.
pub state-one : (v v' : Asked) (s s' : StreamRecord) (ks hs ls rs ks' hs' ls' rs' : List ℕ) → state_with v s ks hs ls rs ≡ state_with v' s' ks' hs' ls' rs'
    → (s ≡ s') × (ks ≡ ks') × (hs ≡ hs') × (ls ≡ ls') × (rs ≡ rs')
state-one v v' s s' ks hs ls rs ks' hs' ls' rs' e =
    let f : s.found ≡ s'.found = ap (λ (q : State). q.store.found) e in
    let t : s.taken ≡ s'.taken = ap (λ (q : State). q.taken) e in
    let n : s.next_row ≡ s'.next_row = ap (λ (q : State). q.next) e in
    (same f t n, ap (λ (q : State). q.store.low) e, ap (λ (q : State). q.store.high) e, ap (λ (q : State). q.store.left) e, ap (λ (q : State). q.store.right) e)
  where
    made : ℕ → ℕ → ℕ → StreamRecord
    made f t n = record { found = f; taken = t; next_row = n }

    same : s.found ≡ s'.found → s.taken ≡ s'.taken → s.next_row ≡ s'.next_row → s ≡ s'
    same f t n =
        ap (λ (x : ℕ). made x s.taken s.next_row) f ∙ ap (λ (x : ℕ). made s'.found x s.next_row) t ∙ ap (made s'.found s'.taken) n

opens_one : (v v' : Asked) (r r' : OpenAnswer) (ks hs ls rs ks' hs' ls' rs' : List ℕ) → opened_with v r ks hs ls rs ≡ opened_with v' r' ks' hs' ls' rs'
    → (r ≡ r') × (ks ≡ ks') × (hs ≡ hs') × (ls ≡ ls') × (rs ≡ rs')
opens_one v v' r r' ks hs ls rs ks' hs' ls' rs' e =
    let k : r.refusal ≡ r'.refusal = ap (λ (o : Opened). o.refusal) e in
    let t : r.tests ≡ r'.tests = ap (λ (o : Opened). o.tests) e in
    let q = state-one v v' r.stream r'.stream ks hs ls rs ks' hs' ls' rs' (ap (λ (o : Opened). o.after) e) in
    (same k t q.0, q.1, q.2, q.3, q.4)
  where
    made : ℕ → ℕ → StreamRecord → OpenAnswer
    made k t s = record { refusal = k; tests = t; stream = s }

    same : r.refusal ≡ r'.refusal → r.tests ≡ r'.tests → r.stream ≡ r'.stream → r ≡ r'
    same k t s =
        ap (λ (x : ℕ). made x r.tests r.stream) k ∙ ap (λ (x : ℕ). made r'.refusal x r.stream) t ∙ ap (made r'.refusal r'.tests) s

-- The number of a key tells both its words.
key_one : (a b : Key) → Words a → Words b → number_of a ≡ number_of b → a ≡ b
key_one a b x y e =
    let (p, q) = joined-one bits_in_low bits_per_word a.low a.high b.low b.high x.1 y.1 e in ap₂ made p q
  where
    made : ℕ → ℕ → Key
    made l h = record { low = l; high = h }

-- The paper's words tell the answers apart.
says-one : (a a' : Answer) → says_of a ≡ says_of a' → a ≡ a'
says-one Set Set e = refl
says-one Set Finished e = absurd (let z : ◌≡◌ {A = ℕ} 0 1 = cc in omega arith)
says-one Set Working e = absurd (let z : ◌≡◌ {A = ℕ} 0 1 = cc in omega arith)
says-one Set (Refused k) e = absurd (let z : ◌≡◌ {A = ℕ} 0 1 = cc in omega arith)
says-one Finished Set e = absurd (let z : ◌≡◌ {A = ℕ} 0 1 = cc in omega arith)
says-one Finished Finished e = refl
says-one Finished Working e = absurd (let z : ◌≡◌ {A = ℕ} 0 1 = cc in omega arith)
says-one Finished (Refused k) e = absurd (let z : ◌≡◌ {A = ℕ} 0 1 = cc in omega arith)
says-one Working Set e = absurd (let z : ◌≡◌ {A = ℕ} 0 1 = cc in omega arith)
says-one Working Finished e = absurd (let z : ◌≡◌ {A = ℕ} 0 1 = cc in omega arith)
says-one Working Working e = refl
says-one Working (Refused k) e = absurd (let z : ◌≡◌ {A = ℕ} 0 1 = cc in omega arith)
says-one (Refused k) Set e = absurd (let z : ◌≡◌ {A = ℕ} 0 1 = cc in omega arith)
says-one (Refused k) Finished e = absurd (let z : ◌≡◌ {A = ℕ} 0 1 = cc in omega arith)
says-one (Refused k) Working e = absurd (let z : ◌≡◌ {A = ℕ} 0 1 = cc in omega arith)
says-one (Refused k) (Refused j) e = let q : k ≡ j = cc in ap (λ (x : ℕ). Refused x) q

steps-one : (v v' : Asked) (r r' : StepAnswer) (ks hs ls rs w ks' hs' ls' rs' w' : List ℕ) → Words r.key → Words r'.key → called_with v r ks hs ls rs w ≡ called_with v' r' ks' hs' ls' rs' w'
    → (r ≡ r') × (ks ≡ ks') × (hs ≡ hs') × (ls ≡ ls') × (rs ≡ rs') × (w ≡ w')
steps-one v v' r r' ks hs ls rs w ks' hs' ls' rs' w' x x' e =
    let a : r.answer ≡ r'.answer = says-one r.answer r'.answer (ap (λ (c : Called). c.says) e) in
    let k : r.key ≡ r'.key = key_one r.key r'.key x x' (ap (λ (c : Called). c.key) e) in
    let n : r.trials ≡ r'.trials = ap (λ (c : Called). c.trials) e in
    let t : r.tests ≡ r'.tests = ap (λ (c : Called). c.tests) e in
    let l : r.looks ≡ r'.looks = ap (λ (c : Called). c.looks) e in
    let q = state-one v v' r.stream r'.stream ks hs ls rs ks' hs' ls' rs' (ap (λ (c : Called). c.after) e) in
    (same a k n t l q.0, q.1, q.2, q.3, q.4, ap (λ (c : Called). c.row) e)
  where
    made : Answer → Key → ℕ → ℕ → ℕ → StreamRecord → StepAnswer
    made a k n t l s = record { answer = a; key = k; trials = n; tests = t; looks = l; stream = s }

    same : r.answer ≡ r'.answer → r.key ≡ r'.key → r.trials ≡ r'.trials → r.tests ≡ r'.tests → r.looks ≡ r'.looks → r.stream ≡ r'.stream → r ≡ r'
    same a k n t l s =
        ap (λ (x : Answer). made x r.key r.trials r.tests r.looks r.stream) a
        ∙ ap (λ (x : Key). made r'.answer x r.trials r.tests r.looks r.stream) k
        ∙ ap (λ (x : ℕ). made r'.answer r'.key x r.tests r.looks r.stream) n
        ∙ ap (λ (x : ℕ). made r'.answer r'.key r'.trials x r.looks r.stream) t
        ∙ ap (λ (x : ℕ). made r'.answer r'.key r'.trials r'.tests x r.stream) l
        ∙ ap (made r'.answer r'.key r'.trials r'.tests r'.looks) s

-- The thin call's answer and its record are read off the by-value answer that the two make up.
nexts-one : (r r' : NextAnswer) (q q' : StreamRecord) (ks hs ls rs w ks' hs' ls' rs' w' : List ℕ) → Words r.key → Words r'.key
    → called_of (with_record r q) ks hs ls rs w ≡ called_of (with_record r' q') ks' hs' ls' rs' w'
    → (r ≡ r') × (q ≡ q') × (ks ≡ ks') × (hs ≡ hs') × (ls ≡ ls') × (rs ≡ rs') × (w ≡ w')
nexts-one r r' q q' ks hs ls rs w ks' hs' ls' rs' w' x x' e =
    let t = steps-one every_set every_set (with_record r q) (with_record r' q') ks hs ls rs w ks' hs' ls' rs' w' x x' e in
    (ap answer t.0, ap (λ (x : StepAnswer). x.stream) t.0, t.1, t.2, t.3, t.4, t.5)
  where
    answer : StepAnswer → NextAnswer
    answer x = record { answer = x.answer; key = x.key; trials = x.trials; tests = x.tests; looks = x.looks }

-- What is asked for tells its row.
row_one : (t r t' r' : ℕ) → every_with (record { table = t; row = r }) ≡ every_with (record { table = t'; row = r' }) → (t ≡ t') × (r ≡ r')
row_one t r t' r' e = (ap (λ (a : Asked). (row a).table) e, ap (λ (a : Asked). (row a).row) e)
  where
    row : Asked → Place
    row every_set = record { table = 0; row = 0 }
    row (every_with s) = s

-- Two records that name a row are one where the streams in them are, and what they are asked for is.
record-one : (s s' : HoldingRecord) → s.stream ≡ s'.stream → held_by s ≡ held_by s' → s ≡ s'
record-one s s' e a =
    let (t, n) = row_one s.table s.row s'.table s'.row a in
    ap (λ (x : StreamRecord). made x s.table s.row) e ∙ ap₂ (made s'.stream) t n
  where
    made : StreamRecord → ℕ → ℕ → HoldingRecord
    made x t n = record { stream = x; table = t; row = n }

holding-opens-one : (r r' : HoldingOpenAnswer) (ks hs ls rs ks' hs' ls' rs' : List ℕ) → opened_holding r ks hs ls rs ≡ opened_holding r' ks' hs' ls' rs'
    → (r ≡ r') × (ks ≡ ks') × (hs ≡ hs') × (ls ≡ ls') × (rs ≡ rs')
holding-opens-one r r' ks hs ls rs ks' hs' ls' rs' e =
    let q = opens_one _ _ (plain r) (plain r') ks hs ls rs ks' hs' ls' rs' e in
    let s = record-one r.stream r'.stream (ap (λ (o : OpenAnswer). o.stream) q.0) (ap (λ (o : Opened). o.after.asked) e) in
    (ap (λ (o : OpenAnswer). made o r.stream) q.0 ∙ ap (made (plain r')) s, q.1, q.2, q.3, q.4)
  where
    plain : HoldingOpenAnswer → OpenAnswer
    plain o = record { refusal = o.refusal; stream = o.stream.stream; tests = o.tests }

    made : OpenAnswer → HoldingRecord → HoldingOpenAnswer
    made o s = record { refusal = o.refusal; stream = s; tests = o.tests }

holding-steps-one : (r r' : HoldingStepAnswer) (ks hs ls rs w ks' hs' ls' rs' w' : List ℕ) → Words r.key → Words r'.key
    → called_holding r ks hs ls rs w ≡ called_holding r' ks' hs' ls' rs' w'
    → (r ≡ r') × (ks ≡ ks') × (hs ≡ hs') × (ls ≡ ls') × (rs ≡ rs') × (w ≡ w')
holding-steps-one r r' ks hs ls rs w ks' hs' ls' rs' w' x x' e =
    let q = steps-one _ _ (plain r) (plain r') ks hs ls rs w ks' hs' ls' rs' w' x x' e in
    let s = record-one r.stream r'.stream (ap (λ (o : StepAnswer). o.stream) q.0) (ap (λ (c : Called). c.after.asked) e) in
    (ap (λ (o : StepAnswer). made o r.stream) q.0 ∙ ap (made (plain r')) s, q.1, q.2, q.3, q.4, q.5)
  where
    plain : HoldingStepAnswer → StepAnswer
    plain o = record { answer = o.answer; key = o.key; trials = o.trials; tests = o.tests; looks = o.looks; stream = o.stream.stream }

    made : StepAnswer → HoldingRecord → HoldingStepAnswer
    made o s = record { answer = o.answer; key = o.key; trials = o.trials; tests = o.tests; looks = o.looks; stream = s }

holding-nexts-one : (r r' : NextAnswer) (q q' : HoldingRecord) (ks hs ls rs w ks' hs' ls' rs' w' : List ℕ) → Words r.key → Words r'.key
    → called_holding (with_holding r q) ks hs ls rs w ≡ called_holding (with_holding r' q') ks' hs' ls' rs' w'
    → (r ≡ r') × (q ≡ q') × (ks ≡ ks') × (hs ≡ hs') × (ls ≡ ls') × (rs ≡ rs') × (w ≡ w')
holding-nexts-one r r' q q' ks hs ls rs w ks' hs' ls' rs' w' x x' e =
    let t = holding-steps-one (with_holding r q) (with_holding r' q') ks hs ls rs w ks' hs' ls' rs' w' x x' e in
    (ap answer t.0, ap (λ (x : HoldingStepAnswer). x.stream) t.0, t.1, t.2, t.3, t.4, t.5)
  where
    answer : HoldingStepAnswer → NextAnswer
    answer x = record { answer = x.answer; key = x.key; trials = x.trials; tests = x.tests; looks = x.looks }

-- ---- the calls for C

-- Of either stream.
opening-one : {few : Bool} {o : Opened} {low high left right words : List ℕ} {r r' : ℕ} {ks hs ls rs ws ks' hs' ls' rs' ws' : List ℕ}
    → Opening few o low high left right words r ks hs ls rs ws → Opening few o low high left right words r' ks' hs' ls' rs' ws'
    → (r ≡ r') × (ks ≡ ks') × (hs ≡ hs') × (ls ≡ ls') × (rs ≡ rs') × (ws ≡ ws')
opening-one c d = (
  c.answer ∙ sym d.answer,
  c.low-after ∙ sym d.low-after,
  c.high_after ∙ sym d.high_after,
  c.left_after ∙ sym d.left_after,
  c.right-after ∙ sym d.right-after,
  c.words-after ∙ sym d.words-after,
)

calling-one : {few : Bool} {s : Called} {low high left right words row result : List ℕ} {r r' : ℕ} {ks hs ls rs ws w res ks' hs' ls' rs' ws' w' res' : List ℕ}
    → Calling few s low high left right words row result r ks hs ls rs ws w res → Calling few s low high left right words row result r' ks' hs' ls' rs' ws' w' res'
    → (r ≡ r') × (ks ≡ ks') × (hs ≡ hs') × (ls ≡ ls') × (rs ≡ rs') × (ws ≡ ws') × (w ≡ w') × (res ≡ res')
calling-one c d = (
  c.answer ∙ sym d.answer,
  c.low-after ∙ sym d.low-after,
  c.high_after ∙ sym d.high_after,
  c.left_after ∙ sym d.left_after,
  c.right-after ∙ sym d.right-after,
  c.words-after ∙ sym d.words-after,
  c.row-after ∙ sym d.row-after,
  c.result-after ∙ sym d.result-after,
)

-- Of the answers as the paper has them.
readings : OneReading
readings =
    record {
      load = loads-one;
      make_catalogue = λ m n xs cs r r' c d. c ∙ sym d;
      write = writes_one;
      «open» = λ cat cells low high left right r r' ks hs ls rs ks' hs' ls' rs' e e'. opens_one every_set every_set r r' ks hs ls rs ks' hs' ls' rs' (e ∙ sym e');
      step = λ cat cells s low high left right row b r r' ks hs ls rs w ks' hs' ls' rs' w' x x' e e'.
          steps-one every_set every_set r r' ks hs ls rs w ks' hs' ls' rs' w' x x' (e ∙ sym e');
      next = λ cat cells s low high left right row b r r' q q' ks hs ls rs w ks' hs' ls' rs' w' x x' e e'.
          nexts-one r r' q q' ks hs ls rs w ks' hs' ls' rs' w' x x' (e ∙ sym e');
      open_holding = λ cat cells t n low high left right r r' ks hs ls rs ks' hs' ls' rs' e e'. holding-opens-one r r' ks hs ls rs ks' hs' ls' rs' (e ∙ sym e');
      step_holding = λ cat cells s low high left right row b r r' ks hs ls rs w ks' hs' ls' rs' w' x x' e e'.
          holding-steps-one r r' ks hs ls rs w ks' hs' ls' rs' w' x x' (e ∙ sym e');
      next_holding = λ cat cells s low high left right row b r r' q q' ks hs ls rs w ks' hs' ls' rs' w' x x' e e'.
          holding-nexts-one r r' q q' ks hs ls rs w ks' hs' ls' rs' w' x x' (e ∙ sym e');
      check_list = λ cat cells low high r r' e e'. e ∙ sym e';
    }

-- Of the code's answers: two that are one as the paper has them are one (OneToOne).
pub determined : OneOutcome
determined =
    record {
      load = λ s lent r r' after after' l l'. let q = loads-one s lent (loaded_of r) (loaded_of r') after after' l l' in (loaded-one r r' q.0, q.1);
      make_catalogue = λ m n xs cs r r' c d. made-one r r' (c ∙ sym d);
      write = λ cat cells lent r r' after after' l l'.
          let q = writes_one cat cells lent (as_written r) (as_written r') after after' l l' in (written-one r r' q.0, q.1);
      «open» = λ cat cells low high left right r r' ks hs ls rs ks' hs' ls' rs' e e'.
          let q = opens_one every_set every_set (open_answer_of r) (open_answer_of r') ks hs ls rs ks' hs' ls' rs' (e ∙ sym e') in
          (opened-one r r' q.0, q.1, q.2, q.3, q.4);
      step = λ cat cells s low high left right row b r r' ks hs ls rs w ks' hs' ls' rs' w' x x' e e'.
          let q = steps-one every_set every_set (step_answer_of r) (step_answer_of r') ks hs ls rs w ks' hs' ls' rs' w' x x' (e ∙ sym e') in
          (stepped-one r r' q.0, q.1, q.2, q.3, q.4, q.5);
      next = λ cat cells s low high left right row b r r' q q' ks hs ls rs w ks' hs' ls' rs' w' x x' e e'.
          let p = nexts-one (next_answer_of r) (next_answer_of r') q q' ks hs ls rs w ks' hs' ls' rs' w' x x' (e ∙ sym e') in
          (next-one r r' p.0, p.1, p.2, p.3, p.4, p.5, p.6);
      open_holding = λ cat cells t n low high left right r r' ks hs ls rs ks' hs' ls' rs' e e'.
          let q = holding-opens-one (holding_open_answer_of r) (holding_open_answer_of r') ks hs ls rs ks' hs' ls' rs' (e ∙ sym e') in
          (opened-holding-one r r' q.0, q.1, q.2, q.3, q.4);
      step_holding = λ cat cells s low high left right row b r r' ks hs ls rs w ks' hs' ls' rs' w' x x' e e'.
          let q = holding-steps-one (holding_step_answer_of r) (holding_step_answer_of r') ks hs ls rs w ks' hs' ls' rs' w' x x' (e ∙ sym e') in
          (stepped-holding-one r r' q.0, q.1, q.2, q.3, q.4, q.5);
      next_holding = λ cat cells s low high left right row b r r' q q' ks hs ls rs w ks' hs' ls' rs' w' x x' e e'.
          let p = holding-nexts-one (next_answer_of r) (next_answer_of r') q q' ks hs ls rs w ks' hs' ls' rs' w' x x' (e ∙ sym e') in
          (next-one r r' p.0, p.1, p.2, p.3, p.4, p.5, p.6);
      covers = λ first second r r' e e'. e ∙ sym e';
      check_list = λ cat cells low high r r' e e'. told-one r r' (e ∙ sym e');
      check = λ s r r' e e'. e ∙ sym e';
      harbour_load = λ image cells words looked r r' cs ws ls cs' ws' ls' c d.
          (c.answer ∙ sym d.answer, c.cells-after ∙ sym d.cells-after, c.words-after ∙ sym d.words-after, c.looked-after ∙ sym d.looked-after);
      harbour_make_catalogue = λ given words r r' ws ws' c d. (c.answer ∙ sym d.answer, c.words-after ∙ sym d.words-after);
      harbour_write = λ words cells out r r' o o' c d. (c.answer ∙ sym d.answer, c.bytes_after ∙ sym d.bytes_after);
      harbour_open = λ catalogue cells low high left right words r r' ks hs ls rs ws ks' hs' ls' rs' ws' c d. opening-one c d;
      harbour_next = λ catalogue cells low high left right words b row result r r' ks hs ls rs ws w res ks' hs' ls' rs' ws' w' res' c d. calling-one c d;
      harbour_open_holding = λ catalogue cells low high left right t n words r r' ks hs ls rs ws ks' hs' ls' rs' ws' c d. opening-one c d;
      harbour_next_holding = λ catalogue cells low high left right words b row result r r' ks hs ls rs ws w res ks' hs' ls' rs' ws' w' res' c d. calling-one c d;
      harbour_covers = λ first second r r' c d. c ∙ sym d;
      harbour_check_list = λ catalogue cells low high result r r' w w' c d. (c.answer ∙ sym d.answer, c.result-after ∙ sym d.result-after);
      readings = readings;
    }
