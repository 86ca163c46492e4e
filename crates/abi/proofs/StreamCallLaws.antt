-- What each call of a stream promises, one law for each way that its code goes; and why no number that is answered wraps. Assumes nothing.
use Prim.Native.Nat.{ℕ, zero, suc, ◌*◌, ◌≤◌, ◌<◌}
use native.Mathlib.Omega.{arith}
use mathlib.Core.Path.{◌≡◌, refl, sym, ap, subst, ◌∙◌}
use mathlib.Core.Bool.{Bool, true, false}
use mathlib.Core.List.{List, [], ◌∷◌}
use lib.ListN.{length, set}
use lib.Dec.{ltb}
use borrow.Author.Tests.{ltb-false}
use Rattle.laws.specs.Lists.{put}
use Rattle.laws.proofs.TestLaws.{or-none}
use Rattle.keys.specs.TwoWords.{low_of, high_of, number_of}
use Rattle.tables.specs.declared.Catalogue.{Catalogue}
use Rattle.disjunction.specs.Asked.{Asked}
use Rattle.store.specs.Store.{store_in}
use Rattle.machine.specs.Machine.{most_tests, Called, Opened, open_fault, opening_for}
use Rattle.stream.specs.Answers.{OpenAnswer, StepAnswer}
use Rattle.stream.specs.Promises.{state_with, says_of, called_with, opened_with}
use Rattle.machine.proofs.RefusalLaws.{opening-refused, opening-says}
use Rattle.machine.proofs.CountLaws.{open-few}
use Rattle.abi.specs.Words.{catalogue_words}
use Rattle.abi.specs.Calls.{too_few_words}
use Rattle.abi.specs.Streams.{record_words, holding_words, result_words, words_of_state, result_of, result_of_call, answer_number, opened_number, open_short, next_short, Opening, Calling}

-- ---- words put one by one

pub put_three : (a b c : ℕ) (l : List ℕ) → record_words ≤ length l → set (set (set l 0 a) 1 b) 2 c ≡ put (a ∷ (b ∷ (c ∷ []))) l
put_three a b c [] h = absurd (omega arith)
put_three a b c (x ∷ []) h = absurd (omega arith)
put_three a b c (x ∷ (y ∷ [])) h = absurd (omega arith)
put_three a b c (x ∷ (y ∷ (z ∷ l))) h = refl

-- A record that names a row is a record of three words, and two words more.
pub put-two-more : (a b c d e : ℕ) (l : List ℕ) → holding_words ≤ length l
    → set (set (put (a ∷ (b ∷ (c ∷ []))) l) 3 d) 4 e ≡ put (a ∷ (b ∷ (c ∷ (d ∷ (e ∷ []))))) l
put-two-more a b c d e [] h = absurd (omega arith)
put-two-more a b c d e (v ∷ []) h = absurd (omega arith)
put-two-more a b c d e (v ∷ (w ∷ [])) h = absurd (omega arith)
put-two-more a b c d e (v ∷ (w ∷ (x ∷ []))) h = absurd (omega arith)
put-two-more a b c d e (v ∷ (w ∷ (x ∷ (y ∷ [])))) h = absurd (omega arith)
put-two-more a b c d e (v ∷ (w ∷ (x ∷ (y ∷ (z ∷ l))))) h = refl

-- Five words, as many as a result has.
pub put_five : (a b c d e : ℕ) (l : List ℕ) → result_words ≤ length l
    → set (set (set (set (set l 0 a) 1 b) 2 c) 3 d) 4 e ≡ put (a ∷ (b ∷ (c ∷ (d ∷ (e ∷ []))))) l
put_five a b c d e l h = ap (λ (x : List ℕ). set (set x 3 d) 4 e) (put_three a b c l (omega arith)) ∙ put-two-more a b c d e l h

-- ---- the number that open answers

-- A refusal comes with no tests, and no open has many: its number fits where its refusal does.
pub opened-low : (cat : Catalogue) (cells : List ℕ) (a : Asked) (low high left right : List ℕ) (o : Opened) (top : ℕ)
    → o ≡ opening_for cat cells a low high left right → most_tests * 32 < top → o.refusal < top → opened_number o < top
opened-low cat cells a low high left right o top same big h =
    subst (λ (x : Opened). opened_number x < top) (sym same) (by (open_fault cat (length cells) a (store_in low high left right 0)) refl)
  where
    by : (k : ℕ) → open_fault cat (length cells) a (store_in low high left right 0) ≡ k → opened_number (opening_for cat cells a low high left right) < top
    by zero e = omega (arith, open-few cat cells a low high left right, opening-says cat cells a low high left right)
    by (suc k) e =
        let r = opening-refused cat cells a low high left right (suc k) e (λ z. omega arith) in
        rw r (omega (arith, ap (λ (x : Opened). x.refusal) same, ap (λ (x : Opened). x.refusal) r))

-- ---- where the words are not too few

pub open-enough : (w : ℕ) (catalogue words : List ℕ) → open_short w catalogue words ≡ false → (catalogue_words ≤ length catalogue) × (w ≤ length words)
unfolding open_short
open-enough w catalogue words e =
    let (a, b) = or-none (ltb (length catalogue) catalogue_words) (ltb (length words) w) e in
    (ltb-false (length catalogue) catalogue_words a, ltb-false (length words) w b)

pub next-enough : (w : ℕ) (catalogue words result : List ℕ) → next_short w catalogue words result ≡ false
    → (catalogue_words ≤ length catalogue) × (w ≤ length words) × (result_words ≤ length result)
unfolding next_short
next-enough w catalogue words result e =
    let (a, b) = or-none (open_short w catalogue words) (ltb (length result) result_words) e in
    let (c, d) = open-enough w catalogue words a in
    (c, d, ltb-false (length result) result_words b)

-- ---- open

module _ (few : Bool) (o : Opened) (low high left right words : List ℕ) where
  pub open-short : few ≡ true → Opening few o low high left right words too_few_words low high left right words
  open-short e = record { answer = rw e; low-after = rw e; high_after = rw e; left_after = rw e; right-after = rw e; words-after = rw e }

  pub open_done : (a : Asked) (r : OpenAnswer) (k : ℕ) (low' high' left' right' words' : List ℕ) → few ≡ false → opened_with a r low' high' left' right' ≡ o
      → k ≡ opened_number (opened_with a r low' high' left' right') → words' ≡ put (words_of_state (state_with a r.stream low' high' left' right')) words
      → Opening few o low high left right words k low' high' left' right' words'
  open_done a r k low' high' left' right' words' e p n w =
      record {
        answer = rw e (n ∙ ap opened_number p);
        low-after = rw e (ap (λ (x : Opened). x.after.store.low) p);
        high_after = rw e (ap (λ (x : Opened). x.after.store.high) p);
        left_after = rw e (ap (λ (x : Opened). x.after.store.left) p);
        right-after = rw e (ap (λ (x : Opened). x.after.store.right) p);
        words-after = rw e (w ∙ ap (λ (x : Opened). put (words_of_state x.after) words) p);
      }

-- ---- a stream call

module _ (few : Bool) (s : Called) (low high left right words row result : List ℕ) where
  pub next-short : few ≡ true → Calling few s low high left right words row result too_few_words low high left right words row result
  next-short e =
      record { answer = rw e; low-after = rw e; high_after = rw e; left_after = rw e; right-after = rw e; words-after = rw e; row-after = rw e; result-after = rw e }

  pub next-done : (a : Asked) (r : StepAnswer) (k : ℕ) (low' high' left' right' words' row' result' : List ℕ) → few ≡ false
      → called_with a r low' high' left' right' row' ≡ s → k ≡ answer_number (says_of r.answer)
      → words' ≡ put (words_of_state (state_with a r.stream low' high' left' right')) words
      → result' ≡ put (result_of (low_of (number_of r.key)) (high_of (number_of r.key)) r.trials r.tests r.looks) result
      → Calling few s low high left right words row result k low' high' left' right' words' row' result'
  next-done a r k low' high' left' right' words' row' result' e p n w v =
      record {
        answer = rw e (n ∙ ap (λ (x : Called). answer_number x.says) p);
        low-after = rw e (ap (λ (x : Called). x.after.store.low) p);
        high_after = rw e (ap (λ (x : Called). x.after.store.high) p);
        left_after = rw e (ap (λ (x : Called). x.after.store.left) p);
        right-after = rw e (ap (λ (x : Called). x.after.store.right) p);
        words-after = rw e (w ∙ ap (λ (x : Called). put (words_of_state x.after) words) p);
        row-after = rw e (ap (λ (x : Called). x.row) p);
        result-after = rw e (v ∙ ap (λ (x : Called). put (result_of_call x) result) p);
      }
