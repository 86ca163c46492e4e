-- The calls for C read back. What carries the proofs: no refusal's number comes near 31 (`CheckExact`'s places, `WriteExact`, `OpenExact` and `CallExact` say
-- which there are), so that 31 is no answer but the short slice's, and 32 divides what stands before it. Assumes nothing.
use Prim.Native.Nat.{ℕ, ◌+◌, ◌*◌, ◌/◌, ◌%◌, ◌≤◌, ◌<◌}
use native.Mathlib.Omega.{arith}
use mathlib.Core.Path.{◌≡◌, refl, sym, ap, subst, ◌∙◌}
use mathlib.Core.Logic.{◌⊎◌, inl, inr, ◌↔◌}
use mathlib.Core.Bool.{Bool, true, false, cond}
use mathlib.Core.List.{List, [], ◌∷◌}
use lib.ListN.{length, get_or, set}
use lib.Dec.{ltb}
use native.Mathlib.Decide.{dec_lt}
use borrow.Author.Tests.{le-ltb}
use Rattle.laws.specs.Lists.{put}
use Rattle.laws.proofs.TestLaws.{clash}
use Rattle.tables.specs.declared.Catalogue.{Catalogue}
use Rattle.disjunction.specs.Asked.{Asked, every_set, every_with}
use Rattle.writer.specs.Written.{Written}
use Rattle.loader.specs.Faults.{Fault, Verdict, Good, Refused}
use Rattle.tables.specs.Catalogues.{no_tables}
use Rattle.loader.specs.Load.{first_table, farthest, NearVerdict, scan_of, tables_codes, cells_after}
use Rattle.writer.specs.Write.{image_of, written, bytes_after_write}
use Rattle.loader.proofs.PlaceLaws.{scan-near}
use Rattle.verdicts.specs.Number.{door_number, looked_in}
use Rattle.machine.specs.Machine.{State, state_for, Says, a_set, finished, working, refused, Called, call_fault, call, Opened, opening_for}
use Rattle.machine.proofs.RefusalLaws.{call-refused}
use Rattle.abi.specs.Words.{catalogue_words, table_words, words_of, catalogue_in}
use Rattle.abi.specs.Calls.{too_few_words, short, LoadCall, make_short, made_in, MakeCall, written_number, WriteCall}
use Rattle.abi.specs.Lists.{verdict_number, named_words, verdict_words, list_short, ListCall}
use Rattle.hub.specs.Answers.{ListVerdict}
use Rattle.hub.specs.Answers as Hub
use Rattle.keys.specs.TwoWords.{first_word, second_word}
use Rattle.hub.specs.Promises.{listed_keys, checked}
use Rattle.abi.specs.Streams.{record_words, holding_words, result_words, words_of_state, result_of_call, answer_number, opened_number, open_short, next_short, Opening, Calling}
use Rattle.claims.specs.CatalogueRefusals.{OfCatalogue}
use Rattle.claims.specs.CallsForC.{Reads, ReadsList, OpenTold, CallTold, FewToOpen, FewToCall, AbiExact}
use Rattle.claims.proofs.ScanLaws.{lt_iff, or-iff, iff-no}
use Rattle.claims.proofs.LoadExactly.{load-exact, some-refusal}
use Rattle.claims.proofs.WriteExactly.{write-exact}
use Rattle.claims.proofs.CatalogueExactly.{catalogue-exact, of-catalogue-low, make-exact}
use Rattle.claims.proofs.ListChecked.{list-exact}
use Rattle.claims.proofs.CallExactly.{call-exact, open-exact}
use Rattle.claims.proofs.Exact.{demand1}
use Rattle.claims.proofs.Refused.{scan-zeros}

-- ---- 31

-- An answer that is 31 where the test says yes, and another number elsewhere.
only-few : {F : Type 0} (b : Bool) (x r : ℕ) → ((b ≡ true) ↔ F) → (x ≡ too_few_words → ⊥) → r ≡ cond b too_few_words x → (r ≡ too_few_words) ↔ F
only-few {F} b x r p n = by b refl
  where
    by : (c : Bool) → b ≡ c → r ≡ cond c too_few_words x → (r ≡ too_few_words) ↔ F
    by true d e = (λ z. p.0 d, λ f. e)
    by false d e = (λ z. absurd (n (sym e ∙ z)), λ f. absurd (clash (p.1 f) d))

-- What stands behind a test that says no.
behind : {A : Type 0} (b : Bool) (x y z : A) → b ≡ false → z ≡ cond b x y → z ≡ y
behind b x y z d e = e ∙ rw d refl

open-short-iff : (w : ℕ) (catalogue words : List ℕ) → (open_short w catalogue words ≡ true) ↔ FewToOpen w catalogue words
unfolding open_short
open-short-iff w catalogue words =
    or-iff (short catalogue) (ltb (length words) w) (lt_iff (length catalogue) catalogue_words) (lt_iff (length words) w)

next-short-iff : (w : ℕ) (catalogue words result : List ℕ) → (next_short w catalogue words result ≡ true) ↔ FewToCall w catalogue words result
unfolding next_short
next-short-iff w catalogue words result =
    or-iff (open_short w catalogue words) (ltb (length result) result_words) (open-short-iff w catalogue words) (lt_iff (length result) result_words)

-- ---- the image

module _ (image : List ℕ) (room : ℕ) where
  near : NearVerdict farthest (scan_of image room).verdict
  near = scan-near image room

  door-apart : door_number (scan_of image room).verdict ≡ too_few_words → ⊥
  door-apart = by (scan_of image room).verdict near
    where
      by : (v : Verdict) → NearVerdict farthest v → door_number v ≡ too_few_words → ⊥
      by Good n e = absurd (omega arith)
      by (Refused f) n e = absurd (omega (arith, n.1))

  door-good : (door_number (scan_of image room).verdict ≡ 0) ↔ ((scan_of image room).verdict ≡ Good)
  door-good = by (scan_of image room).verdict refl
    where
      by : (v : Verdict) → (scan_of image room).verdict ≡ v → (door_number v ≡ 0) ↔ (v ≡ Good)
      by Good d = (λ e. refl, λ e. refl)
      by (Refused f) d = (
        λ e. let (x, i, r, h) = ((load-exact image room).refuses f).0 d in absurd (omega (arith, some-refusal image room h)),
        λ e. absurd (let z : ◌≡◌ {A = ℕ} 0 1 = cc in omega arith),
      )

module _ (image cells words looked : List ℕ) (r : ℕ) (cells' words' looked' : List ℕ) (c : LoadCall image cells words looked r cells' words' looked') where
  load-few : (r ≡ too_few_words) ↔ (length words < catalogue_words)
  load-few = only-few (short words) (door_number (scan_of image (length cells)).verdict) r (lt_iff (length words) catalogue_words)
      (door-apart image (length cells)) c.answer

  module _ (h : catalogue_words ≤ length words) where
    long : short words ≡ false
    long = le-ltb (length words) catalogue_words h

    load-answer : r ≡ door_number (scan_of image (length cells)).verdict
    load-answer = behind (short words) too_few_words (door_number (scan_of image (length cells)).verdict) r long c.answer

    load-refused : (f : Fault) → (scan_of image (length cells)).verdict ≡ Refused f
        → (r % 32 ≡ f.refusal) × (r / 32 ≡ f.place) × (cells' ≡ cells) × (words' ≡ put (words_of no_tables) words) × (looked' ≡ set looked 0 f.looked)
    load-refused f e =
        let n : NearVerdict farthest (Refused f) = subst (NearVerdict farthest) e (near image (length cells)) in
        let a : r ≡ f.place * 32 + f.refusal = load-answer ∙ ap door_number e in (
          omega (arith, n.1),
          omega (arith, n.1),
          behind (short words) cells (cells_after (scan_of image (length cells)).verdict (tables_codes (scan_of image (length cells)).catalogue.n image
              first_table) cells) cells' long c.cells-after
              ∙ ap (λ (v : Verdict). cells_after v (tables_codes (scan_of image (length cells)).catalogue.n image first_table) cells) e,
          behind (short words) words (put (words_of (scan_of image (length cells)).catalogue) words) words' long c.words-after
              ∙ ap (λ (t : Catalogue). put (words_of t) words) (scan-zeros image (length cells) f e),
          behind (short words) looked (set looked 0 (looked_in (scan_of image (length cells)).verdict)) looked' long c.looked-after
              ∙ ap (λ (v : Verdict). set looked 0 (looked_in v)) e,
        )

make-short-iff : (given words : List ℕ) → (make_short given words ≡ true) ↔ ((length given < table_words) ⊎ (length words < catalogue_words))
unfolding make_short
make-short-iff given words = or-iff (ltb (length given) table_words) (short words) (lt_iff (length given) table_words) (lt_iff (length words) catalogue_words)

module _ (given words : List ℕ) (r : ℕ) (words' : List ℕ) (c : MakeCall given words r words') where
  make-apart : (made_in given).refusal ≡ too_few_words → ⊥
  make-apart e = by ((make-exact _ _ _ _ (made_in given) refl).no_other too_few_words e)
    where
      by : (too_few_words ≡ 0) ⊎ (too_few_words ≡ 4) ⊎ (too_few_words ≡ 5) ⊎ (too_few_words ≡ 6) ⊎ (too_few_words ≡ 8) → ⊥
      by (inl z) = absurd (omega arith)
      by (inr (inl z)) = absurd (omega arith)
      by (inr (inr (inl z))) = absurd (omega arith)
      by (inr (inr (inr (inl z)))) = absurd (omega arith)
      by (inr (inr (inr (inr z)))) = absurd (omega arith)

  make-few : (r ≡ too_few_words) ↔ ((length given < table_words) ⊎ (length words < catalogue_words))
  make-few = only-few (make_short given words) (made_in given).refusal r (make-short-iff given words) make-apart c.answer

  make-told : ((length given < table_words) ⊎ (length words < catalogue_words) → ⊥)
      → (r ≡ (made_in given).refusal) × (words' ≡ put (words_of (made_in given).catalogue) words)
  make-told n =
      let long = (iff-no (make_short given words) (make-short-iff given words)).1 n in (
        behind (make_short given words) too_few_words (made_in given).refusal r long c.answer,
        behind (make_short given words) words (put (words_of (made_in given).catalogue) words) words' long c.words-after,
      )

module _ (words cells out : List ℕ) (r : ℕ) (out' : List ℕ) (c : WriteCall words cells out r out') where
  abbrev says : Written
  says = written (catalogue_in words) cells (length out)

  write_low : (k : ℕ) → says ≡ Written.Refused k → k < too_few_words
  write_low k e = by ((write-exact (catalogue_in words) cells (length out)).no_other k e)
    where
      by : OfCatalogue k ⊎ (k ≡ 10) ⊎ (k ≡ 21) ⊎ (k ≡ 7) ⊎ (k ≡ 11) → k < too_few_words
      by (inl x) = omega (arith, of-catalogue-low k x)
      by (inr (inl e)) = omega arith
      by (inr (inr (inl e))) = omega arith
      by (inr (inr (inr (inl e)))) = omega arith
      by (inr (inr (inr (inr e)))) = omega arith

  write-apart : written_number says ≡ too_few_words → ⊥
  write-apart = by says refl
    where
      by : (w : Written) → says ≡ w → written_number w ≡ too_few_words → ⊥
      by (Written.Length n) d e = absurd (omega arith)
      by (Written.Refused k) d e = absurd (omega (arith, write_low k d))

  write-few : (r ≡ too_few_words) ↔ (length words < catalogue_words)
  write-few = only-few (short words) (written_number says) r (lt_iff (length words) catalogue_words) write-apart c.answer

  module _ (h : catalogue_words ≤ length words) where
    write-answer : r ≡ written_number says
    write-answer = behind (short words) too_few_words (written_number says) r (le-ltb (length words) catalogue_words h) c.answer

    write-length : (n : ℕ) → says ≡ Written.Length n → (r % 32 ≡ 0) × (r / 32 ≡ n)
    write-length n e = let a : r ≡ n * 32 = write-answer ∙ ap written_number e in (omega arith, omega arith)

    write-refused : (k : ℕ) → says ≡ Written.Refused k → (r % 32 ≡ k) × (r / 32 ≡ 0) × (out' ≡ out)
    write-refused k e =
        let a : r ≡ k = write-answer ∙ ap written_number e in (
          omega (arith, write_low k e),
          omega (arith, write_low k e),
          behind (short words) out (bytes_after_write says (image_of (catalogue_in words) cells) out) out' (le-ltb (length words) catalogue_words h) c.bytes_after
              ∙ ap (λ (w : Written). bytes_after_write w (image_of (catalogue_in words) cells) out) e,
        )

-- ---- open

-- Of either stream, whose record has w words.
module _ (w : ℕ) (a : Asked) (catalogue cells low high left right words : List ℕ) (r : ℕ) (ks hs ls rs ws : List ℕ)
    (c : Opening (open_short w catalogue words) (opening_for (catalogue_in catalogue) cells a low high left right) low high left right words r ks hs ls rs ws) where
  abbrev o : Opened
  o = opening_for (catalogue_in catalogue) cells a low high left right

  open-low : o.refusal < too_few_words
  open-low = by ((open-exact (catalogue_in catalogue) cells a low high left right).no_other o.refusal refl)
    where
      by : (o.refusal ≡ 0) ⊎ OfCatalogue o.refusal ⊎ (o.refusal ≡ 19) ⊎ (o.refusal ≡ 12) → o.refusal < too_few_words
      by (inl e) = omega arith
      by (inr (inl x)) = omega (arith, of-catalogue-low o.refusal x)
      by (inr (inr (inl e))) = omega arith
      by (inr (inr (inr e))) = omega arith

  open-few : (r ≡ too_few_words) ↔ FewToOpen w catalogue words
  open-few =
      only-few (open_short w catalogue words) (opened_number o) r (open-short-iff w catalogue words) (λ e. absurd (omega (arith, open-low))) c.answer

  open_told : (FewToOpen w catalogue words → ⊥) → OpenTold a o low high left right words r ks hs ls rs ws
  open_told n =
      let f = (iff-no (open_short w catalogue words) (open-short-iff w catalogue words)).1 n in
      let e : r ≡ o.tests * 32 + o.refusal = behind (open_short w catalogue words) too_few_words (opened_number o) r f c.answer in
      record {
        reads = (omega (arith, open-low), omega (arith, open-low));
        leaves = λ h.
            let (z, t) = (demand1 (catalogue_in catalogue) cells a).zeroed low high left right h in (
              behind (open_short w catalogue words) low o.after.store.low ks f c.low-after ∙ ap (λ (q : State). q.store.low) z,
              behind (open_short w catalogue words) high o.after.store.high hs f c.high_after ∙ ap (λ (q : State). q.store.high) z,
              behind (open_short w catalogue words) left o.after.store.left ls f c.left_after ∙ ap (λ (q : State). q.store.left) z,
              behind (open_short w catalogue words) right o.after.store.right rs f c.right-after ∙ ap (λ (q : State). q.store.right) z,
              behind (open_short w catalogue words) words (put (words_of_state o.after) words) ws f c.words-after
                  ∙ ap (λ (q : State). put (words_of_state q) words) z,
            );
      }

-- ---- the stream call

-- A record's words put back where they were read leave all as it was.
put_three : (l : List ℕ) → record_words ≤ length l → put (get_or l 0 0 ∷ (get_or l 1 0 ∷ (get_or l 2 0 ∷ []))) l ≡ l
put_three [] h = absurd (omega arith)
put_three (x ∷ []) h = absurd (omega arith)
put_three (x ∷ y ∷ []) h = absurd (omega arith)
put_three (x ∷ y ∷ z ∷ l) h = refl

put_five : (l : List ℕ) → holding_words ≤ length l → put (get_or l 0 0 ∷ (get_or l 1 0 ∷ (get_or l 2 0 ∷ (get_or l 3 0 ∷ (get_or l 4 0 ∷ []))))) l ≡ l
put_five [] h = absurd (omega arith)
put_five (x ∷ []) h = absurd (omega arith)
put_five (x ∷ y ∷ []) h = absurd (omega arith)
put_five (x ∷ y ∷ z ∷ []) h = absurd (omega arith)
put_five (x ∷ y ∷ z ∷ u ∷ []) h = absurd (omega arith)
put_five (x ∷ y ∷ z ∷ u ∷ v ∷ l) h = refl

-- Of either stream, whose record has w words and reads as a state of these lists.
module _ (w : ℕ) (a : Asked) (catalogue cells low high left right words : List ℕ) (b found taken next : ℕ) (row result : List ℕ) (r : ℕ)
    (ks hs ls rs ws w' res : List ℕ)
    (c : Calling (next_short w catalogue words result) (call (catalogue_in catalogue) cells b (state_for a low high left right found taken next) row)
    low high left right words row result r ks hs ls rs ws w' res) where
  abbrev q : State
  q = state_for a low high left right found taken next

  abbrev s : Called
  s = call (catalogue_in catalogue) cells b q row

  call-low : (k : ℕ) → s.says ≡ refused k → k < too_few_words
  call-low k e = by ((call-exact (catalogue_in catalogue) cells b q row).no_other k e)
    where
      by : OfCatalogue k ⊎ (k ≡ 13) ⊎ (k ≡ 11) ⊎ (k ≡ 12) ⊎ (k ≡ 14) → k < too_few_words
      by (inl x) = omega (arith, of-catalogue-low k x)
      by (inr (inl e)) = omega arith
      by (inr (inr (inl e))) = omega arith
      by (inr (inr (inr (inl e)))) = omega arith
      by (inr (inr (inr (inr e)))) = omega arith

  answer-apart : answer_number s.says ≡ too_few_words → ⊥
  answer-apart = by s.says refl
    where
      by : (x : Says) → s.says ≡ x → answer_number x ≡ too_few_words → ⊥
      by a_set d e = absurd (omega arith)
      by finished d e = absurd (omega arith)
      by working d e = absurd (omega arith)
      by (refused k) d e = absurd (omega (arith, call-low k d))

  answer-reads : Reads (answer_number s.says) s.says
  answer-reads = by s.says refl
    where
      by : (x : Says) → s.says ≡ x → Reads (answer_number x) x
      by a_set d = (refl, refl)
      by finished d = (refl, refl)
      by working d = (refl, refl)
      by (refused k) d = (omega (arith, call-low k d), omega (arith, call-low k d))

  next-few : (r ≡ too_few_words) ↔ FewToCall w catalogue words result
  next-few = only-few (next_short w catalogue words result) (answer_number s.says) r (next-short-iff w catalogue words result) answer-apart c.answer

  next-told : (FewToCall w catalogue words result → ⊥) → put (words_of_state q) words ≡ words
      → CallTold (call_fault (catalogue_in catalogue) (length cells) q row) s low high left right words row result r ks hs ls rs ws w' res
  unfolding first_word second_word
  next-told n p =
      let few = next_short w catalogue words result in
      let f = (iff-no few (next-short-iff w catalogue words result)).1 n in
      record {
        reads = subst (λ (x : ℕ). Reads x s.says) (sym (behind few too_few_words (answer_number s.says) r f c.answer)) answer-reads;
        leaves = λ h.
            let e = call-refused (catalogue_in catalogue) cells b q row (call_fault (catalogue_in catalogue) (length cells) q row) refl h in (
              behind few low s.after.store.low ks f c.low-after ∙ ap (λ (x : Called). x.after.store.low) e,
              behind few high s.after.store.high hs f c.high_after ∙ ap (λ (x : Called). x.after.store.high) e,
              behind few left s.after.store.left ls f c.left_after ∙ ap (λ (x : Called). x.after.store.left) e,
              behind few right s.after.store.right rs f c.right-after ∙ ap (λ (x : Called). x.after.store.right) e,
              behind few words (put (words_of_state s.after) words) ws f c.words-after ∙ ap (λ (x : Called). put (words_of_state x.after) words) e ∙ p,
              behind few row s.row w' f c.row-after ∙ ap (λ (x : Called). x.row) e,
              behind few result (put (result_of_call s) result) res f c.result-after ∙ ap (λ (x : Called). put (result_of_call x) result) e,
            );
      }

-- ---- all of them

-- ---- the hub's list

list-short-iff : (catalogue result : List ℕ) → (list_short catalogue result ≡ true) ↔ ((length catalogue < catalogue_words) ⊎ (length result < verdict_words))
unfolding list_short
list-short-iff catalogue result =
    or-iff (short catalogue) (ltb (length result) verdict_words) (lt_iff (length catalogue) catalogue_words) (lt_iff (length result) verdict_words)

module _ (catalogue cells low high result : List ℕ) (r : ℕ) (result' : List ℕ) (c : ListCall catalogue cells low high result r result') where
  abbrev told : ListVerdict
  told = checked (catalogue_in catalogue) cells (listed_keys low high)

  list-low : (k : ℕ) → told ≡ Hub.Refused k → k < too_few_words
  list-low k e = by ((catalogue-exact (catalogue_in catalogue) (length cells)).no_other k (((list-exact (catalogue_in catalogue) cells low high told refl).refusal k).0 e).1)
    where
      by : (k ≡ 0) ⊎ OfCatalogue k → k < too_few_words
      by (inl z) = omega arith
      by (inr x) = omega (arith, of-catalogue-low k x)

  list-apart : verdict_number told ≡ too_few_words → ⊥
  list-apart = by told refl
    where
      by : (v : ListVerdict) → told ≡ v → verdict_number v ≡ too_few_words → ⊥
      by Hub.Right d e = absurd (omega arith)
      by (Hub.Entry i) d e = absurd (omega arith)
      by (Hub.Missing k) d e = absurd (omega arith)
      by (Hub.Refused k) d e = absurd (omega (arith, list-low k d))

  list-few : (r ≡ too_few_words) ↔ ((length catalogue < catalogue_words) ⊎ (length result < verdict_words))
  list-few = only-few (list_short catalogue result) (verdict_number told) r (list-short-iff catalogue result) list-apart c.answer

  list-told : ((length catalogue < catalogue_words) ⊎ (length result < verdict_words) → ⊥) → ReadsList r told × (result' ≡ put (named_words told) result)
  list-told h = (reads told refl answered, behind (list_short catalogue result) result (put (named_words told) result) result' enough-words c.result-after)
    where
      enough-words : list_short catalogue result ≡ false
      enough-words = (iff-no (list_short catalogue result) (list-short-iff catalogue result)).1 h

      answered : r ≡ verdict_number told
      answered = behind (list_short catalogue result) too_few_words (verdict_number told) r enough-words c.answer

      reads : (v : ListVerdict) → told ≡ v → r ≡ verdict_number v → ReadsList r v
      reads Hub.Right d e = (omega arith, omega arith)
      reads (Hub.Entry i) d e = (omega arith, omega arith)
      reads (Hub.Missing k) d e = (omega arith, omega arith)
      reads (Hub.Refused k) d e = (omega (arith, list-low k d), omega (arith, list-low k d))

pub abi-exact : AbiExact
abi-exact =
    record {
      load-few = load-few;
      load-good = λ image cells words looked r cells' words' looked' c h. subst (λ (x : ℕ). (x ≡ 0) ↔ ((scan_of image (length cells)).verdict ≡ Good))
          (sym (load-answer image cells words looked r cells' words' looked' c h)) (door-good image (length cells));
      load-refused = load-refused;
      make-few = make-few;
      make-told = make-told;
      write-few = write-few;
      write-length = write-length;
      write-refused = write-refused;
      open-few = open-few record_words every_set;
      open_told = open_told record_words every_set;
      open-holding-few = λ catalogue cells low high left right t n. open-few holding_words (every_with (record { table = t; row = n })) catalogue cells
          low high left right;
      open-holding-told = λ catalogue cells low high left right t n. open_told holding_words (every_with (record { table = t; row = n })) catalogue cells
          low high left right;
      next-few = λ catalogue cells low high left right words b row result.
          next-few record_words every_set catalogue cells low high left right words b (get_or words 0 0) (get_or words 1 0) (get_or words 2 0) row result;
      next-told = λ catalogue cells low high left right words b row result r ks hs ls rs ws w' res c n.
          next-told record_words every_set catalogue cells low high left right words b (get_or words 0 0) (get_or words 1 0) (get_or words 2 0) row result r ks hs ls
          rs ws w' res c n
          (put_three words (enough record_words catalogue words result n));
      next-holding-few = λ catalogue cells low high left right words b row result.
          next-few holding_words (every_with (record { table = get_or words 3 0; row = get_or words 4 0 })) catalogue cells low high left right words b
          (get_or words 0 0) (get_or words 1 0) (get_or words 2 0) row result;
      next-holding-told = λ catalogue cells low high left right words b row result r ks hs ls rs ws w' res c n.
          next-told holding_words (every_with (record { table = get_or words 3 0; row = get_or words 4 0 })) catalogue cells low high left right words b
          (get_or words 0 0) (get_or words 1 0) (get_or words 2 0) row result r ks hs ls rs ws w' res c n
          (put_five words (enough holding_words catalogue words result n));
      list-few = list-few;
      list-told = list-told;
    }
  where
    enough : (w : ℕ) (catalogue words result : List ℕ) → (FewToCall w catalogue words result → ⊥) → w ≤ length words
    enough w catalogue words result n = elim (dec_lt (length words) w) [ yes l ↦ absurd (n (inl (inr l))) | no g ↦ omega arith ]
