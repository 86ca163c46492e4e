-- What the check of a list promises from C, one law for each way that its code goes. Assumes nothing.
use Prim.Native.Nat.{ℕ, ◌≤◌}
use mathlib.Core.Path.{◌≡◌, ap, subst, ◌∙◌}
use mathlib.Core.Bool.{true, false}
use mathlib.Core.List.{List, ◌++◌}
use lib.ListN.{length, drop}
use lib.Dec.{ltb}
use borrow.Author.Tests.{ltb-false}
use Rattle.laws.specs.Lists.{put}
use Rattle.laws.proofs.TestLaws.{or-none}
use Rattle.tables.specs.declared.Catalogue.{Catalogue}
use Rattle.hub.specs.Answers.{ListVerdict}
use Rattle.hub.specs.Promises.{ChecksList}
use Rattle.abi.specs.Words.{catalogue_words, catalogue_in}
use Rattle.abi.specs.Calls.{too_few_words, short}
use Rattle.abi.specs.Lists.{verdict_number, named_words, verdict_words, list_short, ListCall}

module _ (catalogue cells low high result : List ℕ) where
  -- Enough words: those of a catalogue, and the two of a result.
  pub list-enough : list_short catalogue result ≡ false → (catalogue_words ≤ length catalogue) × (verdict_words ≤ length result)
  unfolding list_short
  list-enough e =
      let x = or-none (short catalogue) (ltb (length result) verdict_words) e in
      (ltb-false (length catalogue) catalogue_words x.0, ltb-false (length result) verdict_words x.1)

  pub list-short : list_short catalogue result ≡ true → ListCall catalogue cells low high result too_few_words result
  list-short e = record { answer = rw e; result-after = rw e }

  pub list_done : (cat : Catalogue) (v : ListVerdict) (k : ℕ) (words result' : List ℕ) → list_short catalogue result ≡ false → cat ≡ catalogue_in catalogue
      → ChecksList cat cells low high v → k ≡ verdict_number v → words ≡ named_words v → result' ≡ words ++ drop verdict_words result → ListCall catalogue cells low high result k result'
  list_done cat v k words result' e c p n m w =
      let q : ChecksList (catalogue_in catalogue) cells low high v = subst (λ (x : Catalogue). ChecksList x cells low high v) c p in
      record {
        answer = rw e (n ∙ ap verdict_number q);
        result-after = rw e (w ∙ ap (λ (x : List ℕ). x ++ drop verdict_words result) m ∙ ap (λ (x : ListVerdict). put (named_words x) result) q);
      }
