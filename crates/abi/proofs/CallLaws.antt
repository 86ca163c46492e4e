-- What each call promises, one law for each way that its code goes. Assumes nothing.
use Prim.Native.Nat.{ℕ, ◌≤◌}
use mathlib.Core.Path.{◌≡◌, ap, subst, ◌∙◌}
use mathlib.Core.Bool.{true, false}
use mathlib.Core.List.{List}
use lib.ListN.{length, get_or, set}
use lib.Dec.{ltb}
use borrow.Author.Tests.{ltb-false}
use Rattle.laws.specs.Lists.{put, part}
use Rattle.laws.proofs.TestLaws.{or-none}
use Rattle.tables.specs.declared.Catalogue.{Catalogue}
use Rattle.tables.specs.Checks.{Made}
use Rattle.tables.specs.Sizes.{most_tables}
use Rattle.tables.specs.Checks.{Makes}
use Rattle.writer.specs.Written.{Written}
use Rattle.loader.specs.Faults.{Loaded}
use Rattle.loader.specs.Load.{first_table, tables_codes, cells_after, Loads}
use Rattle.writer.specs.Write.{Writes}
use Rattle.verdicts.specs.Number.{door_number, looked_in}
use Rattle.abi.specs.Words.{schemes_at, counts_at, catalogue_words, table_words, words_of, shorts_in, catalogue_in}
use Rattle.abi.specs.Calls.{too_few_words, short, LoadCall, make_short, made_in, MakeCall, written_number, WriteCall}

module _ (image cells words looked : List ℕ) where
  pub load-short : short words ≡ true → LoadCall image cells words looked too_few_words cells words looked
  load-short e = record { answer = rw e; cells-after = rw e; words-after = rw e; looked-after = rw e }

  pub load-done : (r : Loaded) (k c : ℕ) (cells' words' looked' : List ℕ) → short words ≡ false → Loads image cells r cells' → k ≡ door_number r.verdict
      → words' ≡ put (words_of r.catalogue) words → c ≡ looked_in r.verdict → looked' ≡ set looked 0 c
      → LoadCall image cells words looked k cells' words' looked'
  load-done r k c cells' words' looked' e l d w h q =
      record {
        answer = rw e (d ∙ ap (λ (x : Loaded). door_number x.verdict) l.answer);
        cells-after = rw e (l.cells ∙ ap (λ (x : Loaded). cells_after x.verdict (tables_codes x.catalogue.n image first_table) cells) l.answer);
        words-after = rw e (w ∙ ap (λ (x : Loaded). put (words_of x.catalogue) words) l.answer);
        looked-after = rw e (q ∙ ap (λ (x : ℕ). set looked 0 x) (h ∙ ap (λ (x : Loaded). looked_in x.verdict) l.answer));
      }

module _ (given words : List ℕ) where
  pub make-short : make_short given words ≡ true → MakeCall given words too_few_words words
  make-short e = record { answer = rw e; words-after = rw e }

  pub make-long : make_short given words ≡ false → (table_words ≤ length given) × (catalogue_words ≤ length words)
  unfolding make_short
  make-long e =
      let c = or-none (ltb (length given) table_words) (short words) e in
      (ltb-false (length given) table_words c.0, ltb-false (length words) catalogue_words c.1)

  pub make-done : (xs cs : List ℕ) (r : Made) (words' : List ℕ) → make_short given words ≡ false → xs ≡ part schemes_at most_tables given → cs ≡ shorts_in given counts_at
      → Makes (get_or given 0 0) (get_or given 1 0) xs cs r → words' ≡ put (words_of r.catalogue) words → MakeCall given words r.refusal words'
  make-done xs cs r words' e x c m w =
      let q : r ≡ made_in given = rw (x, c) at m in
      record {
        answer = rw e (ap (λ (y : Made). y.refusal) q);
        words-after = rw e (w ∙ ap (λ (y : Made). put (words_of y.catalogue) words) q);
      }

module _ (words cells out : List ℕ) where
  pub write-short : short words ≡ true → WriteCall words cells out too_few_words out
  write-short e = record { answer = rw e; bytes_after = rw e }

  pub write_done : (cat : Catalogue) (r : Written) (k : ℕ) (out' : List ℕ) → short words ≡ false → cat ≡ catalogue_in words → Writes cat cells out r out' → k ≡ written_number r
      → WriteCall words cells out k out'
  write_done cat r k out' e c w n =
      let v : Writes (catalogue_in words) cells out r out' = subst (λ (x : Catalogue). Writes x cells out r out') c w in
      record { answer = rw e (n ∙ ap written_number v.answer); bytes_after = rw (e, ← v.answer) v.bytes }
