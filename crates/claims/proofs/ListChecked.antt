-- The check of the hub's list: its answers exactly when. Behind a lawful catalogue they are the verdicts on the listed words, which crate hub says of
-- the words themselves; the promise cites that very definition. Assumes nothing.
use Prim.Native.Nat.{ℕ}
use native.Mathlib.Omega.{arith}
use native.Mathlib.Decide.{ℕ_discrete}
use mathlib.Core.Path.{◌≡◌, refl, sym, ap, subst, ◌∙◌}
use mathlib.Core.Logic.{◌⊎◌, inl, inr, ◌↔◌}
use mathlib.Core.List.Memᴰ
use mathlib.Core.List.{List, [], ◌∷◌}
use lib.ListN.{length}
use Rattle.laws.specs.Distinct.{none}
use Rattle.tables.specs.declared.Catalogue.{Catalogue}
use Rattle.tables.specs.Catalogues.{total}
use Rattle.tables.specs.Checks.{catalogue_fault, Lawful}
use Rattle.tables.proofs.CheckLaws.{fault-lawful, lawful-fault}
use Rattle.disjunction.specs.Rule.{rows}
use Rattle.disjunction.proofs.KeepingLaws.{none-jcc}
use Rattle.rows.specs.World.{world_of}
use Rattle.rows.proofs.WorldLaws.{rows-total}
use Rattle.keys.specs.Keys.{bits_per_row, key_of}
use Rattle.keys.specs.TwoWords.{key_with}
use Rattle.hub.specs.Answers.{ListVerdict, Right, Entry, Missing, Refused}
use Rattle.hub.specs.Verdicts.{Verdict, right, entry, missing, verdict}
use Rattle.hub.specs.Promises.{listed_keys, word_sets, answer_of, checked, ChecksList, SoundKeys, RightKeys, FirstOutKey}
use Rattle.hub.proofs.KeyVerdicts.{keys-right, keys-entry, keys-missing, missing-key, never-refused}
use Rattle.hub.proofs.JudgingLaws.{checked_refused, checked-lawful, none-missing}
use Rattle.claims.specs.ListChecks.{ListExact}

module _ (cat : Catalogue) (cells words : List ℕ) where
  abbrev fault : ℕ
  fault = catalogue_fault cat (length cells)

  abbrev said : ListVerdict
  said = answer_of (verdict (world_of cat cells) (word_sets cat words))

  -- Another answer than a refusal comes behind a lawful catalogue, and is the verdict on the words.
  behind : (v : ListVerdict) → ((k : ℕ) → v ≡ Refused k → ⊥) → checked cat cells words ≡ v → Lawful cat (length cells) × (said ≡ v)
  behind v n e = by (ℕ_discrete fault 0)
    where
      by : Dec (fault ≡ 0) → Lawful cat (length cells) × (said ≡ v)
      by (yes z) = (fault-lawful cat (length cells) z, sym (checked-lawful cat cells words z) ∙ e)
      by (no h) = absurd (n fault (sym e ∙ checked_refused cat cells words fault refl h))

  -- And back.
  before : (v : ListVerdict) → Lawful cat (length cells) → said ≡ v → checked cat cells words ≡ v
  before v L e = checked-lawful cat cells words (lawful-fault cat (length cells) L) ∙ e

  -- So each line of the verdict is a line of the check.
  line : (v : ListVerdict) (P : Type 0) → ((k : ℕ) → v ≡ Refused k → ⊥) → (Lawful cat (length cells) → (said ≡ v) ↔ P)
      → (checked cat cells words ≡ v) ↔ (Lawful cat (length cells) × P)
  line v P n f = (λ e. let (L, q) = behind v n e in (L, (f L).0 q), λ (L, p). before v L ((f L).1 p))

  right-line : (checked cat cells words ≡ Right) ↔ (Lawful cat (length cells) × RightKeys cat cells words)
  right-line =
      line Right (RightKeys cat cells words) (λ k e. let z : ◌≡◌ {A = ℕ} 0 1 = cc in omega arith) (λ L. keys-right cat cells (length cells) L words)

  refusal-line : (k : ℕ) → (checked cat cells words ≡ Refused k) ↔ ((k ≡ 0 → ⊥) × (fault ≡ k))
  refusal-line k = (λ e. by e (ℕ_discrete fault 0), λ (n, e). checked_refused cat cells words k (sym e) n)
    where
      by : checked cat cells words ≡ Refused k → Dec (fault ≡ 0) → (k ≡ 0 → ⊥) × (fault ≡ k)
      by e (yes z) = absurd (never-refused cat cells (length cells) (fault-lawful cat (length cells) z) words (verdict (world_of cat cells) (word_sets cat words)) k (sym (checked-lawful cat cells words z) ∙ e))
      by e (no h) = let f = checked_refused cat cells words fault refl h in let q : fault ≡ k = cc in (λ z. h (q ∙ z), q)

  missing-line : (k : ℕ) → (checked cat cells words ≡ Missing (key_with k)) ↔ (Lawful cat (length cells) × (SoundKeys cat cells words × FirstOutKey cat cells words k))
  missing-line k =
      line (Missing (key_with k)) (SoundKeys cat cells words × FirstOutKey cat cells words k) (λ j e. let z : ◌≡◌ {A = ℕ} 0 1 = cc in omega arith)
      (λ L. keys-missing cat cells (length cells) L words k)

  -- Without rows there is no maximal set.
  rowless-line : total cat ≡ 0 → (checked cat cells words ≡ Right) ↔ (Lawful cat (length cells) × (words ≡ []))
  rowless-line z = (λ e. let (L, x) = right-line.0 e in (L, only words x), λ (L, e). right-line.1 (L, subst (RightKeys cat cells) (sym e) empty))
    where
      bare : length (rows (world_of cat cells)) ≡ 0
      bare = rows-total cat cells ∙ z

      only : (l : List ℕ) → RightKeys cat cells l → l ≡ []
      only [] x = refl
      only (k ∷ l) x = let (T, y, q) = x.sound.only k (Memᴰ.head refl) in absurd (none-jcc (world_of cat cells) bare T y.jcc)

      empty : RightKeys cat cells []
      empty =
          record {
            sound = record { once = none; only = λ k m. absurd (Memᴰ.not-nil m) };
            every = λ T y. absurd (none-jcc (world_of cat cells) bare T y.jcc);
          }

  checked-exact : ListExact cat cells words (checked cat cells words)
  checked-exact =
      record {
        refusal = refusal-line;
        right = right-line;
        rowless = rowless-line;
        entry = λ i. line (Entry i) _ (λ k e. let z : ◌≡◌ {A = ℕ} 0 1 = cc in omega arith) (λ L. keys-entry cat cells (length cells) L words i);
        missing = λ k. let (f, g) = missing-line k in (λ e. let (L, p) = f e in (L, p.0, p.1), λ (L, s, x). g (L, (s, x)));
        missing-set = λ k e.
            let (L, q) = behind (Missing (key_with k)) (λ j f. let z : ◌≡◌ {A = ℕ} 0 1 = cc in omega arith) e in missing-key cat cells (length cells) L words k q;
        missing-first = λ e L h. before _ L (ap (λ (l : List ℕ). answer_of (verdict (world_of cat cells) (word_sets cat l))) e ∙ none-missing cat cells (length cells) L h);
        no_other = by (ℕ_discrete fault 0);
      }
    where
      One : ListVerdict → Type 0
      One r = ((k : ℕ) × (r ≡ Refused k)) ⊎ (r ≡ Right) ⊎ ((i : ℕ) × (r ≡ Entry i)) ⊎ ((k : ℕ) × (r ≡ Missing (key_with k)))

      told : (v : Verdict) → One (answer_of v)
      told right = inr (inl refl)
      told (entry i) = inr (inr (inl (i, refl)))
      told (missing T) = inr (inr (inr (key_of bits_per_row T, refl)))

      by : Dec (fault ≡ 0) → One (checked cat cells words)
      by (yes z) = subst One (sym (checked-lawful cat cells words z)) (told (verdict (world_of cat cells) (word_sets cat words)))
      by (no h) = inl (fault, checked_refused cat cells words fault refl h)

-- Whatever meets the promise of the public call.
pub list-exact : (cat : Catalogue) (cells low high : List ℕ) (r : ListVerdict) → ChecksList cat cells low high r
    → ListExact cat cells (listed_keys low high) r
list-exact cat cells low high r e = subst (ListExact cat cells (listed_keys low high)) (sym e) (checked-exact cat cells (listed_keys low high))
