-- A reading exactly when, and one outcome: the promise's answer is what is told, and what is told is exact (crate text, text-exact). Assumes nothing.
use Prim.Native.Nat.{ℕ}
use native.Mathlib.Omega.{arith}
use mathlib.Core.Path.{◌≡◌, sym, ap, ◌∙◌}
use mathlib.Core.List.{List}
use lib.ListN.{length}
use Rattle.text.specs.Reading.{Told, table, refused, read_of, cells_after}
use Rattle.text.specs.Refusals.{ReadWhole}
use Rattle.text.proofs.TextExactly.{text-exact}
use Rattle.importer.specs.Answers.{TextRead, Table, Refused}
use Rattle.importer.specs.Promise.{answer_of, ReadsText}
use Rattle.text_claims.specs.TextClaims.{ReadExactly, OneReading}

-- What an answer says of what was told.
told-refused : (t : Told) (k l f : ℕ) → answer_of t ≡ Refused k l f → t ≡ refused k l f
told-refused (table x rows) k l f e = absurd (let z : ◌≡◌ {A = ℕ} 0 1 = cc in omega arith)
told-refused (refused a b c) k l f e = cc

told-table : (t : Told) (x n : ℕ) → answer_of t ≡ Table x n → (rows : List (List ℕ)) × (t ≡ table x rows) × (n ≡ length rows)
told-table (table y rows) x n e = (rows, cc, cc)
told-table (refused a b c) x n e = absurd (let z : ◌≡◌ {A = ℕ} 0 1 = cc in omega arith)

module _ (m : ℕ) (s lent : List ℕ) (r : TextRead) (after : List ℕ) (p : ReadsText m s lent r after) where
  abbrev t : Told
  t = read_of m (length lent) s

  accepted : (x n : ℕ) → r ≡ Table x n → (rows : List (List ℕ)) × ReadWhole m (length lent) s x rows × (n ≡ length rows)
  accepted x n e =
      let (rows, q, l) = told-table t x n (sym p.answer ∙ e) in
      (rows, ((text-exact m (length lent) s).accepts x rows).0 q, l)

  accepts-back : (x n : ℕ) → ((rows : List (List ℕ)) × ReadWhole m (length lent) s x rows × (n ≡ length rows)) → r ≡ Table x n
  accepts-back x n (rows, w, l) = p.answer ∙ ap answer_of (((text-exact m (length lent) s).accepts x rows).1 w) ∙ ap (Table x) (sym l)

  pub read-exactly : ReadExactly m s lent r after
  read-exactly =
      record {
        refuses = λ k l f. (
          λ e. ((text-exact m (length lent) s).refuses k l f).0 (told-refused t k l f (sym p.answer ∙ e)),
          λ w. p.answer ∙ ap answer_of (((text-exact m (length lent) s).refuses k l f).1 w),
        );
        accepts = λ x n. (accepted x n, accepts-back x n);
        nothing = λ k l f e. p.cells ∙ ap (λ (u : Told). cells_after u lent) (told-refused t k l f (sym p.answer ∙ e));
        filled = λ x rows w. p.cells ∙ ap (λ (u : Told). cells_after u lent) (((text-exact m (length lent) s).accepts x rows).1 w);
      }

pub one-reading : OneReading
one-reading = record { answer = λ m s lent r q a b p o. p.answer ∙ sym o.answer; cells = λ m s lent r q a b p o. p.cells ∙ sym o.cells }
