-- A write exactly when, and one outcome: the promise's answer is the definition's, and that is exact (crate text, write-exact). Assumes nothing.
use Prim.Native.Nat.{ℕ}
use native.Mathlib.Omega.{arith}
use mathlib.Core.Path.{◌≡◌, refl, sym, ap, ◌∙◌}
use mathlib.Core.List.{List}
use lib.ListN.{length}
use Rattle.text.specs.Writing.{Wrote, wrote, unwritten, write_of, output_after}
use Rattle.text.proofs.WriteExactly.{write-exact}
use Rattle.exporter.specs.TextWritten.{TextWritten, Length, Refused}
use Rattle.exporter.specs.Promise.{answer_of, WritesText}
use Rattle.text_claims.specs.TextClaims.{WriteExactly, OneWriting}

-- What an answer says of what was written.
was-refused : (t : Wrote) (k : ℕ) → answer_of t ≡ Refused k → t ≡ unwritten k
was-refused (wrote s) k e = absurd (let z : ◌≡◌ {A = ℕ} 0 1 = cc in omega arith)
was-refused (unwritten j) k e = cc

pub was-written : (t : Wrote) (n : ℕ) → answer_of t ≡ Length n → (s : List ℕ) × (t ≡ wrote s) × (n ≡ length s)
was-written (wrote s) n e = (s, refl, cc)
was-written (unwritten j) n e = absurd (let z : ◌≡◌ {A = ℕ} 0 1 = cc in omega arith)

module _ (m x count : ℕ) (cells lent : List ℕ) (r : TextWritten) (after : List ℕ) (p : WritesText m x count cells lent r after) where
  abbrev t : Wrote
  t = write_of m x count cells (length lent)

  pub write-exactly : WriteExactly m x count cells lent r after
  write-exactly =
      let exact = write-exact m x count cells (length lent) in
      record {
        refuses = λ k. (λ e. (exact.refuses k).0 (was-refused t k (sym p.answer ∙ e)), λ w. p.answer ∙ ap answer_of ((exact.refuses k).1 w));
        nothing = λ k e. p.bytes ∙ ap (λ (u : Wrote). output_after u lent) (was-refused t k (sym p.answer ∙ e));
        written = λ n e.
            let (s, q, l) = was-written t n (sym p.answer ∙ e) in
            let (g, h, k, b) = (exact.accepts s).0 q in
            (g, h, l ∙ ap length b, p.bytes ∙ ap (λ (u : Wrote). output_after u lent) (q ∙ ap wrote b));
      }

pub one-writing : OneWriting
one-writing = record { answer = λ m x n cells lent r q a b p o. p.answer ∙ sym o.answer; bytes = λ m x n cells lent r q a b p o. p.bytes ∙ sym o.bytes }
