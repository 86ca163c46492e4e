-- "reading that gives the same table": the bytes of a write, read again, whoever wrote and read them by the two promises. Assumes nothing.
use Prim.Native.Nat.{ℕ, ◌*◌, ◌≤◌}
use mathlib.Core.Path.{◌≡◌, sym, ap, ◌∙◌}
use mathlib.Core.List.{List}
use lib.ListN.{length, take, drop}
use lib.Seq.{take_at}
use lib.Count.{ones}
use Rattle.laws.specs.Lists.{put}
use Rattle.text.specs.Reading.{Told, table, read_of, cells_after}
use Rattle.text.specs.Writing.{cut, Wrote, write_of, output_after}
use Rattle.text.proofs.RoundTrip.{round_trip, flat-cut, length_cut}
use Rattle.importer.specs.Answers.{TextRead, Table}
use Rattle.importer.specs.Promise.{answer_of, ReadsText}
use Rattle.exporter.specs.TextWritten.{Length}
use Rattle.exporter.specs.Promise.{WritesText}
use Rattle.text_claims.specs.TextClaims.{ComesBack}
use Rattle.text_claims.proofs.Writings.{was-written}

pub comes_back : (m x count n : ℕ) (cells out bytes : List ℕ) → WritesText m x count cells out (Length n) bytes
    → (lent : List ℕ) (r : TextRead) (after : List ℕ) → ReadsText m (take n bytes) lent r after → count * ones x ≤ length lent → ComesBack m x count cells lent r after
comes_back m x count n cells out bytes p lent r after q fits =
    let (s, e, l) = was-written (write_of m x count cells (length out)) n (sym p.answer) in
    let b : take n bytes ≡ s = rw (p.bytes ∙ ap (λ (u : Wrote). output_after u out) e) (take_at s (drop (length s) out) n (sym l)) in
    let t : read_of m (length lent) (take n bytes) ≡ table x (cut count (ones x) cells) = rw b (round_trip m x count (length lent) (length out) cells s e fits) in
    record {
      answer = q.answer ∙ ap answer_of t ∙ ap (Table x) (length_cut count (ones x) cells);
      cells_are = q.cells ∙ ap (λ (u : Told). cells_after u lent) t ∙ ap (λ (f : List ℕ). put f lent) (flat-cut count (ones x) cells);
    }
