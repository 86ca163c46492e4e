-- `stream::hand_out` meets its contract: all are handed out, or the next key is named, or it is not, each by its law of the loop. Assumes nothing.
use Rattle.std.proofs.Common.{sym, ◌∙◌}
use Rattle.rows.proofs.NamedLaws.{named-iff}
use Rattle.padding.specs.Padding.{padded_row}
use Rattle.machine.proofs.LoopLaws.{loop-finished, loop-set, loop-lost}
use Rattle.stream.specs.Parts.{stream_in}
use Rattle.stream.proofs.StreamLaws.{number-none}
use Rattle.stream.proofs.hand_out.Goals as goal

pub returns-then-stream : goal.returns-then-stream
returns-then-stream c =
    let a = c.args in
    λ v b. rw number-none (sym (loop-finished a.tables.now.catalogue a.tables.now.cells.now a.padded.now a.counts.trials a.counts.tests a.counts.looks b (stream_in v a.stream a.store.now) c.requires.0 c.if-stream.true))

pub returns-then-not-named : goal.returns-then-not-named
returns-then-not-named c =
    let a = c.args in
    λ v b. rw number-none
    (sym (loop-lost a.tables.now.catalogue a.tables.now.cells.now a.padded.now a.counts.trials a.counts.tests a.counts.looks b (stream_in v a.stream a.store.now) c.requires.0 c.if-stream.false (rw c.key_at-key.ensures at (sym c.named.ensures ∙ c.if-not-named.true))))

pub pad_row-requires : goal.pad_row-requires
pad_row-requires c = ((named-iff _ _).0 (sym c.named.ensures ∙ c.if-not-named.false), c.requires.3)

pub returns : goal.returns
unfolding padded_row
returns c =
    let a = c.args in
    λ v b. rw (c.pad_row.ensures, c.key_at-key.ensures)
    (sym (loop-set a.tables.now.catalogue a.tables.now.cells.now a.padded.now a.counts.trials a.counts.tests a.counts.looks b (stream_in v a.stream a.store.now) c.requires.0 c.if-stream.false (rw c.key_at-key.ensures at (sym c.named.ensures ∙ c.if-not-named.false))))
