-- `abi::streams::harbour_next` meets its contract: too few words, or the call. Assumes nothing.
use mathlib.Core.Path.{◌≡◌, sym, ◌∙◌}
use mathlib.Core.Bool.{false}
use Rattle.abi.specs.Streams.{record_words, next_short}
use Rattle.abi.proofs.StreamCallLaws.{next-enough, next-short}
use Rattle.abi.proofs.streams.harbour_next.Goals.{Else-next_short}
use Rattle.abi.proofs.streams.harbour_next.Goals as goal

enough : (c : Else-next_short) → next_short record_words c.args.catalogue.now c.args.words.now c.args.res.now ≡ false
enough c = sym c.next_short.ensures ∙ c.if-next_short.false

pub returns-then-next_short : goal.returns-then-next_short
returns-then-next_short c = next-short _ _ _ _ _ _ _ _ _ (sym c.next_short.ensures ∙ c.if-next_short.true)

pub next_for-requires : goal.next_for-requires
next_for-requires c =
    let (a, b, d) = next-enough record_words _ _ _ (enough (goal.at.next_for-requires c).Else-next_short) in (a, b, d)

pub returns : goal.returns
returns c = rw (enough (goal.at.returns c).Else-next_short) c.next_for.ensures
