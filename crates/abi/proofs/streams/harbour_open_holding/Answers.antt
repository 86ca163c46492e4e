-- `abi::streams::harbour_open_holding` meets its contract: too few words, or the open. Assumes nothing.
use mathlib.Core.Path.{◌≡◌, sym, ◌∙◌}
use mathlib.Core.Bool.{false}
use Rattle.abi.specs.Streams.{holding_words, open_short}
use Rattle.abi.proofs.StreamCallLaws.{open-enough, open-short}
use Rattle.abi.proofs.streams.harbour_open_holding.Goals.{Else-open_short}
use Rattle.abi.proofs.streams.harbour_open_holding.Goals as goal

enough : (c : Else-open_short) → open_short holding_words c.args.catalogue.now c.args.words.now ≡ false
enough c = sym c.open_short.ensures ∙ c.if-open_short.false

pub returns-then-open_short : goal.returns-then-open_short
returns-then-open_short c = open-short _ _ _ _ _ _ _ (sym c.open_short.ensures ∙ c.if-open_short.true)

pub open_for-requires : goal.open_for-requires
open_for-requires c = open-enough holding_words _ _ (enough (goal.at.open_for-requires c).Else-open_short)

pub returns : goal.returns
returns c = rw (enough (goal.at.returns c).Else-open_short) c.open_for.ensures
