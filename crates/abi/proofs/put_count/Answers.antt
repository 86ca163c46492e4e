-- `abi::put_count` meets its contract: where no word is lent, none is set. Assumes nothing.
use mathlib.Core.Path.{sym}
use lib.Seq.{set_out}
use Rattle.abi.proofs.put_count.Goals as goal

pub returns-else-words-gt0 : goal.returns-else-words-gt0
returns-else-words-gt0 c = sym (set_out _ 0 _ c.if-words-gt0.false)
