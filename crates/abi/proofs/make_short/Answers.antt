-- `abi::make_short` meets its contract: either is too short. Assumes nothing.
use borrow.Author.Tests.{lt-ltb, le-ltb}
use lib.ListN.{length}
use Rattle.abi.specs.Words.{table_words}
use Rattle.abi.specs.Calls.{make_short}
use Rattle.abi.proofs.make_short.Goals as goal

pub returns-then-given-lt-TABLE_WORDS : goal.returns-then-given-lt-TABLE_WORDS
unfolding make_short
returns-then-given-lt-TABLE_WORDS c = rw (lt-ltb (length c.args.given.now) table_words c.if-given-lt-TABLE_WORDS.true)

pub returns : goal.returns
unfolding make_short
returns c = rw (le-ltb (length c.args.given.now) table_words c.if-given-lt-TABLE_WORDS.false) c.too_few.ensures
