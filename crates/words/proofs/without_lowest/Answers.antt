-- `words::without_lowest` meets its contract: the word less 1 is its mask (`masked-lowest`). Assumes nothing.
use Rattle.words.proofs.WordLaws.{masked-lowest}
use Rattle.words.proofs.without_lowest.Goals as goal

pub returns : goal.returns
returns c a l = masked-lowest 64 _ a l
