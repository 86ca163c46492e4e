-- `lines::read_decimal` meets its contract. Invariant: what the word says is what the bytes from here on say behind the digits so far. Assumes nothing.
use Rattle.std.proofs.Common.{◌≡◌, drop}
use Rattle.lines.specs.Decimals.{word_from, word_of}
use Rattle.lines.proofs.read_decimal.Given as goal

abbrev pub invariant-loop-b : goal.invariant-loop-b
invariant-loop-b l = word_of l.word ≡ word_from l.v (drop l.b-index l.word)
