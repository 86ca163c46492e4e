-- `abi::put_catalogue` meets its contract. Invariant: what is left to put from here on makes the whole answer. Assumes nothing.
use Prim.Native.Nat.{◌-◌, ◌≤◌}
use mathlib.Core.Path.{◌≡◌}
use lib.ListN.{length, drop}
use Rattle.laws.specs.Lists.{put, over}
use Rattle.abi.specs.Words.{catalogue_words, words_of}
use Rattle.abi.proofs.put_catalogue.Given as goal

abbrev pub invariant-loop-i : goal.invariant-loop-i
invariant-loop-i l =
    (length l.words ≡ length l.initial.words)
    × (put (words_of l.cat) l.initial.words ≡ over l.i (drop l.i (words_of l.cat)) l.words)
