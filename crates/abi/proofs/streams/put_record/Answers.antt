-- `abi::streams::put_record` meets its contract: three words, put one by one, and two words more where a row is named. Assumes nothing.
use Prim.Native.Nat.{◌≤◌}
use mathlib.Core.Path.{◌≡◌}
use mathlib.Core.List.{List, ◌++◌}
use Prim.Native.Nat.{ℕ}
use lib.ListN.{length, set}
use Rattle.laws.specs.Lists.{put}
use Rattle.stream.specs.declared.StreamRecord.{StreamRecord}
use Rattle.stream.specs.declared.Scope.{Scope}
use Rattle.stream.specs.declared.Scope.TheVariants.{Every, With}
use Rattle.stream.specs.Promises.{asked_of}
use Rattle.abi.specs.Streams.{words_for, words_of_record, words_of_asked}
use Rattle.abi.proofs.StreamCallLaws.{put_three}
use Rattle.abi.proofs.streams.put_record.Goals as goal

-- Where no row is named there are three words.
three : (scope : Scope) (s : StreamRecord) (words : List ℕ) → scope ≡ Every → words_for (asked_of scope) ≤ length words
    → set (set (set words 0 s.found) 1 s.taken) 2 s.next_row ≡ put (words_of_record s ++ words_of_asked (asked_of scope)) words
three Every s words e h = put_three _ _ _ words h
three (With x) s words e h = cc

pub returns-in_default : goal.returns-in_default
returns-in_default c = three c.args.scope c.args.stream c.args.words.now c.in_default.is c.requires
