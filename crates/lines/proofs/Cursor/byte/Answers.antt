-- `Cursor::byte` meets its contract: one byte is put, and nothing behind it. Assumes nothing.
use native.Mathlib.Omega.{arith}
use Prim.Native.Nat.{◌+◌}
use mathlib.Core.Path.{sym, ◌∙◌}
use mathlib.Core.List.{[]}
use lib.ListN.{set}
use Rattle.laws.proofs.ListLaws.{put-cons, put-nil}
use borrow.Author.Rules.{rules}
use Rattle.lines.proofs.Cursor.byte.Goals as goal

pub returns-clause-puts : goal.returns-clause-puts
returns-clause-puts c =
    let s = c.args.self.now in
    record { next = search rules; bytes = sym (put-cons s.out.now s.at c.args.b [] (omega arith) ∙ put-nil (set s.out.now s.at c.args.b) (s.at + 1)) }
