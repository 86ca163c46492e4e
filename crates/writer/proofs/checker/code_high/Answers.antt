-- `writer::checker::code_high` meets its contract: the library's search asks the same of each code. Assumes nothing.
use Prim.Native.Nat.{◌^◌}
use mathlib.Core.Path.{◌∙◌}
use lib.Dec.{leb}
use borrow.Author.Rules.{rules}
use borrow.Author.Tests.{tests}
use Rattle.std.proofs.lemmas.Iterator.{YieldsList-from_slice}
use Rattle.std.proofs.lemmas.Iterator.Search.{any_from_yields_List}
use Rattle.writer.proofs.WriteLaws.{high-any}
use Rattle.writer.proofs.checker.code_high.Goals as goal

pub returns : goal.returns
returns c =
    any_from_yields_List (λ x. leb (2 ^ 63) x) _ _ _ c.any.ensures.ran (YieldsList-from_slice c.args.row.now cc) (λ x b q k. search (rules, tests)) ∙ high-any _
