-- `writer::checker::blank` meets its contract: one law for version 2, and one for any other. Assumes nothing.
use native.Mathlib.Omega.{arith}
use mathlib.Core.Path.{◌∙◌, refl, sym}
use lib.Dec.{eqb}
use borrow.Author.Rules.{rules}
use borrow.Author.Tests.{tests}
use Rattle.std.proofs.lemmas.Iterator.{YieldsList-from_slice}
use Rattle.std.proofs.lemmas.Iterator.Search.{all_from_yields_List}
use Rattle.tables.proofs.VersionLaws.{blank-other, blank-two}
use Rattle.writer.proofs.WriteLaws.{null-all}
use Rattle.writer.proofs.checker.blank.Goals as goal

pub returns-in-One : goal.returns-in-One
returns-in-One c = rw c.in-One.is (sym (blank-other _ _ (λ e. absurd (omega arith))))

pub returns-in-Two : goal.returns-in-Two
returns-in-Two c =
    rw c.in-Two.is
    (all_from_yields_List (λ x. eqb x 0) _ _ _ c.all.ensures.ran (YieldsList-from_slice c.args.row.now cc) (λ x b q k. search (rules, tests))
    ∙ null-all _ ∙ sym (blank-two _ _ refl))
