-- `abi::harbour_write` meets its contract: each way is its law's, and no image is so long that its length x 32 wraps. Assumes nothing.
use native.Mathlib.Omega.{arith}
use mathlib.Core.Path.{◌≡◌, refl, sym, ◌∙◌}
use mathlib.Core.Bool.{false}
use borrow.Author.Rules.{rules}
use borrow.Author.Tests.{ltb-false}
use Rattle.writer.proofs.WriteLaws.{written-few}
use Rattle.abi.specs.Words.{catalogue_words}
use Rattle.abi.specs.Calls.{short}
use Rattle.abi.proofs.CallLaws.{write-short, write_done}
use Rattle.abi.proofs.harbour_write.Goals.{Else-too_few}
use Rattle.abi.proofs.harbour_write.Goals as goal

enough : (c : Else-too_few) → short c.args.catalogue.now ≡ false
enough c = sym c.too_few.ensures ∙ c.if-too_few.false

pub returns-then-too_few : goal.returns-then-too_few
returns-then-too_few c = write-short _ _ _ (sym c.too_few.ensures ∙ c.if-too_few.true)

pub catalogue_in-cat-requires : goal.catalogue_in-cat-requires
catalogue_in-cat-requires c = ltb-false _ catalogue_words (enough c)

pub overflow_mul-result : goal.overflow_mul-result
overflow_mul-result c = omega (arith, written-few _ _ _ _ (sym c.in-Ok.ensures.answer))

pub returns-in-Ok : goal.returns-in-Ok
returns-in-Ok c = write_done _ _ _ _ _ _ _ (enough (goal.at.returns-in-Ok c).Else-too_few) c.catalogue_in-cat.ensures c.in-Ok.ensures refl

pub returns-in-Err : goal.returns-in-Err
returns-in-Err c = write_done _ _ _ _ _ _ _ (enough (goal.at.returns-in-Err c).Else-too_few) c.catalogue_in-cat.ensures c.in-Err.ensures (search rules)
