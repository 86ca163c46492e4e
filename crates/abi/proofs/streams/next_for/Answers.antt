-- `abi::streams::next_for` meets its contract, by the law of a call. Assumes nothing.
use mathlib.Core.Path.{refl}
use Rattle.stream.specs.Answers.{step_answer_of}
use Rattle.stream.specs.Promises.{asked_of}
use Rattle.abi.proofs.StreamCallLaws.{next-done}
use Rattle.abi.proofs.streams.next_for.Goals as goal

pub returns : goal.returns
returns c =
    next-done _ _ _ _ _ _ _ _ _ (asked_of c.args.scope) (step_answer_of c.step_for-stepped.result) _ _ _ _ _ _ _ _ refl
    (rw (c.catalogue_in-cat.ensures, c.record_in-before.ensures) at c.step_for-stepped.ensures)
    c.number_of.ensures c.put_record.ensures (rw c.key_of.ensures at c.put_result.ensures)
