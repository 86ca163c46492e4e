-- `abi::streams::open_for` meets its contract: opened or refused, by the law of an open, and row tests x 32 do not wrap. Assumes nothing.
use native.Mathlib.Omega.{arith}
use Prim.Native.Nat.{◌*◌}
use mathlib.Core.Path.{refl, sym, ◌∙◌}
use Rattle.std.proofs.Common.{Ok, Err, add-zero, zero-add}
use Rattle.machine.specs.Machine.{blank}
use Rattle.stream.specs.Answers.{open_answer_of}
use Rattle.stream.specs.Promises.{asked_of}
use Rattle.abi.proofs.StreamCallLaws.{opened-low, open_done}
use Rattle.abi.proofs.streams.open_for.Goals as goal

pub overflow_mul-result : goal.overflow_mul-result
overflow_mul-result c = omega (arith, opened-low _ _ _ _ _ _ _ _ 18446744073709551616 c.in-Ok.ensures (omega arith) (omega arith))

pub returns-in-Ok : goal.returns-in-Ok
returns-in-Ok c =
    let o = c.in-Ok.field-0 in
    open_done _ _ _ _ _ _ _ (asked_of c.args.scope) (open_answer_of (Ok o)) _ _ _ _ _ _ refl (rw c.catalogue_in-cat.ensures at c.in-Ok.ensures)
    (sym (add-zero (o.tests * 32))) c.put_record.ensures

pub returns-in-Err : goal.returns-in-Err
returns-in-Err c =
    open_done _ _ _ _ _ _ _ (blank (asked_of c.args.scope)) (open_answer_of (Err c.in-Err.refusal)) _ _ _ _ _ _ refl (rw c.catalogue_in-cat.ensures at c.in-Err.ensures)
    (c.from.ensures ∙ sym (zero-add _)) c.put_zeros.ensures
