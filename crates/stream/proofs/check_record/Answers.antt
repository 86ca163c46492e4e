-- `stream::check_record` meets its contract: one part of fitting fails, or all hold. Assumes nothing.
use Rattle.std.proofs.Common.{refl, sym, ◌∙◌}
use native.Mathlib.Omega.{arith}
use Rattle.laws.proofs.TestLaws.{clash}
use Rattle.machine.specs.Machine.{Fit}
use Rattle.machine.proofs.RefusalLaws.{stray-iff, unfit-iff, unfit-met}
use Rattle.stream.specs.Promises.{asked_of}
use Rattle.stream.specs.Parts.{stream_in}
use Rattle.stream.proofs.check_record.Goals.{then-is_stray-via-then-is_stray, then-is_stray-via-else-is_stray+then-room-s, then-is_stray-via-else-is_stray+else-room-s+then-s, then-is_stray-via-else-is_stray+else-room-s+else-s+then-total-s, then-is_stray-via-else-is_stray+else-room-s+else-s+else-total-s+then-s-total, then-is_stray-via-else-is_stray+else-room-s+else-s+else-total-s+else-s-total+then-total-ne0, then-is_stray-via-else-is_stray+else-room-s+else-s+else-total-s+else-s-total+else-total-ne0+then-total-eq0}
use Rattle.stream.proofs.check_record.Goals as goal

-- A record that fails one part does not fit.
fails : (c : goal.Joined-then-is_stray) → Fit c.args.tables.now.catalogue (stream_in (asked_of c.args.scope) c.args.s c.args.store.now) → ⊥
fails c g =
    let t = c.total_rows-total.ensures in
    elim c.then-is_stray.branch [
      | then-is_stray-via-then-is_stray w ↦ clash (sym c.is_stray.ensures ∙ w.if-is_stray.true) ((stray-iff _ _).1 g.asked)
      | then-is_stray-via-else-is_stray+then-room-s w ↦ omega (arith, g.room)
      | then-is_stray-via-else-is_stray+else-room-s+then-s w ↦ omega (arith, g.taken)
      | then-is_stray-via-else-is_stray+else-room-s+else-s+then-total-s w ↦ omega (arith, g.next)
      | then-is_stray-via-else-is_stray+else-room-s+else-s+else-total-s+then-s-total w ↦ w.if-s-total.true.1 (g.begun w.if-s-total.true.0 ∙ sym t)
      | then-is_stray-via-else-is_stray+else-room-s+else-s+else-total-s+else-s-total+then-total-ne0 w ↦ omega (arith, g.some (omega arith))
      | then-is_stray-via-else-is_stray+else-room-s+else-s+else-total-s+else-s-total+else-total-ne0+then-total-eq0 w ↦ omega (arith, g.none (omega arith))
    ]

pub returns-then-is_stray : goal.returns-then-is_stray
returns-then-is_stray c = rw (unfit-met _ _ (fails c)) refl

pub returns : goal.returns
returns c =
    let t = c.total_rows-total.ensures in
    let f : Fit c.args.tables.now.catalogue (stream_in (asked_of c.args.scope) c.args.s c.args.store.now) =
    record {
      room = omega arith;
      taken = c.if-s.false;
      next = omega arith;
      begun = λ z. omega (arith, z);
      some = λ p. omega (arith, p);
      none = λ z. omega (arith, z);
      asked = (stray-iff _ _).0 (sym c.is_stray.ensures ∙ c.if-is_stray.false);
    } in
    rw ((unfit-iff _ _).1 f) refl
