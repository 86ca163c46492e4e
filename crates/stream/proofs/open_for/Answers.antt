-- `stream::open_for` meets its contract: the refusals in their order, the empty stream, and the first row or the row asked for, extended and filed.
-- Assumes nothing.
use Rattle.std.proofs.Common.{Ok, ◌^◌, ◌≡◌, ◌<◌, length, sym, ◌∙◌}
use Rattle.std.proofs.lemmas.Result.{err_from_is_err_and}
use Rattle.std.proofs.lemmas.Grind.{common_steps}
use native.Mathlib.Omega.{arith}
use Rattle.refusals.proofs.RefusalLaws.{number-some}
use Rattle.tables.specs.Catalogues.{total}
use Rattle.tables.specs.Checks.{Lawful}
use Rattle.tables.proofs.CheckLaws.{fault-lawful}
use Rattle.rows.proofs.NamedLaws.{row_small, alone-set, alone-named}
use Rattle.keys.specs.Keys.{bits_per_row}
use Rattle.rows.specs.Named.{There}
use Rattle.store.specs.Store.{store_in, filed}
use Rattle.machine.specs.Machine.{Askable, opening_for}
use Rattle.machine.proofs.RefusalLaws.{stray-iff, open-catalogue, open-stray, open_full, open_free, opening-refused, opening-empty, opening-begun}
use Rattle.stream.specs.Promises.{asked_of}
use Rattle.stream.specs.Parts.{opened_for}
use Rattle.stream.proofs.open_for.Goals.{Else-is_stray, Else-stream-eq0, After-first-first}
use Rattle.stream.proofs.open_for.Goals as goal

pub invariant_of-new : goal.invariant_of-new
invariant_of-new c = record { lawful = fault-lawful _ _ (sym c.in_ok-check.ensures) }

pub returns-in_err-check : goal.returns-in_err-check
returns-in_err-check c =
    let p = err_from_is_err_and c.from_residual.result c.from_residual.ensures.1 in
    let e = c.in_err-check.ensures in
    rw (p.1, p.2) (sym (opening-refused _ _ _ _ _ _ _ _ (open-catalogue _ _ _ _ (λ z. number-some _ (e ∙ z)) ∙ sym e) (number-some _)))

pub returns-then-is_stray : goal.returns-then-is_stray
returns-then-is_stray c =
    sym (opening-refused _ _ _ _ _ _ _ 19 (open-stray _ _ _ _ (fault-lawful _ _ (sym c.in_ok-check.ensures)) (sym (rw c.new-layout.ensures at c.is_stray.ensures) ∙ c.if-is_stray.true)) (λ z. omega arith))

-- The tables are lawful, and the row asked for is there.
checked : (c : Else-is_stray) → Lawful c.args.cat (length c.args.cells.now) × Askable c.args.cat (asked_of c.args.scope)
checked c = (fault-lawful _ _ (sym c.in_ok-check.ensures), (stray-iff _ _).0 (sym (rw c.new-layout.ensures at c.is_stray.ensures) ∙ c.if-is_stray.false))

pub returns-then-stream-eq0 : goal.returns-then-stream-eq0
returns-then-stream-eq0 c =
    let p = checked (goal.at.returns-then-stream-eq0 c).Else-is_stray in
    let z = sym (rw c.new-layout.ensures at c.total_rows.ensures) ∙ c.if-stream-eq0.true in
    rw c.if-stream-eq0.true (sym (opening-empty _ _ _ _ _ _ _ (open_free _ _ _ _ p.0 p.1 (λ h. absurd (omega (arith, z)))) z))

-- There are rows.
some : (c : Else-stream-eq0) → 0 < total c.args.cat
some c = omega (arith, rw c.new-layout.ensures at c.total_rows.ensures, c.if-stream-eq0.false)

pub returns-then-room-eq0 : goal.returns-then-room-eq0
returns-then-room-eq0 c =
    let p = checked (goal.at.returns-then-room-eq0 c).Else-is_stray in
    let h = some (goal.at.returns-then-room-eq0 c).Else-stream-eq0 in
    sym (opening-refused _ _ _ _ _ _ _ 12 (open_full _ _ _ _ p.0 p.1 h (sym c.room.ensures ∙ c.if-room-eq0.true)) (λ z. omega arith))

pub first-first-requires : goal.first-first-requires
first-first-requires c =
    let p = checked (goal.at.first-first-requires c).Else-is_stray in
    let h = some (goal.at.first-first-requires c).Else-stream-eq0 in
    rw c.new-layout.ensures (p.1, h)

-- The row that the stream begins with is there, and a key has room for it.
begins : (c : After-first-first) → There c.args.cat c.first-first.result.table c.first-first.result.row × (c.first-first.result.row < 2 ^ bits_per_row)
begins c =
    let p = checked (goal.at-After-first-first c).Else-is_stray in
    let x = rw c.new-layout.ensures at c.first-first.ensures.there in
    (x, row_small _ _ p.0 _ _ x)

pub with_row-alone-requires : goal.with_row-alone-requires
with_row-alone-requires c =
    let p = checked (goal.at.with_row-alone-requires c).Else-is_stray in
    let b = begins (goal.at.with_row-alone-requires c).After-first-first in
    (omega (arith, b.0.table, p.0.tables), b.1)

pub extend-grown-requires : goal.extend-grown-requires
extend-grown-requires c =
    let b = begins (goal.at.extend-grown-requires c).After-first-first in
    rw (c.new-layout.ensures, c.with_row-alone.ensures, c.none.ensures) (alone-named _ _ _ b.0 b.1)

pub returns : goal.returns
unfolding filed
returns c =
    let a = c.args in
    let p = checked (goal.at.returns c).Else-is_stray in
    let h = some (goal.at.returns c).Else-stream-eq0 in
    let b = begins (goal.at.returns c).After-first-first in
    let e = alone-set a.cat a.cells.now c.first-first.result.table c.first-first.result.row b.0 b.1 in
    let g = rw (c.new-layout.ensures, c.with_row-alone.ensures, c.none.ensures, e) at c.extend-grown.ensures in
    let o = c.file_record.ensures.holds in
    let u = open_free a.cat _ (asked_of a.scope) (store_in a.low.now a.high.now a.left.now a.right.now 0) p.0 p.1 (λ z. omega (arith, c.room.ensures, c.if-room-eq0.false)) in
    let i = rw c.new-layout.ensures at c.first-first.ensures.first in
    let new = c.file_record.new.self in
    let f : opened_for (asked_of a.scope) (Ok (record { stream = record { found = 1; taken = 0; next_row = c.total_rows.result }; tests = c.extend-grown.result.tests }))
    new.low.now new.high.now new.left.now new.right.now ≡ opening_for a.cat a.cells.now (asked_of a.scope) a.low.now a.high.now a.left.now a.right.now =
    rw (o.low, o.high, o.left, o.right, g.key, g.tests, c.total_rows.ensures, c.new-layout.ensures)
    (rw (← i) at (sym (opening-begun a.cat a.cells.now (asked_of a.scope) a.low.now a.high.now a.left.now a.right.now u h)))
    in
    grind (arith, common_steps)
