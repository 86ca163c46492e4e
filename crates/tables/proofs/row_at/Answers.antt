-- `tables::row_at` meets its contract. Invariant: the whole answer is the answer from the table on, with what is left of the place. Assumes nothing.
use Rattle.std.proofs.Common.{◌+◌, ◌-◌, ◌≡◌, sym, ◌∙◌, arith}
use Rattle.tables.proofs.CatalogueLaws.{rows_few, row_here, row-later, row-past}
use Rattle.tables.proofs.row_at.Goals as goal

pub returns-then-left-rows : goal.returns-then-left-rows
returns-then-left-rows c =
    sym (c.loop-table.invariant.1 ∙ row_here _ _ _ _ (omega arith) c.if-left-rows.true)

pub loop-table-preserved : goal.loop-table-preserved
loop-table-preserved c =
    let l = c.loop-table in
    let cat = c.args.cat in
    let e : cat.n - l.table - 1 ≡ cat.n - (l.table + 1) = omega arith in
    (omega arith, l.invariant.1 ∙ row-later cat (cat.n - l.table) l.table l.left (omega arith) c.if-left-rows.false ∙ rw e)

pub overflow_add-result-2 : goal.overflow_add-result-2
overflow_add-result-2 c =
    omega (arith, rows_few c.args.cat _ c.requires.0 c.args.cat.n (omega arith))

pub returns : goal.returns
returns c =
    let l = c.loop-table in
    let cat = c.args.cat in
    let z : cat.n - l.table ≡ 0 = omega arith in
    let e : l.table ≡ cat.n = omega arith in
    sym ((rw (z, e) at l.invariant.1) ∙ row-past _ _ _)
