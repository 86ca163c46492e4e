-- `importer::read_rows` meets its contract: the lines are collected, 6 and 8 are tested, and then the cells are filled. Assumes nothing.
use mathlib.Core.Logic.{⊎_elim}
use Rattle.importer.proofs.ReadLaws.{rows-most, rows-room, rows-table}
use Rattle.importer.proofs.read_rows.Goals as goal

pub returns-then-needed-gt-MOST_CELLS : goal.returns-then-needed-gt-MOST_CELLS
returns-then-needed-gt-MOST_CELLS c =
    let a = c.args in
    let k = c.collect.new.kept in
    let e = rw c.new-kept.ensures.0 at c.in_ok-collect.ensures.told in
    rw c.whole.ensures
    (⊎_elim
    (λ h. rows-most a.header.width a.text.now a.header.rows a.header.scheme a.cells.now k.count k.places e k.room (rw c.len.ensures at h))
    (λ h. rows-room a.header.width a.text.now a.header.rows a.header.scheme a.cells.now k.count k.places e k.room (rw c.len.ensures at h.1))
    c.then-needed-gt-MOST_CELLS.either)

pub returns : goal.returns
returns c =
    let a = c.args in
    let k = c.collect.new.kept in
    let e = rw c.new-kept.ensures.0 at c.in_ok-collect.ensures.told in
    let f = rw (c.collect.ensures.same_lines, c.new-kept.ensures.0) at c.fill.ensures in
    rw c.len-2.ensures
    (rows-table a.header.width a.text.now a.header.rows a.header.scheme a.cells.now k.count k.places e k.room _
    (rw c.len.ensures at c.if-needed-gt-MOST_CELLS.false) (rw c.len.ensures at c.if-cells-needed.false) f)
