-- `rows::code_of` meets its contract: a row that is there has all its cells among those that are lent (`row_room`). Assumes nothing.
use Rattle.rows.proofs.WorldLaws.{row_room}
use Rattle.rows.proofs.code_of.Goals as goal

pub code_at-requires : goal.code_at-requires
code_at-requires c =
    let t = c.args.tables.now in
    (rw c.row_start.ensures (row_room t.catalogue _ t.lawful _ _ c.requires.row), c.requires.attribute.0, c.requires.attribute.1)
