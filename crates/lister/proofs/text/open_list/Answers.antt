-- `lister::text::open_list` meets its contract: the first line is put, and every set that is asked for is still to come (`open_gives`), or the refusal's
-- line is all the text (`refused-gives`). Assumes nothing.
use Rattle.lister.proofs.ListingLaws.{open_gives, refused-gives}
use Rattle.lister.proofs.text.open_list.Goals as goal

pub returns-in-Ok-clause-gives : goal.returns-in-Ok-clause-gives
returns-in-Ok-clause-gives c =
    let a = c.args in
    let p = c.requires in
    rw c.none.ensures
    (open_gives a.scope a.tables _ _ (rw (p.0.0, p.0.1, p.0.2, p.0.3) at c.in-Ok.ensures.opened) p.2
    (rw (c.total_rows.ensures, p.1) at c.put_tables.ensures.puts))

pub returns-in-Err-clause-gives : goal.returns-in-Err-clause-gives
returns-in-Err-clause-gives c =
    let a = c.args in
    let p = c.requires in
    refused-gives a.scope a.tables.catalogue a.tables.cells.now _ c.in-Err.refusal (rw (p.0.0, p.0.1, p.0.2, p.0.3) at c.in-Err.ensures.opened) p.2 (rw p.1 at c.put_refusal.ensures.puts)
