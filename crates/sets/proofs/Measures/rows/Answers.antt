-- `sets::Measures::rows` meets its contract: what is laid out of a table, and that its cells are there. Assumes nothing.
use native.Mathlib.Omega.{arith}
use mathlib.Core.Path.{sym, ◌∙◌}
use Rattle.tables.proofs.CatalogueLaws.{table-ends}
use Rattle.sets.proofs.Measures.rows.Goals as goal

pub invariant_of-result : goal.invariant_of-result
invariant_of-result c =
    let tables = c.args.tables.now in
    let l = c.requires.laid_out in
    let place = tables.lawful.places _ c.requires.table in
    let wide = l.wide _ c.requires.table in
    record {
      wide = wide;
      inside = rw place (omega (arith, table-ends tables.catalogue _ c.requires.table, tables.lawful.room));
      rising = λ h. rw (wide, place) (l.rising _ c.requires.table (sym c.bit_of.ensures ∙ h));
    }
