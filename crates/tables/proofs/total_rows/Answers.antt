-- `tables::total_rows` meets its contract: the sum of the row counts below n. Assumes nothing.
use Rattle.std.proofs.Common.{◌≤◌, length, take, rules, tests, arith, ◌∙◌}
use Rattle.std.proofs.lemmas.Iterator.{YieldsList-from_slice, YieldsList-from_map}
use Rattle.std.proofs.lemmas.Iterator.Consumers.{sum_by_from_yields_List, fits_by_from_yields_list}
use Rattle.tables.proofs.CatalogueLaws.{rows-taken, rows_few}
use Rattle.tables.proofs.total_rows.Goals as goal

pub sum-requires-clause-fits : goal.sum-requires-clause-fits
sum-requires-clause-fits c =
    let room : c.args.cat.n ≤ length c.args.cat.rows = omega (arith, c.requires.tables) in
    fits_by_from_yields_list (λ x. x) (take c.args.cat.n c.args.cat.rows) c.map.result _
    (YieldsList-from_map _ (λ x. x) (YieldsList-from_slice (take c.args.cat.n c.args.cat.rows) (grind arith)) c.map.ensures.closure (λ x r q k. search (rules, tests)))
    (rw (rows-taken c.args.cat c.args.cat.n room) (omega (arith, rows_few c.args.cat _ c.requires c.args.cat.n (omega arith))))

pub returns : goal.returns
returns c =
    let room : c.args.cat.n ≤ length c.args.cat.rows = omega (arith, c.requires.tables) in
    sum_by_from_yields_List (λ x. x) (take c.args.cat.n c.args.cat.rows) c.map.result c.sum.result c.sum.ensures.ran
    (YieldsList-from_map _ (λ x. x) (YieldsList-from_slice (take c.args.cat.n c.args.cat.rows) (grind arith)) c.map.ensures.closure (λ x r q k. search (rules, tests)))
    ∙ rows-taken c.args.cat c.args.cat.n room
