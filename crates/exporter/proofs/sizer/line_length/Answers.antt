-- `exporter::sizer::line_length` meets its contract: the cells' lengths, and what stands between and behind them. Assumes nothing.
use native.Mathlib.Omega.{arith}
use Prim.Native.Nat.{◌^◌}
use mathlib.Core.Path.{◌≡◌}
use lib.ListN.{length}
use borrow.Author.Rules.{rules}
use Rattle.std.specs.List.{sum_by}
use Rattle.std.proofs.lemmas.Iterator.{YieldsList-from_slice, YieldsList-from_map}
use Rattle.std.proofs.lemmas.Iterator.Consumers.{sum_by_from_yields_List, fits_by_from_yields_list}
use Rattle.text.specs.Writing.{cell_text}
use Rattle.exporter.proofs.TextLaws.{line-sum, fields-few}
use Rattle.exporter.proofs.sizer.line_length.Goals.{After-sum-fields}
use Rattle.exporter.proofs.sizer.line_length.Goals as goal

pub sum-fields-requires-clause-fits : goal.sum-fields-requires-clause-fits
sum-fields-requires-clause-fits c =
    let row = c.args.row.now in
    fits_by_from_yields_list (λ x. length (cell_text x)) row c.map.result (2 ^ 64) (YieldsList-from_map _ (λ x. length (cell_text x)) (YieldsList-from_slice row cc) c.map.ensures.closure (λ x r q k. search rules))
    (omega (arith, fields-few row, c.requires.1))

-- What the fields come to.
fields : (c : After-sum-fields) → c.sum-fields.result ≡ sum_by (λ x. length (cell_text x)) c.args.row.now
fields c =
    let row = c.args.row.now in
    sum_by_from_yields_List (λ x. length (cell_text x)) row _ _ c.sum-fields.ensures.ran (YieldsList-from_map _ (λ x. length (cell_text x)) (YieldsList-from_slice row cc) c.map.ensures.closure (λ x r q k. search rules))

pub overflow_add-result : goal.overflow_add-result
overflow_add-result c = omega (arith, fields (goal.at.overflow_add-result c).After-sum-fields, fields-few c.args.row.now, c.requires.1)

pub overflow_add-result-2 : goal.overflow_add-result-2
overflow_add-result-2 c = omega (arith, fields (goal.at.overflow_add-result-2 c).After-sum-fields, fields-few c.args.row.now, c.requires.1)

pub returns : goal.returns
returns c = omega (arith, fields (goal.at.returns c).After-sum-fields, line-sum c.args.row.now c.requires.0)
