-- `exporter::sizer::text_length` meets its contract: the header's line and the rows'. Assumes nothing.
use native.Mathlib.Omega.{arith}
use native.Mathlib.Nat.{div-mul-le_self}
use Prim.Native.Nat.{◌/◌}
use mathlib.Core.Path.{◌≡◌, ◌∙◌}
use lib.ListN.{length, take}
use lib.Count.{ones}
use Rattle.text.specs.Writing.{attribute_codes, line_text}
use Rattle.exporter.proofs.TextLaws.{lines_in, line-few, lines-by_cell}
use Rattle.exporter.proofs.WriteLaws.{ones-some, codes-some, codes-few, text-length}
use Rattle.exporter.proofs.sizer.text_length.Goals.{After-header-head, After-rows_length}
use Rattle.exporter.proofs.sizer.text_length.Goals as goal

-- The header's codes, in front of the rest.
head : (c : After-header-head) → take c.width-width.result c.header-head.result ≡ attribute_codes c.args.table.now.m 0 c.args.table.now.scheme
head c = rw c.width-width.ensures c.header-head.ensures.codes

pub line_length-requires : goal.line_length-requires
line_length-requires c =
    let t = c.args.table.now in
    rw (head (goal.at.line_length-requires c).After-header-head)
    (codes-some t.m t.scheme t.some_scheme t.low_scheme, omega (arith, codes-few t.m t.scheme t.attributes t.low_scheme))

pub rows_length-requires : goal.rows_length-requires
rows_length-requires c =
    let t = c.args.table.now in
    rw c.width-width.ensures (ones-some t.m t.scheme t.some_scheme t.low_scheme, t.few)

-- How long both are.
both : (c : After-rows_length)
    → (let t = c.args.table.now in
    (c.line_length.result ≡ length (line_text (attribute_codes t.m 0 t.scheme))) × (c.rows_length.result ≡ length (lines_in (ones t.scheme) t.cells.now)))
both c =
    (c.line_length.ensures ∙ rw (head (goal.at-After-rows_length c).After-header-head), c.rows_length.ensures ∙ rw c.width-width.ensures)

pub overflow_add-result : goal.overflow_add-result
overflow_add-result c =
    let t = c.args.table.now in
    let w = ones t.scheme in
    let k = length t.cells.now / w in
    omega (
      arith,
      both (goal.at.overflow_add-result c).After-rows_length,
      line-few (attribute_codes t.m 0 t.scheme),
      codes-few t.m t.scheme t.attributes t.low_scheme,
      lines-by_cell k w t.cells.now (ones-some t.m t.scheme t.some_scheme t.low_scheme),
      div-mul-le_self (length t.cells.now) w,
      t.few,
    )

pub returns : goal.returns
returns c =
    let t = c.args.table.now in
    omega (arith, both (goal.at.returns c).After-rows_length, text-length t.m t.scheme t.cells.now)
