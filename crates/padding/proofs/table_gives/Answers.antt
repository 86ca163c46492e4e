-- `padding::table_gives` meets its contract: the key's row and the scheme's bit decide (`gives_row`). Assumes nothing.
use Rattle.std.proofs.Common.{sym, ap, ◌∙◌, not, eq-eqb, arith}
use Rattle.keys.specs.TwoWords.{number_of}
use Rattle.padding.proofs.PaddingLaws.{gives-absent, gives-member}
use Rattle.padding.proofs.table_gives.Goals as goal

pub returns-then-row-ne0 : goal.returns-then-row-ne0
returns-then-row-ne0 c =
    let p = c.row.ensures in
    c.bit_of.ensures ∙ sym (gives-member c.args.tables.now.catalogue (number_of c.args.key) c.args.a c.args.t c.requires.0 (omega (arith, p, c.if-row-ne0.true)))

pub returns-else-row-ne0 : goal.returns-else-row-ne0
returns-else-row-ne0 c =
    ap not (eq-eqb _ _ c.if-row-ne0.false)
    ∙ sym (gives-absent c.args.tables.now.catalogue (number_of c.args.key) c.args.a c.args.t c.requires.0 (sym c.row.ensures ∙ c.if-row-ne0.false))
