-- `padding::code_at` meets its contract. Invariant: no table passed gives a code. Assumes nothing.
use Rattle.std.proofs.Common.{◌<◌, ◌≡◌, true, sym, ◌∙◌, arith}
use Rattle.keys.specs.TwoWords.{number_of}
use Rattle.padding.specs.Padding.{gives_in}
use Rattle.padding.proofs.PaddingLaws.{gives_row, code-first, code-null}
use Rattle.padding.proofs.code_at.Goals.{Then-table_gives}
use Rattle.padding.proofs.code_at.Goals as goal

-- The table that was found gives a code.
gives : (c : Then-table_gives) → gives_in c.args.tables.now.catalogue (number_of c.args.key) c.args.a c.loop-t.t ≡ true
gives c = sym c.table_gives.ensures ∙ c.if-table_gives.true

pub code_of-requires-clause-row : goal.code_of-requires-clause-row
code_of-requires-clause-row c =
    let cat = c.args.tables.now.catalogue in
    let b : c.loop-t.t < cat.n = omega arith in
    let y = gives (goal.at.code_of-requires-clause-row c).Then-table_gives in
    let e = c.row.ensures in
    record {
      table = b;
      low = rw e ((gives_row cat (number_of c.args.key) c.args.a c.loop-t.t b).0 y).0;
      high = rw e (c.requires.0.rows c.loop-t.t b);
    }

pub code_of-requires-clause-attribute : goal.code_of-requires-clause-attribute
code_of-requires-clause-attribute c =
    let t = c.args.tables.now in
    let y = gives (goal.at.code_of-requires-clause-attribute c).Then-table_gives in
    (omega (arith, t.lawful.attributes), ((gives_row t.catalogue (number_of c.args.key) c.args.a c.loop-t.t (omega arith)).0 y).1)

pub returns-then-table_gives : goal.returns-then-table_gives
returns-then-table_gives c =
    let t = c.args.tables.now in
    let y = gives (goal.at.returns-then-table_gives c).Then-table_gives in
    rw (c.code_of.ensures, c.row.ensures)
    (sym (code-first t.catalogue (number_of c.args.key) t.cells.now c.args.a c.loop-t.t (omega arith) y c.loop-t.invariant))

pub returns : goal.returns
returns c =
    let t = c.args.tables.now in
    sym (code-null t.catalogue (number_of c.args.key) t.cells.now c.args.a (λ u b. c.loop-t.invariant u (omega arith)))
