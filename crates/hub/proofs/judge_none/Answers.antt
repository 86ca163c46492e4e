-- `hub::judge_none` meets its contract: no row, or the first row alone, extended. Assumes nothing.
use native.Mathlib.Omega.{arith}
use Prim.Native.Nat.{ℕ, ◌<◌}
use mathlib.Core.Path.{sym, ap, ◌∙◌}
use Rattle.keys.specs.TwoWords.{key_with}
use Rattle.tables.specs.Catalogues.{total}
use Rattle.rows.proofs.NamedLaws.{place-there, row_small, alone-named, first_alone}
use Rattle.hub.specs.Answers.{Missing}
use Rattle.hub.proofs.JudgingLaws.{none_right, none-missing, number-whole}
use Rattle.hub.proofs.judge_none.Goals as goal

pub returns-then-layout-eq0 : goal.returns-then-layout-eq0
returns-then-layout-eq0 c = sym (none_right _ _ _ c.args.layout.now.tables.lawful (sym c.args.layout.now.laid_out.all ∙ c.if-layout-eq0.true))

pub row_at-first-requires : goal.row_at-first-requires
row_at-first-requires c = omega (arith, c.args.layout.now.laid_out.all, c.if-layout-eq0.false)

pub with_row-alone-requires : goal.with_row-alone-requires
with_row-alone-requires c =
    let l = c.args.layout.now in
    let x = place-there l.tables.catalogue l.tables.cells.now 0 (omega (arith, l.laid_out.all, c.if-layout-eq0.false)) in
    rw c.row_at-first.ensures (omega (arith, x.table, l.tables.lawful.tables), row_small _ _ l.tables.lawful _ _ x)

pub extend-requires : goal.extend-requires
extend-requires c =
    let l = c.args.layout.now in
    let x = place-there l.tables.catalogue l.tables.cells.now 0 (omega (arith, l.laid_out.all, c.if-layout-eq0.false)) in
    rw (c.with_row-alone.ensures, c.none.ensures, c.row_at-first.ensures) (alone-named _ _ _ x (row_small _ _ l.tables.lawful _ _ x))

pub returns : goal.returns
returns c =
    let l = c.args.layout.now in
    let h : 0 < total l.tables.catalogue = omega (arith, l.laid_out.all, c.if-layout-eq0.false) in
    let g = rw (c.with_row-alone.ensures, c.none.ensures, c.row_at-first.ensures, first_alone l.tables.catalogue l.tables.cells.now _ l.tables.lawful h) at c.extend.ensures in
    ap Missing (sym (number-whole c.extend.result.key (omega arith))) ∙ ap (λ (x : ℕ). Missing (key_with x)) g.key ∙ sym (none-missing _ _ _ l.tables.lawful h)
