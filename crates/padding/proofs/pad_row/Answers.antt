-- `padding::pad_row` meets its contract. Invariant: the codes below a are those of the padded row. Assumes nothing.
use Rattle.std.proofs.Common.{◌≡◌, length, sym, ◌∙◌, arith, length-take}
use Rattle.std.proofs.lemmas.List.{ext_get_or}
use Rattle.keys.specs.TwoWords.{number_of}
use Rattle.padding.specs.Padding.{padded_row}
use Rattle.padding.proofs.PaddingLaws.{pad-long, pad-at}
use Rattle.padding.proofs.pad_row.Goals as goal

pub returns : goal.returns
returns c =
    let t = c.args.tables.now in
    let row = padded_row t.catalogue t.cells.now (number_of c.args.key) in
    let long : length c.loop-a.code-items ≡ t.catalogue.m = omega (arith, length-take t.catalogue.m c.args.padded.now) in
    let same : c.loop-a.code-items ≡ row =
    ext_get_or 0 _ _ (long ∙ sym (pad-long t.catalogue t.cells.now (number_of c.args.key)))
    (λ k b. c.loop-a.invariant k (omega (arith, b, c.loop-a-test.false)) ∙ sym (pad-at t.catalogue t.cells.now (number_of c.args.key) k (omega (arith, b, long))))
    in
    rw (same, pad-long t.catalogue t.cells.now (number_of c.args.key))
