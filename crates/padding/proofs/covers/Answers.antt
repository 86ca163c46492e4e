-- `padding::covers` meets its contract: what `all` says of the pairs of codes. Assumes nothing.
use Rattle.std.proofs.Common.{◌∙◌, sym, rules, tests, ne_eqb}
use Rattle.std.proofs.lemmas.Iterator.{YieldsList-from_slice, YieldsList-from_zip}
use Rattle.std.proofs.lemmas.Iterator.Search.{all_from_yields_List}
use Rattle.padding.specs.Covering.{keeps}
use Rattle.padding.proofs.CoveringLaws.{covering-length, covering-pairs}
use Rattle.padding.proofs.covers.Goals as goal

pub returns-then-first-second : goal.returns-then-first-second
returns-then-first-second c =
    let first = c.args.first.now in
    let second = c.args.second.now in
    all_from_yields_List (λ p. keeps p.0 p.1) c.all.new.self _ c.all.result c.all.ensures.ran
    (YieldsList-from_zip (YieldsList-from_slice first cc) (YieldsList-from_slice second cc)) (λ x b q k. search (rules, tests))
    ∙ covering-pairs first second c.if-first-second.true

pub returns-else-first-second : goal.returns-else-first-second
returns-else-first-second c = ne_eqb _ _ c.if-first-second.false ∙ sym (covering-length _ _ c.if-first-second.false)
