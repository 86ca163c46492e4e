-- `hub::is_maximal` meets its contract: a key that names rows has a maximal set where each of its rows gives the set back. Assumes nothing.
use borrow.Author.Tests.{tests}
use native.Mathlib.Nat.{sub-zero}
use mathlib.Core.Path.{refl, sym, ◌∙◌}
use Rattle.std.proofs.Common.{rules}
use Rattle.std.proofs.lemmas.Iterator.{serves_from_Range, YieldsList-from_range}
use Rattle.std.proofs.lemmas.Iterator.Search.{all_from_yields_List}
use Rattle.keys.specs.TwoWords.{number_of}
use Rattle.disjunction.specs.Standing.{gives_back}
use Rattle.rows.specs.World.{set_of}
use Rattle.rows.proofs.NamedLaws.{named-iff}
use Rattle.hub.specs.Searching.{world_in}
use Rattle.hub.proofs.JudgingLaws.{lost-standing, named-standing}
use Rattle.hub.proofs.RangeLaws.{all-below}
use Rattle.hub.proofs.is_maximal.Goals as goal

pub all-requires-clause-callable : goal.all-requires-clause-callable
all-requires-clause-callable c =
    let n = (named-iff _ _).0 (sym c.named.ensures ∙ c.if-named.true) in serves_from_Range (λ x q k. search rules) (λ x a b. search rules)

pub returns-then-named : goal.returns-then-named
returns-then-named c =
    let l = c.args.layout.now in
    let p = gives_back (world_in l) (set_of l.tables.catalogue (number_of c.args.key)) in
    all_from_yields_List p _ _ _ c.all.ensures.ran (YieldsList-from_range 0 l.tables.catalogue.n l.tables.catalogue.n refl (sub-zero _)) (λ x b q k. search (rules, tests))
    ∙ all-below p l.tables.catalogue.n
    ∙ sym (named-standing _ _ _ l.tables.lawful _ (sym c.named.ensures ∙ c.if-named.true))

pub returns-else-named : goal.returns-else-named
returns-else-named c =
    c.if-named.false ∙ sym (lost-standing _ _ _ c.args.layout.now.tables.lawful _ (sym c.named.ensures ∙ c.if-named.false))
