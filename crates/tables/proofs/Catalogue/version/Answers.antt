-- `tables::Catalogue::version` meets its contract: what `any` says of the row counts below n. Assumes nothing.
use Rattle.std.proofs.Common.{◌≡◌, ◌≤◌, ltb, length, take, rules, tests, arith, sym, ◌∙◌}
use Rattle.std.proofs.lemmas.Iterator.{YieldsList-from_slice}
use Rattle.std.proofs.lemmas.Iterator.Search.{any_from_yields_List}
use Rattle.tables.specs.Sizes.{most_rows_one}
use Rattle.tables.specs.Versions.{some_long}
use Rattle.tables.proofs.VersionLaws.{version-one, version-two, long-taken}
use Rattle.tables.proofs.Catalogue.version.Goals.{After-any}
use Rattle.tables.proofs.Catalogue.version.Goals as goal

-- What `any` comes to.
long : (c : After-any) → some_long c.args.self ≡ c.any.result
long c =
    let room : c.args.self.n ≤ length c.args.self.rows = omega arith in
    sym (any_from_yields_List (ltb most_rows_one) _ _ c.any.result c.any.ensures.ran (YieldsList-from_slice (take c.args.self.n c.args.self.rows) (grind arith)) (λ x b q k. search (rules, tests)) ∙ long-taken c.args.self room)

pub returns-then-any : goal.returns-then-any
returns-then-any c = sym (version-two _ (long (goal.at.returns-then-any c).After-any ∙ c.if-any.true))

pub returns-else-any : goal.returns-else-any
returns-else-any c = sym (version-one _ (long (goal.at.returns-else-any c).After-any ∙ c.if-any.false))
