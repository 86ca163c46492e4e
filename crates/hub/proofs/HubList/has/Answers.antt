-- `hub::HubList::has` meets its contract: a key is in the tree, or among those past its last record. Assumes nothing.
use borrow.Author.Tests.{tests}
use native.Mathlib.Omega.{arith}
use Prim.Native.Nat.{ℕ, ◌-◌, ◌<◌}
use mathlib.Core.Bool.{Bool, true, false, not}
use mathlib.Core.Path.{◌≡◌, refl, sym, ap, ◌∙◌}
use Rattle.std.proofs.Common.{rules, Option, Some, None, MatchOption, is_some}
use Rattle.std.proofs.lemmas.Iterator.{serves_from_Range, YieldsList-from_range}
use Rattle.std.proofs.lemmas.Iterator.Search.{any_from_yields_List}
use lib.Dec.{eqb}
use lib.ListN.{get_or}
use Rattle.keys.specs.TwoWords.{number_of}
use Rattle.store.specs.declared.Link.{Link}
use Rattle.laws.proofs.TestLaws.{clash}
use Rattle.hub.specs.Searching.{listed_in, records_of}
use Rattle.hub.proofs.TreeLaws.{among_none, among-late, among-more}
use Rattle.hub.proofs.HubList.has.Goals as goal

pub returns-then-self-eq0 : goal.returns-then-self-eq0
returns-then-self-eq0 c = rw c.if-self-eq0.true (sym (among_none _ _))

pub link_for-requires : goal.link_for-requires
link_for-requires c = (omega (arith, c.if-self-eq0.false), c.requires)

pub any-requires-clause-callable : goal.any-requires-clause-callable
any-requires-clause-callable c =
    let s = c.args.self.now in
    serves_from_Range (λ x q k. search rules) (λ x a b. let l : x < s.count = omega (arith, b, s.within) in search rules)

-- What `None` and what `Some` say.
none : (P : Type 0) (Q : Link → Type 0) (r : Option Link) → is_some r ≡ false → MatchOption r P Q → P
none P Q None e m = m
none P Q (Some l) e m = absurd (clash refl e)

some : (P : Type 0) (Q : Link → Type 0) (r : Option Link) → is_some r ≡ true → MatchOption r P Q → (l : Link) × Q l
some P Q None e m = absurd (clash e refl)
some P Q (Some l) e m = (l, m)

pub returns-then-is_none : goal.returns-then-is_none
returns-then-is_none c =
    let s = c.args.self.now in
    c.if-is_none.true ∙ sym (among-more (listed_in s.keys) (records_of s.entered) s.entered (number_of c.args.key) (omega arith) (none _ _ c.link_for.result (c.is_none.ensures ∙ ap not c.if-is_none.true) c.link_for.ensures))

pub returns-else-is_none : goal.returns-else-is_none
returns-else-is_none c =
    let s = c.args.self.now in
    let p : ℕ → Bool = λ i. eqb (get_or (listed_in s.keys) i 0) (number_of c.args.key) in
    let (l, e) = some _ _ c.link_for.result (c.is_none.ensures ∙ ap not c.if-is_none.false) c.link_for.ensures in
    any_from_yields_List p _ _ _ c.any.ensures.ran (YieldsList-from_range c.records_of.result s.entered (s.entered - c.records_of.result) refl refl) (λ x b q k. search (rules, tests))
    ∙ among-late (listed_in s.keys) c.records_of.result s.entered (number_of c.args.key) (omega (arith, c.records_of.ensures)) (rw c.records_of.ensures e.new)
