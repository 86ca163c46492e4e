-- `hub::judge` meets its contract: the empty list, the first spoilt entry, or what the trials reach. Assumes nothing.
use native.Mathlib.Omega.{arith}
use mathlib.Core.Path.{◌≡◌, sym, ap, ◌∙◌}
use mathlib.Core.List.{List}
use Rattle.std.proofs.Common.{None}
use Prim.Native.Nat.{ℕ}
use lib.ListN.{length}
use Rattle.laws.specs.Tests.{without, lowest_below}
use Rattle.rows.specs.World.{world_of}
use Rattle.hub.specs.Verdicts.{seek, spoilt, tried_on, verdict}
use Rattle.hub.specs.Promises.{word_sets, answer_of}
use Rattle.hub.specs.Searching.{listed_in, lowest_of}
use Rattle.hub.proofs.JudgingLaws.{empty-sets, judged-entry, judged-sound, judged-trials}
use Rattle.hub.proofs.judge.Goals.{After-first_spoilt}
use Rattle.hub.proofs.judge.Goals as goal

pub returns-then-list_length-eq0 : goal.returns-then-list_length-eq0
returns-then-list_length-eq0 c =
    let t = c.args.layout.now.tables in
    c.judge_none.ensures
    ∙ ap (λ (l : List (List ℕ)). answer_of (verdict (world_of t.catalogue t.cells.now) l))
    (sym (empty-sets t.catalogue t.cells.now _ t.lawful (listed_in c.args.keys) (sym c.list_length.ensures ∙ c.if-list_length-eq0.true)))

-- The first pass is over the list that is lent.
first : (c : After-first_spoilt) → lowest_of c.first_spoilt.result
    ≡ lowest_below (length (listed_in c.args.keys)) (spoilt (world_of c.args.layout.now.tables.catalogue c.args.layout.now.tables.cells.now) (word_sets c.args.layout.now.tables.catalogue (listed_in c.args.keys)))
first c = rw (c.new-list.ensures.0, c.new-list.ensures.1) at c.first_spoilt.ensures.first

pub returns-in-Some : goal.returns-in-Some
returns-in-Some c =
    let t = c.args.layout.now.tables in
    sym (ap answer_of (judged-entry t.catalogue t.cells.now _ t.lawful (listed_in c.args.keys) c.in-Some.i (rw c.in-Some.is at (first (goal.at.returns-in-Some c).After-first_spoilt))))

-- Where no entry is spoilt, the trials decide.
clean : (c : After-first_spoilt) → c.first_spoilt.result ≡ None → without
    ≡ lowest_below (length (listed_in c.args.keys)) (spoilt (world_of c.args.layout.now.tables.catalogue c.args.layout.now.tables.cells.now) (word_sets c.args.layout.now.tables.catalogue (listed_in c.args.keys)))
clean c e = rw e at (first c)

trials : (c : After-first_spoilt) → c.first_spoilt.result ≡ None → let t = c.args.layout.now.tables in
    let sets = word_sets t.catalogue (listed_in c.args.keys) in
    answer_of (verdict (world_of t.catalogue t.cells.now) sets) ≡ answer_of (seek sets (tried_on (world_of t.catalogue t.cells.now) sets))
trials c e =
    let t = c.args.layout.now.tables in
    ap answer_of (judged-trials t.catalogue t.cells.now _ t.lawful (listed_in c.args.keys) (omega (arith, c.if-list_length-eq0.false, c.list_length.ensures)) (clean c e))

pub first_missing-requires : goal.first_missing-requires
first_missing-requires c =
    let t = c.args.layout.now.tables in
    let f = c.first_spoilt.ensures in (
      f.entered c.in_default.is,
      rw (f.same.0, f.same.1, c.new-list.ensures.0, c.new-list.ensures.1)
          (judged-sound t.catalogue t.cells.now _ t.lawful (listed_in c.args.keys) (clean (goal.at.first_missing-requires c).After-first_spoilt c.in_default.is)),
    )

pub returns-in-Some-first_missing : goal.returns-in-Some-first_missing
returns-in-Some-first_missing c =
    let f = c.first_spoilt.ensures in
    (rw (f.same.0, f.same.1, c.new-list.ensures.0, c.new-list.ensures.1) at c.in-Some-first_missing.ensures)
    ∙ sym (trials (goal.at.returns-in-Some-first_missing c).After-first_spoilt c.in_default.is)

pub returns-in-None : goal.returns-in-None
returns-in-None c =
    let f = c.first_spoilt.ensures in
    (rw (f.same.0, f.same.1, c.new-list.ensures.0, c.new-list.ensures.1) at c.in-None.ensures)
    ∙ sym (trials (goal.at.returns-in-None c).After-first_spoilt c.in_default.is)
