-- `abi::harbour_make_catalogue` meets its contract: each way is its law's. Assumes nothing.
use native.Mathlib.Omega.{arith}
use Prim.Native.Nat.{◌≤◌}
use mathlib.Core.Path.{◌≡◌, sym, ◌∙◌}
use mathlib.Core.Bool.{false}
use lib.ListN.{length}
use Rattle.std.proofs.Common.{Ok, Err, ap}
use Rattle.laws.specs.Lists.{put}
use Rattle.tables.specs.declared.Catalogue.{Catalogue}
use Rattle.tables.specs.Checks.{Made, made_of}
use Rattle.abi.specs.Words.{catalogue_words, table_words, words_of}
use Rattle.abi.specs.Calls.{make_short}
use Rattle.abi.proofs.CallLaws.{make-short, make-long, make-done}
use Rattle.abi.proofs.harbour_make_catalogue.Goals.{Else-make_short}
use Rattle.abi.proofs.harbour_make_catalogue.Goals as goal

-- The words are enough.
enough : (c : Else-make_short) → make_short c.args.given.now c.args.catalogue.now ≡ false
enough c = sym c.make_short.ensures ∙ c.if-make_short.false

long : (c : Else-make_short) → (table_words ≤ length c.args.given.now) × (catalogue_words ≤ length c.args.catalogue.now)
long c = make-long _ _ (enough c)

pub returns-then-make_short : goal.returns-then-make_short
returns-then-make_short c = make-short _ _ (sym c.make_short.ensures ∙ c.if-make_short.true)

pub schemes_in-schemes-requires : goal.schemes_in-schemes-requires
schemes_in-schemes-requires c = omega (arith, (long c).0)

pub shorts_in-rows-requires : goal.shorts_in-rows-requires
shorts_in-rows-requires c = omega (arith, (long (goal.at.shorts_in-rows-requires c).Else-make_short).0)

pub bounds-given-0 : goal.bounds-given-0
bounds-given-0 c = omega (arith, (long (goal.at.bounds-given-0 c).Else-make_short).0)

pub bounds-given-1 : goal.bounds-given-1
bounds-given-1 c = omega (arith, (long (goal.at.bounds-given-1 c).Else-make_short).0)

pub put_catalogue-requires : goal.put_catalogue-requires
put_catalogue-requires c = (long (goal.at.put_catalogue-requires c).Else-make_short).1

pub put_catalogue-requires-in-Err : goal.put_catalogue-requires-in-Err
put_catalogue-requires-in-Err c = (long (goal.at.put_catalogue-requires-in-Err c).Else-make_short).1

pub returns-in-Ok : goal.returns-in-Ok
returns-in-Ok c =
    let made : Made = made_of (Ok c.in-Ok.cat) in
    make-done _ _ _ _ made _ (enough (goal.at.returns-in-Ok c).Else-make_short) c.schemes_in-schemes.ensures c.shorts_in-rows.ensures
    (rw c.in-Ok.is at c.make_catalogue.ensures) c.put_catalogue.ensures

pub returns-in-Err : goal.returns-in-Err
returns-in-Err c =
    let made : Made = made_of (Err c.in-Err.refusal) in
    rw c.from.ensures
    (make-done _ _ _ _ made _ (enough (goal.at.returns-in-Err c).Else-make_short) c.schemes_in-schemes.ensures c.shorts_in-rows.ensures
    (rw c.in-Err.is at c.make_catalogue.ensures)
    (c.put_catalogue-in-Err.ensures ∙ ap (λ (x : Catalogue). put (words_of x) c.args.catalogue.now) c.no_tables.ensures))
