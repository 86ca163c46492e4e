-- `Store::offer` meets its contract, case by case of what the search said; the place that it names is a record (`absent-place`). Assumes nothing.
use mathlib.Core.Path.{refl}
use borrow.Author.Rules.{rules}
use borrow.Author.Tests.{lt-ltb, le-ltb}
use Rattle.keys.specs.TwoWords.{number_of}
use Rattle.store.specs.Store.{answer_of, store_after}
use Rattle.store.specs.Lent.{kept}
use Rattle.store.proofs.StoreLaws.{absent-place}
use Rattle.store.proofs.Store.offer.Goals as goal

pub add-requires : goal.add-requires
add-requires c =
    let e = rw c.in-Absent.is at c.in_ok-looks.ensures in
    (rw c.room.ensures at c.if-found-room.true, absent-place (kept c.args.self.now c.args.found) (number_of c.args.sought) c.args.deepest c.requires.0 e)

pub returns-in_err-looks-clause-answer : goal.returns-in_err-looks-clause-answer
unfolding answer_of
returns-in_err-looks-clause-answer c = rw (← c.in_err-looks.ensures) (search rules)

pub returns-in_err-looks-clause-holds : goal.returns-in_err-looks-clause-holds
unfolding store_after
returns-in_err-looks-clause-holds c = rw (← c.in_err-looks.ensures) (record { low = refl; high = refl; left = refl; right = refl })

pub returns-in-Found-clause-answer : goal.returns-in-Found-clause-answer
unfolding answer_of
returns-in-Found-clause-answer c = let e = rw c.in-Found.is at c.in_ok-looks.ensures in rw (← e)

pub returns-in-Found-clause-holds : goal.returns-in-Found-clause-holds
unfolding store_after
returns-in-Found-clause-holds c =
    let e = rw c.in-Found.is at c.in_ok-looks.ensures in
    rw (← e) (record { low = refl; high = refl; left = refl; right = refl })

pub returns-in-Absent-clause-answer : goal.returns-in-Absent-clause-answer
unfolding answer_of
returns-in-Absent-clause-answer c =
    let e = rw c.in-Absent.is at c.in_ok-looks.ensures in
    let h = rw c.room.ensures at c.if-found-room.true in
    rw (← e, lt-ltb _ _ h)

pub returns-in-Absent-clause-holds : goal.returns-in-Absent-clause-holds
unfolding store_after
returns-in-Absent-clause-holds c =
    let e = rw c.in-Absent.is at c.in_ok-looks.ensures in
    let h = rw c.room.ensures at c.if-found-room.true in
    rw (← e, lt-ltb _ _ h) c.add.ensures.holds

pub returns-in-Absent-2-clause-answer : goal.returns-in-Absent-2-clause-answer
unfolding answer_of
returns-in-Absent-2-clause-answer c =
    let e = rw c.in-Absent-2.is at c.in_ok-looks.ensures in
    let h = rw c.room.ensures at c.if-found-room.false in
    rw (← e, le-ltb _ _ h)

pub returns-in-Absent-2-clause-holds : goal.returns-in-Absent-2-clause-holds
unfolding store_after
returns-in-Absent-2-clause-holds c =
    let e = rw c.in-Absent-2.is at c.in_ok-looks.ensures in
    let h = rw c.room.ensures at c.if-found-room.false in
    rw (← e, le-ltb _ _ h) (record { low = refl; high = refl; left = refl; right = refl })
