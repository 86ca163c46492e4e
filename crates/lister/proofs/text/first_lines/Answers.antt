-- `lister::text::first_lines` meets its contract: longer input, a refused image and a good one each have their text. Assumes nothing.
use native.Mathlib.Omega.{arith}
use mathlib.Core.Path.{◌≡◌, refl, sym, ◌∙◌}
use Rattle.stream.specs.Promises.{asked_of}
use Rattle.std.specs.Prelude.{Result, Ok, Err, IsOk}
use Rattle.refusals.specs.declared.Refusal.{Refusal}
use Rattle.refusals.proofs.RefusalLaws.{number-some}
use Rattle.tables.proofs.CheckLaws.{lawful-fault}
use Rattle.refusals.specs.Refusals.{number, fault_in}
use Rattle.loader.specs.Faults.{fault_of}
use Rattle.loader.specs.Load.{loaded_of}
use Rattle.image.proofs.RoundTrip.{load-lawful}
use Rattle.lister.proofs.ListingLaws.{ended-gives, refused-short, listing-long, listing-short, image-good, image-refused}
use Rattle.lister.proofs.text.first_lines.Goals as goal

pub returns-then-input-gt-MOST_INPUT-clause-gives : goal.returns-then-input-gt-MOST_INPUT-clause-gives
returns-then-input-gt-MOST_INPUT-clause-gives c =
    rw (listing-long (asked_of c.args.scope) c.args.input.now c.if-input-gt-MOST_INPUT.true)
    (ended-gives _ _ _ (omega (arith, c.requires.3)) (rw c.requires.2 at c.word.ensures.puts))

-- What meets no fault is Ok.
clear : {A : Type 0} (r : Result A Refusal) → fault_in r ≡ 0 → IsOk r
clear (Ok t) e = refl
clear (Err x) e = absurd (number-some x e)

pub unwrap-tables-requires : goal.unwrap-tables-requires
unwrap-tables-requires c =
    let w = load-lawful c.args.input.now c.args.cells.now _ (λ k. omega (arith, c.type_inv.input k)) (sym c.in-Ok.ensures.answer) in
    clear _ (c.new.ensures.fault ∙ rw c.load.auto.cells (lawful-fault _ _ w))

pub returns-in-Ok-clause-gives : goal.returns-in-Ok-clause-gives
returns-in-Ok-clause-gives c =
    let t = rw c.unwrap-tables.ensures at c.new.ensures.tables in
    rw (listing-short (asked_of c.args.scope) c.args.input.now (omega (arith, c.if-input-gt-MOST_INPUT.false)), image-good (asked_of c.args.scope) (loaded_of (Ok c.in-Ok.catalogue)) c.requires.0 c.in-Ok.ensures refl)
    (rw (t.0, t.1) at c.open_list.ensures.gives)

pub returns-in-Err-clause-gives : goal.returns-in-Err-clause-gives
returns-in-Err-clause-gives c =
    let f = c.in-Err.fault in
    rw (listing-short (asked_of c.args.scope) c.args.input.now (omega (arith, c.if-input-gt-MOST_INPUT.false)), image-refused (asked_of c.args.scope) (loaded_of (Err f)) c.requires.0 c.in-Err.ensures (fault_of f) refl)
    (ended-gives _ _ _ (omega (arith, refused-short (number f.refusal) f.place, c.requires.3)) (rw c.requires.2 at c.put_refused.ensures.puts))
