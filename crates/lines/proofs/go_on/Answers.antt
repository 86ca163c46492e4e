-- `lines::go_on` meets its contract: one law for each way it goes. Assumes nothing.
use Rattle.std.proofs.Common.{arith}
use mathlib.Core.Logic.{⊎_elim}
use Rattle.lines.proofs.DecimalLaws.{goes-below, goes_above, goes_over, as-summed}
use Rattle.lines.proofs.go_on.Goals as goal

pub returns-then-not-is_ascii_digit : goal.returns-then-not-is_ascii_digit
returns-then-not-is_ascii_digit c =
    ⊎_elim (λ h. rw (goes-below c.args.v c.args.b h)) (λ h. rw (goes_above c.args.v c.args.b h)) c.if-not-is_ascii_digit.ensures.cases

pub returns-in_err-checked_mul : goal.returns-in_err-checked_mul
returns-in_err-checked_mul c =
    let h = c.if-not-is_ascii_digit.ensures.cases in
    let k = c.in_err-checked_mul.ensures in
    rw (c.from_residual.ensures, goes_over c.args.v c.args.b h.0 h.1 (omega arith))

pub returns : goal.returns
returns c =
    let h = c.if-not-is_ascii_digit.ensures.cases in
    as-summed c.args.v c.args.b _ c.checked_add.result h.0 h.1 (omega (arith, c.in_ok-checked_mul.ensures, c.from.ensures)) c.checked_add.ensures
