-- `text::code_on` meets its contract: one law for each way it goes. Assumes nothing.
use Rattle.std.proofs.Common.{arith, sym}
use mathlib.Core.Logic.{⊎_elim}
use Rattle.text.proofs.LineLaws.{code_below_lem, code-above, code-start, code-behind-zero, code-digit}
use Rattle.text.proofs.code_on.Goals as goal

pub returns-then-not-is_ascii_digit : goal.returns-then-not-is_ascii_digit
returns-then-not-is_ascii_digit c =
    (⊎_elim (λ h. sym (code_below_lem c.args.c c.args.b h)) (λ h. sym (code-above c.args.c c.args.b h)) c.if-not-is_ascii_digit.ensures.cases, omega arith)

pub returns-in-0 : goal.returns-in-0
returns-in-0 c =
    let h = c.if-not-is_ascii_digit.ensures.cases in
    let e = code-start c.args.c c.args.b (omega arith) (omega arith) c.in-0.is in
    (omega (arith, e, c.from-digit.ensures), omega (arith, h, c.from-digit.ensures))

pub returns-in-1 : goal.returns-in-1
returns-in-1 c =
    let h = c.if-not-is_ascii_digit.ensures.cases in
    (sym (code-behind-zero c.args.c c.args.b (omega arith) (omega arith) c.in-1.is), omega arith)

pub returns-in_default : goal.returns-in_default
returns-in_default c =
    let h = c.if-not-is_ascii_digit.ensures.cases in
    let e = code-digit c.args.c c.args.b (omega arith) (omega arith) (omega arith) in
    (omega (arith, e, c.from-digit.ensures, c.saturating_mul.ensures, c.saturating_add.ensures, c.min.ensures), omega (arith, c.min.ensures))
