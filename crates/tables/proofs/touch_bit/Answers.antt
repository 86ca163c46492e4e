-- `tables::touch_bit` meets its contract: one law for each way. Assumes nothing.
use Rattle.std.proofs.Common.{◌≡◌, ◌∙◌, ◌*◌, ◌%◌, ◌^◌, arith}
use native.Mathlib.Nat.{mod-eq_of_lt}
use lib.Pow.{pow-lt}
use Rattle.tables.proofs.StoredLaws.{touch-self, touch-apart, touch-both}
use Rattle.tables.proofs.touch_bit.Goals.{else-u-t-via-then-u-t+else-cat-t-ne0, else-u-t-via-else-u-t}
use Rattle.tables.proofs.touch_bit.Goals as goal

pub returns-then-cat-t-ne0 : goal.returns-then-cat-t-ne0
returns-then-cat-t-ne0 c =
    let b : 1 * 2 ^ c.args.u % 2 ^ 16 ≡ 2 ^ c.args.u = mod-eq_of_lt (omega (arith, pow-lt c.requires.1)) ∙ omega arith in
    rw (touch-both c.args.cat c.args.t c.args.u c.if-u-t.true c.if-cat-t-ne0.true) b

pub returns-else-u-t : goal.returns-else-u-t
returns-else-u-t c =
    elim c.else-u-t.branch [
      | else-u-t-via-then-u-t+else-cat-t-ne0 w ↦ rw (touch-apart c.args.cat c.args.t c.args.u w.if-u-t.true w.if-cat-t-ne0.false)
      | else-u-t-via-else-u-t w ↦ rw (touch-self c.args.cat c.args.t c.args.u w.if-u-t.false)
    ]
