-- `tables::touching_of` meets its contract. Invariant: the mask has the tables below u that touch t. Assumes nothing.
use Rattle.std.proofs.Common.{◌+◌, ◌≤◌, sym, arith}
use lib.Pow.{pow_mono}
use Rattle.tables.specs.Sizes.{most_tables}
use Rattle.tables.proofs.StoredLaws.{touching-none, touching-next, touching-lt}
use Rattle.tables.proofs.touching_of.Goals as goal

pub loop-u-init : goal.loop-u-init
loop-u-init c = sym (touching-none _ _)

pub overflow_add-mask : goal.overflow_add-mask
overflow_add-mask c =
    let l = c.loop-u in
    let few : l.u + 1 ≤ most_tables = omega arith in
    rw (l.invariant, c.touch_bit-mask.ensures, ← touching-next c.args.cat c.args.t l.u)
    (omega (arith, touching-lt c.args.cat c.args.t (l.u + 1), pow_mono few))

pub loop-u-preserved : goal.loop-u-preserved
loop-u-preserved c =
    let l = c.loop-u in
    rw (l.invariant, c.touch_bit-mask.ensures) (sym (touching-next _ _ l.u))
