-- `walks::Rows::column` meets its contract: the cells of a column lie among those of the rows. Assumes nothing.
use native.Mathlib.Omega.{arith}
use Prim.Native.Nat.{ℕ, ◌+◌, ◌*◌, ◌%◌, ◌^◌, ◌≤◌, ◌<◌}
use mathlib.Core.Path.{◌≡◌, ap}
use mathlib.Core.Bool.{true}
use lib.Count.{ones, ones-le}
use Rattle.words.specs.Words.{bit_of}
use Rattle.words.proofs.WordLaws.{bit-lt}
use Rattle.rows.proofs.WorldLaws.{code_inside}
use Rattle.walks.specs.Merged.{merged_length, row_in}
use Rattle.walks.proofs.Rows.column.Goals as goal

-- the column's cells are there
column : (lent scheme base count a first w : ℕ) → w ≡ ones scheme → row_in base scheme count ≤ lent → bit_of scheme a ≡ true → first ≡ base + ones (scheme % 2 ^ a)
    → first + count * w < lent + w
column lent scheme base count a first w e h b f =
    rw (e, f) (omega (arith, h, code_inside scheme (row_in base scheme count) (lent + ones scheme) a (omega (arith, h)) b))

pub rank-requires : goal.rank-requires
rank-requires c = bit-lt _ merged_length c.args.a (omega (arith, c.fits-self)) c.requires

pub invariant_of-result : goal.invariant_of-result
invariant_of-result c =
    let s = c.args.self.now in
    record {
      narrow = omega (arith, s.wide, ones-le merged_length s.scheme (omega (arith, c.fits-self)));
      inside = column _ s.scheme s.base s.count c.args.a _ s.width s.wide s.inside c.requires (ap (λ (x : ℕ). s.base + x) c.rank.ensures);
    }
