-- `exporter::table::Table::header` meets its contract. Invariant: the attributes that are left, from the cursor on, make the whole. Assumes nothing.
use native.Mathlib.Omega.{arith}
use Prim.Native.Nat.{ℕ, ◌+◌, ◌-◌, ◌/◌, ◌^◌, ◌≤◌}
use mathlib.Core.Path.{◌≡◌, sym, ◌∙◌}
use mathlib.Core.List.{List}
use lib.ListN.{length, drop, replicate, length-set}
use lib.Seq.{take_at}
use lib.Count.{ones}
use Rattle.laws.specs.Lists.{put, over}
use Rattle.laws.proofs.ListLaws.{put-cons, put-nil}
use Rattle.text.specs.Writing.{attribute_codes}
use Rattle.text.proofs.Headers.{header-width}
use Rattle.exporter.proofs.TextLaws.{attributes-none, attribute-set, attribute-clear}
use Rattle.exporter.proofs.table.Table.header.Goals.{then-self-a-eq1, else-self-a-eq1}
use Rattle.exporter.proofs.table.Table.header.Goals as goal

pub loop-a-preserved : goal.loop-a-preserved
loop-a-preserved c =
    let l = c.loop-a in
    let h = l.invariant in
    let t = c.args.self.now in
    elim c.if-self-a-eq1.branch [
      | then-self-a-eq1 w ↦
          rw (w.codes-is, w.k-is) (record {
            few = omega arith;
            room = length-set l.codes l.k (l.a + 1) ∙ h.room;
            put = h.put ∙ rw (attribute-set t.m l.a t.scheme c.loop-a-test.true w.if-self-a-eq1.true) (put-cons l.codes l.k (l.a + 1) _ (omega (arith, h, t.attributes, c.loop-a-test.true)));
          })
      | else-self-a-eq1 w ↦
          rw (w.codes-is, w.k-is) (record {
            few = omega arith;
            room = h.room;
            put = h.put ∙ rw (attribute-clear t.m l.a t.scheme c.loop-a-test.true (λ e. w.if-self-a-eq1.false e));
          })
    ]

-- Where no attribute is left, the array is the codes in front of zeros.
done : (m x k a : ℕ) (codes : List ℕ) → m ≤ a → put (attribute_codes m 0 x) (replicate 64 0) ≡ over k (attribute_codes (m - a) a (x / 2 ^ a)) codes
    → codes ≡ put (attribute_codes m 0 x) (replicate 64 0)
done m x k a codes h e = sym (e ∙ rw (attributes-none (m - a) a (x / 2 ^ a) (omega arith)) (put-nil codes k))

pub returns-clause-codes : goal.returns-clause-codes
returns-clause-codes c =
    let l = c.loop-a in
    let t = c.args.self.now in
    let bs = attribute_codes t.m 0 t.scheme in
    rw (done t.m t.scheme l.k l.a l.codes (omega (arith, c.loop-a-test.false)) l.invariant.put)
    (take_at bs (drop (length bs) (replicate 64 0)) (ones t.scheme) (header-width t.m 0 t.scheme t.low_scheme))

pub returns-clause-whole : goal.returns-clause-whole
returns-clause-whole c =
    let l = c.loop-a in
    let t = c.args.self.now in
    done t.m t.scheme l.k l.a l.codes (omega (arith, c.loop-a-test.false)) l.invariant.put
