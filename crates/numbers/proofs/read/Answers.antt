-- `numbers::read` meets its contract: one law of `decode` for each way, and a weight that leaves room for the next. Assumes nothing.
use Rattle.std.proofs.Common.{◌≡◌, ℕ, ◌+◌, ◌-◌, ◌*◌, ◌^◌, ◌<◌, ◌≤◌, Bool, false, ◌&&◌, length, get_or, zero, suc, ◌⊎◌, inl, inr, refl, sym, ap, ◌∙◌, arith, add-zero}
use mathlib.Core.Bool.{and-false}
use native.Mathlib.Nat.{add_assoc}
use Rattle.std.proofs.lemmas.Grind.{pow_more}
use lib.Dec.{ltb, eqb}
use borrow.Author.Tests.{le-ltb, ltb-true}
use Rattle.std.proofs.lemmas.Bool.{ne_eqb}
use Rattle.std.proofs.lemmas.List.{get_or_read}
use Rattle.numbers.specs.Numbers.{most_bytes, decode}
use Rattle.numbers.proofs.DecodeLaws.{decode-zero, decode-last, decode-more, group-room, heavier, group}
use Rattle.numbers.proofs.read.Goals.{In-Some, Joined-else-t-gt0}
use Rattle.numbers.proofs.read.Goals as goal

-- The byte that is looked at: where it lies, and what it leaves to a group of its weight.
record Looked (c : In-Some) : Type 0 where
  within : c.args.at + c.loop-t.t < length c.args.s.now
  byte : get_or c.args.s.now (c.args.at + c.loop-t.t) 0 ≡ c.in-Some.field-0.now
  small : c.in-Some.field-0.now < 256
  room : c.loop-t.weight * 128 ≤ 2 ^ 63

looked : (c : In-Some) → Looked c
looked c =
    let l = c.loop-t in
    let i = c.args.at + l.t in
    let h = c.in-Some.ensures.lookup in
    let in-s = ltb-true _ _ (sym h.0) in
    let e : get_or c.args.s.now i 0 ≡ c.in-Some.field-0.now = sym (get_or_read c.args.s.now i _ in-s h.1 0) in
    record { within = in-s; byte = e; small = omega (arith, e, c.type_inv.s i); room = group-room l.t l.weight (omega arith) l.invariant.weighs }

-- a group that ends a number is the first or not 0
ends : (t w b : ℕ) → w ≡ 128 ^ t → ((0 < t) × (b ≡ 0 → ⊥)) ⊎ (t ≤ 0) → (ltb 1 w && eqb b 0) ≡ false
ends t w b e (inl k) = ap (λ (x : Bool). ltb 1 w && x) (ne_eqb b 0 k.1) ∙ and-false (ltb 1 w)
ends zero w b e (inr k) = ap (λ (x : Bool). x && eqb b 0) (le-ltb 1 w (omega arith))
ends (suc t) w b e (inr k) = absurd (omega arith)

pub loop-t-init : goal.loop-t-init
unfolding decode
loop-t-init c = record { weighs = refl; small = omega arith; answer = rw add-zero refl; fits = omega arith }

pub returns-then-group-eq0 : goal.returns-then-group-eq0
returns-then-group-eq0 c =
    let l = c.loop-t in
    let h = looked (goal.at.returns-then-group-eq0 c).In-Some in
    let n : l.t + 1 ≡ most_bytes + 1 - (most_bytes - l.t) = omega arith in
    rw n (sym (l.invariant.answer ∙ decode-zero _ _ _ _ _ (omega arith) h.within (rw h.byte c.if-group-lt-GROUP.true) (heavier l.t l.weight (omega arith) l.invariant.weighs) (h.byte ∙ c.if-group-eq0.true)))

pub overflow_mul-value : goal.overflow_mul-value
overflow_mul-value c =
    let h = looked (goal.at.overflow_mul-value c).In-Some in
    omega (arith, group c.in-Some.field-0.now c.loop-t.weight c.if-group-lt-GROUP.true)

pub overflow_add-value : goal.overflow_add-value
overflow_add-value c =
    let h = looked (goal.at.overflow_add-value c).In-Some in
    omega (arith, group c.in-Some.field-0.now c.loop-t.weight c.if-group-lt-GROUP.true)

pub returns-then-group-lt-GROUP : goal.returns-then-group-lt-GROUP
returns-then-group-lt-GROUP c =
    let l = c.loop-t in
    let h = looked (goal.at.returns-then-group-lt-GROUP c).In-Some in
    let b = c.in-Some.field-0.now in
    let s = c.args.s.now in
    let i = c.args.at + l.t in
    let q : (ltb 1 l.weight && eqb (get_or s i 0) 0) ≡ false = rw h.byte (ends l.t l.weight b l.invariant.weighs c.else-t-gt0.either) in
    rw (← h.byte) (sym (l.invariant.answer ∙ decode-last (most_bytes - l.t) l.weight l.value s i (omega arith) h.within (rw h.byte c.if-group-lt-GROUP.true) q))

pub overflow_mul-value-in-loop-t : goal.overflow_mul-value-in-loop-t
overflow_mul-value-in-loop-t c =
    let h = looked (goal.at.overflow_mul-value-in-loop-t c).In-Some in
    omega (arith, group (c.in-Some.field-0.now - 128) c.loop-t.weight (omega arith))

pub overflow_add-value-in-loop-t : goal.overflow_add-value-in-loop-t
overflow_add-value-in-loop-t c =
    let h = looked (goal.at.overflow_add-value-in-loop-t c).In-Some in
    omega (arith, group (c.in-Some.field-0.now - 128) c.loop-t.weight (omega arith))

pub overflow_mul-weight : goal.overflow_mul-weight
overflow_mul-weight c = let h = looked (goal.at.overflow_mul-weight c).In-Some in omega arith

pub loop-t-preserved : goal.loop-t-preserved
loop-t-preserved c =
    let l = c.loop-t in
    let h = looked (goal.at.loop-t-preserved c).In-Some in
    let s = c.args.s.now in
    let i = c.args.at + l.t in
    let f : most_bytes - l.t - 1 ≡ most_bytes - (l.t + 1) = omega arith in
    record {
      weighs = sym (pow_more 128 l.t ∙ ap (λ (w : ℕ). w * 128) (sym l.invariant.weighs));
      small = omega (arith, group (c.in-Some.field-0.now - 128) l.weight (omega arith));
      answer = l.invariant.answer ∙ rw (← h.byte, ← f, ← add_assoc) (decode-more (most_bytes - l.t) l.weight l.value s i (omega arith) h.within (rw h.byte c.if-group-lt-GROUP.false));
      fits = omega (arith, c.ranges);
    }
