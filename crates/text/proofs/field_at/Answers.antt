-- `text::field_at` meets its contract. Invariant: the field goes on here, in this form and with this code, and what it then is the whole answer.
-- Assumes nothing.
use native.Mathlib.Omega.{arith}
use Prim.Native.Nat.{ℕ, ◌+◌, ◌≤◌, ◌<◌}
use mathlib.Core.Path.{◌≡◌, sym, ap, ◌∙◌}
use mathlib.Core.List.{List}
use lib.ListN.{length, get_or, drop}
use Rattle.text.specs.Lines.{no_code, kind_of, code_on, act}
use Rattle.text.specs.declared.Form.{Form}
use Rattle.text.specs.declared.Kind.{Kind}
use Rattle.text.specs.declared.Act.{Act}
use Rattle.text.specs.declared.Act.TheVariants.{Takes, Marks, NextField, NextLine, Breaks}
use Rattle.text.specs.Fields.{field_end, field_on, field_from, field_at}
use Rattle.text.proofs.Fieldwise.{field-on, field-ends}
use Rattle.text.proofs.field_at.Invariants.{On}
use Rattle.text.specs.declared.Form.TheVariants.{AtStart, InPlain, AfterQuote}
use mathlib.Core.Logic.{◌⊎◌, inl, inr, ⊎_elim}
use Rattle.text.proofs.field_at.Goals as goal
use Rattle.text.proofs.field_at.Goals.{in-Takes, in-Marks}

-- What the byte does, by what was asked of its kind.
does : (f : Form) (b : ℕ) {k : Kind} {r a : Act} → k ≡ kind_of b → r ≡ act f k → r ≡ a → act f (kind_of b) ≡ a
does f b p q e = ap (act f) (sym p) ∙ sym q ∙ e

module _ (s : List ℕ) (at : ℕ) (f : Form) (c i : ℕ) (on : On s at f c i) where
  ends : (a : Act) → i < length s → act f (kind_of (get_or s i 0)) ≡ a → field_on a (get_or s i 0) c i (λ g d n. field_from (drop (i + 1) s) g d n) ≡ field_at s at
  ends a h e = sym (on.0 ∙ field-on s i f c a h e)

  taken : (g x : Form) (d y : ℕ) → i < length s → act f (kind_of (get_or s i 0)) ≡ Takes g → x ≡ g → y ≡ d → (d ≡ code_on c (get_or s i 0)) × (d ≤ no_code) → On s at x y (i + 1)
  taken g x d y h e p q z = rw (p, q) (on.0 ∙ field-on s i f c (Takes g) h e ∙ rw z.0, z.1)

  marked : (g x : Form) (y : ℕ) → i < length s → act f (kind_of (get_or s i 0)) ≡ Marks g → x ≡ g → y ≡ c → On s at x y (i + 1)
  marked g x y h e p q = rw (p, q) (on.0 ∙ field-on s i f c (Marks g) h e, on.1)

  over : {g : Form} → length s ≤ i → f ≡ g → field_end g c i ≡ field_at s at
  over h e = rw (← e) (sym (on.0 ∙ field-ends s i f c h))

pub returns-in-NextField : goal.returns-in-NextField
returns-in-NextField c =
    let l = c.loop-i in
    ends c.args.text.now c.args.at l.form l.code l.i l.invariant.0 NextField c.loop-i-test.true
    (does l.form _ c.from.ensures c.act.ensures c.in-NextField.is)

pub returns-in-NextLine : goal.returns-in-NextLine
returns-in-NextLine c =
    let l = c.loop-i in
    ends c.args.text.now c.args.at l.form l.code l.i l.invariant.0 NextLine c.loop-i-test.true
    (does l.form _ c.from.ensures c.act.ensures c.in-NextLine.is)

pub returns-in-Breaks : goal.returns-in-Breaks
returns-in-Breaks c =
    let l = c.loop-i in
    ends c.args.text.now c.args.at l.form l.code l.i l.invariant.0 Breaks c.loop-i-test.true
    (does l.form _ c.from.ensures c.act.ensures c.in-Breaks.is)

pub loop-i-preserved : goal.loop-i-preserved
loop-i-preserved c =
    let l = c.loop-i in
    let a = c.args in (
      elim c.match-act.branch [
        | in-Takes w ↦
            taken a.text.now a.at l.form l.code l.i l.invariant.0 _ _ _ _ c.loop-i-test.true
            (does l.form _ c.from.ensures c.act.ensures w.in-Takes.is) w.form-is w.code-is w.code_on-code.ensures
        | in-Marks w ↦
            marked a.text.now a.at l.form l.code l.i l.invariant.0 _ _ _ c.loop-i-test.true
            (does l.form _ c.from.ensures c.act.ensures w.in-Marks.is) w.form-is w.code-is
      ],
      inl (omega arith),
    )

pub returns-in-AtStart : goal.returns-in-AtStart
returns-in-AtStart c =
    let l = c.loop-i in
    over c.args.text.now c.args.at l.form l.code l.i l.invariant.0 c.loop-i-test.false c.in-AtStart.is

-- A field that has begun goes to the text's end.
end-is : (n i : ℕ) {f g : Form} → n ≤ i → (i ≤ n) ⊎ (f ≡ AtStart) → f ≡ g → (g ≡ AtStart → ⊥) → n ≡ i
end-is n i h (inl k) e d = omega arith
end-is n i h (inr k) e d = absurd (d (sym e ∙ k))

plain-begun : InPlain ≡ AtStart → ⊥
plain-begun z = cc

quoted-begun : AfterQuote ≡ AtStart → ⊥
quoted-begun z = cc

pub returns-in-InPlain : goal.returns-in-InPlain
returns-in-InPlain c =
    let l = c.loop-i in
    let s = c.args.text.now in
    ⊎_elim
    (λ e. rw (end-is (length s) l.i c.loop-i-test.false l.invariant.1 e plain-begun) (over s c.args.at l.form l.code l.i l.invariant.0 c.loop-i-test.false e))
    (λ e. rw (end-is (length s) l.i c.loop-i-test.false l.invariant.1 e quoted-begun) (over s c.args.at l.form l.code l.i l.invariant.0 c.loop-i-test.false e))
    c.in-InPlain.is

pub returns-in-InQuotes : goal.returns-in-InQuotes
returns-in-InQuotes c =
    let l = c.loop-i in
    ⊎_elim (λ e. over c.args.text.now c.args.at l.form l.code l.i l.invariant.0 c.loop-i-test.false e)
    (λ e. over c.args.text.now c.args.at l.form l.code l.i l.invariant.0 c.loop-i-test.false e)
    c.in-InQuotes.is
