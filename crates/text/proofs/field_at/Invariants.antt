-- `text::field_at` meets its contract. Invariant: the field goes on here, in this form and with this code, and what it then is the whole answer.
-- Assumes nothing.
use Prim.Native.Nat.{ℕ, ◌≤◌}
use mathlib.Core.Logic.{◌⊎◌}
use Rattle.text.specs.declared.Form.TheVariants.{AtStart}
use mathlib.Core.Path.{◌≡◌}
use mathlib.Core.List.{List}
use lib.ListN.{length, drop}
use Rattle.text.specs.Lines.{no_code}
use Rattle.text.specs.declared.Form.{Form}
use Rattle.text.specs.Fields.{field_from, field_at}
use Rattle.text.proofs.field_at.Given as goal

-- The field goes on at i.
abbrev pub On : List ℕ → (at : ℕ) → Form → (c i : ℕ) → Type 0
On s at f c i = (field_at s at ≡ field_from (drop i s) f c i) × (c ≤ no_code)

-- And it lies in the text, or none of it was read.
abbrev pub invariant-loop-i : goal.invariant-loop-i
invariant-loop-i l = On l.text l.at l.form l.code l.i × ((l.i ≤ length l.text) ⊎ (l.form ≡ AtStart))
