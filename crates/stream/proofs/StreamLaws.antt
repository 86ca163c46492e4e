-- What the code goes by: the number of no key, how a refused trial ends a call, and what a row that is asked for has. Assumes nothing.
use Prim.Native.Nat.{ℕ, ◌<◌}
use native.Mathlib.Omega.{arith}
use mathlib.Core.Path.{◌≡◌, refl, sym, ap, ◌∙◌}
use mathlib.Core.List.{List}
use Rattle.keys.specs.Keys.{bits_per_row}
use Rattle.keys.specs.TwoWords.{joined, number_of}
use Rattle.tables.specs.declared.Catalogue.{Catalogue}
use Rattle.tables.specs.Catalogues.{total}
use Rattle.rows.specs.World.{set_of}
use Rattle.disjunction.specs.Asked.{Asked, every_set, every_with, wanted}
use Rattle.tables.specs.Checks.{Lawful}
use Rattle.keys.proofs.SetLaws.{in-at}
use lib.Dec.{eqb}
use Rattle.machine.specs.Machine.{State, Trial, done, full, damaged, trial_on, refused, piled, work, Askable}
use Rattle.machine.proofs.LoopLaws.{told, loop-full, loop-damaged}
use Rattle.stream.specs.Parts.{Reached, key_wanted, refused_by}

-- The key of no row has the number 0.
pub number-none : number_of (record { low = 0; high = 0 }) ≡ 0
unfolding joined
number-none = refl

-- ---- a refused trial

-- A call ends with the number that its trial is refused by.
pub loop-refused : (cat : Catalogue) (cells row : List ℕ) (a t l b : ℕ) (q : State) (k : ℕ) → (q.next ≡ total cat → ⊥) → 0 < b
    → k ≡ refused_by (trial_on cat cells q)
    → (k ≡ 0 → ⊥)
    → piled a t l (work cat cells b q row) ≡ told (refused k) 0 a t l q row
loop-refused cat cells row a t l b q k n h e z = met (trial_on cat cells q) refl
  where
    met : (u : Trial) → trial_on cat cells q ≡ u → piled a t l (work cat cells b q row) ≡ told (refused k) 0 a t l q row
    met (done p t' l') f = absurd (z (e ∙ ap refused_by f))
    met full f = loop-full cat cells row a t l b q n h f ∙ rw (e ∙ ap refused_by f)
    met damaged f = loop-damaged cat cells row a t l b q n h f ∙ rw (e ∙ ap refused_by f)

-- ---- what is asked for

-- The table asked for has room in a key,
pub asked-reached : (cat : Catalogue) (lent : ℕ) → Lawful cat lent → (a : Asked) → Askable cat a → Reached a
asked-reached cat lent L every_set h = tt
asked-reached cat lent L (every_with s) h = omega (arith, h.table, L.tables)

-- and a set is wanted exactly where its key is.
pub key-wanted : (cat : Catalogue) (a : Asked) (key : ℕ) → Askable cat a → key_wanted a key ≡ wanted a (set_of cat key)
key-wanted cat every_set key h = refl
key-wanted cat (every_with s) key h = ap (λ (r : ℕ). eqb r s.row) (sym (in-at bits_per_row cat.n key s.table h.table))
