-- What is asked for: the test and its meaning, the row that open extends, and completeness for either question. Assumes nothing.
use Prim.Native.Nat.{ℕ, ◌<◌}
use mathlib.Core.Path.{◌≡◌, refl}
use mathlib.Core.Bool.{true}
use mathlib.Core.List.{List}
use lib.ListN.{length}
use borrow.Author.Tests.{eqb-true, eq-eqb}
use Rattle.disjunction.specs.Sets.{Tables, Symmetric, at, Row, JCC, Maximal}
use Rattle.disjunction.specs.Rule.{Place, rows, extension, alone, trial}
use Rattle.disjunction.specs.Asked.{Asked, every_set, every_with, wanted, Sought, first_for, Present}
use Rattle.disjunction.proofs.RowOrder.{row_at-row}
use Rattle.disjunction.proofs.Completeness.{complete, complete-row, row-stands}

module _ (W : Tables) where
  -- ---- the test and its meaning

  pub sought : (a : Asked) (T : List ℕ) → Maximal W T → wanted a T ≡ true → Sought W a T
  sought every_set T x w = x
  sought (every_with s) T x w = (x, eqb-true (at T s.table) s.row w)

  pub sought-maximal : (a : Asked) (T : List ℕ) → Sought W a T → Maximal W T
  sought-maximal every_set T x = x
  sought-maximal (every_with s) T x = x.0

  pub sought-wanted : (a : Asked) (T : List ℕ) → Sought W a T → wanted a T ≡ true
  sought-wanted every_set T x = refl
  sought-wanted (every_with s) T x = eq-eqb (at T s.table) s.row x.1

  -- ---- open's row

  pub first-there : (a : Asked) → Present W a → 0 < length (rows W) → Row W (first_for W a).table (first_for W a).row
  first-there every_set p h = row_at-row W 0 h
  first-there (every_with s) p h = p

  module _ (S : Symmetric W) where
    pub first-wanted : (a : Asked) → Present W a → wanted a (extension W (alone W (first_for W a))).rows ≡ true
    first-wanted every_set p = refl
    first-wanted (every_with s) p = eq-eqb (at (extension W (alone W s)).rows s.table) s.row (row-stands W S s p).1

    -- ---- completeness

    -- What has one of the wanted sets, holds only JCC sets, and is closed under the trials whose set is wanted, has every maximal set that is wanted.
    pub complete-asked : (a : Asked) → Present W a → (In : List ℕ → Type 0) → ((T : List ℕ) → In T → JCC W T)
        → ((T : List ℕ) (s : Place) → In T → Row W s.table s.row → wanted a (trial W T s).rows ≡ true → In (trial W T s).rows)
        → (T₀ : List ℕ) → In T₀ → wanted a T₀ ≡ true → (M : List ℕ) → Maximal W M → wanted a M ≡ true → In M
    complete-asked every_set p In jcc closed T₀ i w M x v = complete W S In jcc (λ T s k r. closed T s k r refl) T₀ i M x
    complete-asked (every_with b) p In jcc closed T₀ i w M x v =
        complete-row W S b p In jcc (λ T s k r h. closed T s k r (eq-eqb (at (trial W T s).rows b.table) b.row h))
        T₀ i (eqb-true (at T₀ b.table) b.row w) M x (eqb-true (at M b.table) b.row v)
