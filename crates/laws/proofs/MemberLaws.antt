-- What stands in a list stands at a place of it. Assumes nothing.
use Prim.Native.Nat.{ℕ, zero, suc, ◌<◌}
use native.Mathlib.Omega.{arith}
use native.Mathlib.Nat.{not-suc-le-zero, le_of_suc-le-suc}
use mathlib.Core.Path.{◌≡◌, refl}
use mathlib.Core.List.{List, [], ◌∷◌, Memᴰ}
use lib.ListN.{length, get_or}

module _ {A : Type 0} where
  pub mem-at : (l : List A) (d : A) (i : ℕ) → i < length l → Memᴰ (get_or l i d) l
  mem-at [] d i h = absurd (not-suc-le-zero h)
  mem-at (x ∷ l) d zero h = Memᴰ.head refl
  mem-at (x ∷ l) d (suc i) h = Memᴰ.tail (mem-at l d i (le_of_suc-le-suc h))

  pub at_mem : (d : A) {x : A} {l : List A} → Memᴰ x l → (i : ℕ) × (i < length l) × (x ≡ get_or l i d)
  at_mem d (Memᴰ.head e) = (0, omega arith, e)
  at_mem d (Memᴰ.tail m) = let r = at_mem d m in (suc r.0, omega (arith, r.1), r.2)
