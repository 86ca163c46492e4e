-- The stream over a list of sets, from open on: after any number of steps its sets are distinct, maximal and wanted (`going-moves`), and at its end
-- they are all that are asked for (`drained-all`). The invariant `Going` is kept by each step. Assumes nothing.
use Prim.Native.Nat.{ℕ, zero, suc, ◌<◌}
use native.Mathlib.Omega.{arith}
use native.Mathlib.Numerals.{lt_of_le_of_ne}
use mathlib.Core.Path.{◌≡◌, refl, subst}
use mathlib.Core.Logic.{⊎_elim, ◌↔◌}
use mathlib.Core.Bool.{Bool, true, false, cond}
use mathlib.Core.List.Memᴰ
use mathlib.Core.List.{List, [], ◌∷◌, Memᴰ}
use lib.ListN.{length}
use lib.Dec.{eqb}
use borrow.Author.Tests.{eqb-true, eqb-false}
use Rattle.laws.specs.Distinct.{none}
use Rattle.disjunction.specs.Sets.{Tables, Symmetric}
use Rattle.disjunction.specs.Rule.{rows, extension, alone}
use Rattle.disjunction.specs.Asked.{Asked, Sought, first_for, Present}
use Rattle.disjunction.specs.Keeping.{State, take, try, list_open, list_move, list_moves}
use Rattle.disjunction.proofs.AskedLaws.{first-there, first-wanted}
use Rattle.disjunction.proofs.KeepingLaws.{Going, going-open, going-take, going-try, finished}

module _ (W : Tables) where
  -- The end, where every set of l was taken and tried with every row.
  abbrev pub ended : List (List ℕ) → State
  ended l = record { sets = l; taken = length l; next = length (rows W) }

module _ (W : Tables) (a : Asked) where
  -- A trial is due only after a set was taken.
  pub record Live (q : State) : Type 0 where
    pub going : Going W a q
    pub begun : q.next < length (rows W) → 0 < q.taken

  going-none : Going W a (record { sets = []; taken = 0; next = 0 })
  going-none =
      record {
        maximal = λ T m. absurd (Memᴰ.not-nil m);
        wants = λ T m. absurd (Memᴰ.not-nil m);
        distinct = none;
        taken-le = omega arith;
        next_le = omega arith;
        tried = λ i j. ⊎_elim (λ t. absurd (omega (arith, t.0))) (λ t. absurd (omega (arith, t.0)));
      }

  module _ (S : Symmetric W) (there : Present W a) where
    live-open : Live (list_open W a)
    unfolding list_open
    live-open = go (eqb (length (rows W)) 0) refl
      where
        go : (b : Bool) → eqb (length (rows W)) 0 ≡ b
            → Live (cond b (record { sets = []; taken = 0; next = 0 }) (record { sets = (extension W (alone W (first_for W a))).rows ∷ []; taken = 0; next = length (rows W) }))
        go true e = let z = eqb-true (length (rows W)) 0 e in record { going = going-none; begun = λ l. absurd (omega arith) }
        go false e =
            let h : 0 < length (rows W) = lt_of_le_of_ne (omega arith) (λ q. eqb-false (length (rows W)) 0 e (omega arith)) in
            record { going = going-open W a S (first_for W a) (first-there W a there h) (first-wanted W S a there); begun = λ l. absurd (omega arith) }

    live_move : (q : State) → Live q → Live (list_move W a q)
    unfolding list_move take try
    live_move q h = go (eqb q.next (length (rows W))) (eqb q.taken (length q.sets)) refl refl
      where
        go : (x y : Bool) → eqb q.next (length (rows W)) ≡ x → eqb q.taken (length q.sets) ≡ y → Live (cond x (cond y q (take q)) (try W a q))
        go true true e f = h
        go true false e f =
            let l = lt_of_le_of_ne h.going.taken-le (eqb-false q.taken (length q.sets) f) in
            record { going = going-take W a q h.going l (eqb-true q.next (length (rows W)) e); begun = λ b. omega arith }
        go false b e f =
            let l = lt_of_le_of_ne h.going.next_le (eqb-false q.next (length (rows W)) e) in
            record { going = going-try W a S q h.going (h.begun l) l; begun = λ c. h.begun l }

    live-moves : (k : ℕ) (q : State) → Live q → Live (list_moves W a k q)
    unfolding list_moves
    live-moves zero q h = h
    live-moves (suc k) q h = live-moves k (list_move W a q) (live_move q h)

    -- Cut short anywhere, the sets are distinct, maximal and wanted.
    pub going-moves : (k : ℕ) → Going W a (list_moves W a k (list_open W a))
    going-moves k = (live-moves k (list_open W a) live-open).going

    -- At the end they are exactly the sets asked for.
    pub drained-all : (k : ℕ) (l : List (List ℕ)) → list_moves W a k (list_open W a) ≡ ended W l → 0 < length l → (T : List ℕ) → Sought W a T ↔ Memᴰ T l
    drained-all k l e p = finished W a S there (ended W l) (subst (Going W a) e (going-moves k)) p refl refl
