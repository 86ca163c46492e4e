-- Ways from table to table. One fact carries what follows: a way that leaves a set does so from one table to a touching one (`cross`).
-- Assumes nothing.
use Prim.Native.Nat.{ℕ, ◌<◌}
use native.Mathlib.Omega.{arith}
use native.Mathlib.Nat.{eq-zero-or-pos}
use mathlib.Core.Path.{◌≡◌, sym, ◌∙◌}
use mathlib.Core.Logic.{⊎_elim}
use mathlib.Core.Bool.{true}
use mathlib.Core.List.{List}
use lib.ListN.{length}
use Rattle.disjunction.specs.Sets.{Tables, Symmetric, at, Member, Way, here, step, Connected}
use Rattle.disjunction.specs.Rule.{Place, add_row, alone, Near}
use Rattle.disjunction.proofs.RowSets.{within-member, add-cases, add-within, alone-only}

module _ (W : Tables) where
  pub way-mono : (T U : List ℕ) → ((u : ℕ) → Member T u → Member U u) → {a b : ℕ} → Way W T a b → Way W U a b
  way-mono T U f (here {a = a} m) = here (f a m)
  way-mono T U f (step {a = a} m e w) = step (f a m) e (way-mono T U f w)

  pub way-join : {T : List ℕ} {a b c : ℕ} → Way W T a b → Way W T b c → Way W T a c
  way-join (here m) v = v
  way-join (step m e w) v = step m e (way-join w v)

  pub way-start : {T : List ℕ} {a b : ℕ} → Way W T a b → Member T a
  way-start (here m) = m
  way-start (step m e w) = m

  pub way-turn : Symmetric W → {T : List ℕ} {a b : ℕ} → Way W T a b → Way W T b a
  way-turn S (here m) = here m
  way-turn S (step {a = a} {b = b} m e w) = way-join (way-turn S w) (step (way-start w) (S.touch b a ∙ e) (here m))

  -- The step with which a way of U leaves T.
  pub record Crossing (T U : List ℕ) : Type 0 where
    pub inner : ℕ
    pub outer : ℕ
    pub inside : Member T inner
    pub outside : at T outer ≡ 0
    pub other : Member U outer
    pub touch : W.touches inner outer ≡ true

  pub cross : (T U : List ℕ) {a b : ℕ} → Way W U a b → Member T a → at T b ≡ 0 → Crossing T U
  cross T U (here {a = a} m) i o = absurd (omega arith)
  cross T U (step {a = a} {b = b} m e w) i o =
      ⊎_elim
      (λ z. record { inner = a; outer = b; inside = i; outside = z; other = way-start w; touch = e })
      (λ p. cross T U w p o)
      (eq-zero-or-pos (at T b))

  pub alone-connected : (s : Place) → s.table < W.n → Connected W (alone W s)
  alone-connected s l t u m m' = rw (alone-only W s t l m ∙ sym (alone-only W s u l m')) (here m')

  -- A connected set with a row that touches it is connected.
  pub connected-add : Symmetric W → (T : List ℕ) (p : Place) → p.table < length T → at T p.table ≡ 0 → Near W T p → Connected W T
      → Connected W (add_row T p)
  connected-add S T p l z (v, k, e) c t u m m' = way-join (to t m) (way-turn S (to u m'))
    where
      old : (u : ℕ) → Member T u → Member (add_row T p) u
      old = within-member T (add_row T p) (add-within T p z)

      -- Every member has a way to v, the member of T that p touches.
      to : (x : ℕ) → Member (add_row T p) x → Way W (add_row T p) x v
      to x mx =
          ⊎_elim
          (λ a. step mx (rw a.0 (S.touch p.table v ∙ e)) (here (old v k)))
          (λ a. way-mono T (add_row T p) old (c x v (rw a.1 at mx) k))
          (add-cases T p x l)
