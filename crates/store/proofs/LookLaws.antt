-- A search of any store, a damaged one too: one look by what it meets, an induction over the looks, and what follows by it. Assumes nothing.
use Prim.Native.Nat.{ℕ, zero, suc, ◌+◌, ◌-◌, ◌≤◌, ◌<◌}
use mathlib.Core.Bool.{Bool, true, false}
use mathlib.Core.Logic.{⊎_elim}
use mathlib.Core.Path.{◌≡◌, refl, sym, ap, ◌∙◌, subst}
use native.Mathlib.Omega.{arith}
use lib.Dec.{eqb, ltb}
use borrow.Author.Tests.{eqb-true, eqb-false, ltb-true, ltb-false, eq-eqb, ne_eqb, le-ltb, lt-ltb}
use Rattle.laws.proofs.TestLaws.{which}
use Rattle.store.specs.Store.{walk}
use Rattle.store.specs.Looks.{Looked, Found, Absent, Damaged}

module _ (hit bit : ℕ → Bool) (link : Bool → ℕ → ℕ) (found : ℕ) where
  -- ---- one look, with f bits left

  pub walk-hit : (f d p : ℕ) → hit p ≡ true → walk hit bit link found f d p ≡ Found p (d + 1)
  unfolding walk
  walk-hit zero d p e = rw e
  walk-hit (suc f) d p e = rw e

  pub walk-last : (f d p : ℕ) → f ≡ 0 → hit p ≡ false → walk hit bit link found f d p ≡ Damaged (d + 1)
  unfolding walk
  walk-last zero d p h e = rw e
  walk-last (suc f) d p h e = absurd (omega arith)

  pub walk-absent : (f d p : ℕ) → 0 < f → hit p ≡ false → link (bit d) p ≡ 0 → walk hit bit link found f d p ≡ Absent p (bit d) (d + 1)
  unfolding walk
  walk-absent zero d p h e z = absurd (omega arith)
  walk-absent (suc f) d p h e z = rw (e, eq-eqb (link (bit d) p) 0 z)

  pub walk-past : (f d p : ℕ) → 0 < f → hit p ≡ false → (link (bit d) p ≡ 0 → ⊥) → found < link (bit d) p → walk hit bit link found f d p ≡ Damaged (d + 1)
  unfolding walk
  walk-past zero d p h e z l = absurd (omega arith)
  walk-past (suc f) d p h e z l = rw (e, ne_eqb (link (bit d) p) 0 z, lt-ltb found (link (bit d) p) l)

  pub walk-on : (f g d p : ℕ) → f ≡ g + 1 → hit p ≡ false → (link (bit d) p ≡ 0 → ⊥) → link (bit d) p ≤ found
      → walk hit bit link found f d p ≡ walk hit bit link found g (d + 1) (link (bit d) p - 1)
  unfolding walk
  walk-on zero g d p h e z l = absurd (omega arith)
  walk-on (suc f) g d p h e z l =
      let q : f ≡ g = omega arith in
      rw (e, ne_eqb (link (bit d) p) 0 z, le-ltb found (link (bit d) p) l) (ap (λ (x : ℕ). walk hit bit link found x (d + 1) (link (bit d) p - 1)) q)

  -- ---- all looks

  -- What has to be shown of the five ways a look can go, for P to hold of every search: of its bits left, depth, place and answer.
  pub record Ways (P : ℕ → ℕ → ℕ → Looked → Type 0) : Type 0 where
    pub hits : (f d p : ℕ) → hit p ≡ true → P f d p (Found p (d + 1))
    pub last : (d p : ℕ) → hit p ≡ false → P 0 d p (Damaged (d + 1))
    pub absent : (f d p : ℕ) → hit p ≡ false → link (bit d) p ≡ 0 → P (suc f) d p (Absent p (bit d) (d + 1))
    pub past : (f d p : ℕ) → hit p ≡ false → found < link (bit d) p → P (suc f) d p (Damaged (d + 1))
    pub on : (f d p : ℕ) (a : Looked) → hit p ≡ false → (link (bit d) p ≡ 0 → ⊥) → link (bit d) p ≤ found
        → P f (d + 1) (link (bit d) p - 1) a → P (suc f) d p a

  pub by-looks : (P : ℕ → ℕ → ℕ → Looked → Type 0) → Ways P → (f d p : ℕ) → P f d p (walk hit bit link found f d p)
  by-looks P W zero d p =
      ⊎_elim
      (λ e. subst (P 0 d p) (sym (walk-hit 0 d p e)) (W.hits 0 d p e))
      (λ e. subst (P 0 d p) (sym (walk-last 0 d p refl e)) (W.last d p e))
      (which (hit p))
  by-looks P W (suc f) d p = looked (by-looks P W f (d + 1) (link (bit d) p - 1))
    where
      goal : {a : Looked} → walk hit bit link found (suc f) d p ≡ a → P (suc f) d p a → P (suc f) d p (walk hit bit link found (suc f) d p)
      goal e = subst (P (suc f) d p) (sym e)

      some : 0 < suc f
      some = omega arith

      follows : hit p ≡ false → (link (bit d) p ≡ 0 → ⊥) → P f (d + 1) (link (bit d) p - 1) (walk hit bit link found f (d + 1) (link (bit d) p - 1))
          → P (suc f) d p (walk hit bit link found (suc f) d p)
      follows e z ih =
          ⊎_elim
          (λ l. let u = ltb-true found (link (bit d) p) l in goal (walk-past (suc f) d p some e z u) (W.past f d p e u))
          (λ l. let u = ltb-false found (link (bit d) p) l in goal (walk-on (suc f) f d p (omega arith) e z u) (W.on f d p _ e z u ih))
          (which (ltb found (link (bit d) p)))

      misses : hit p ≡ false → P f (d + 1) (link (bit d) p - 1) (walk hit bit link found f (d + 1) (link (bit d) p - 1))
          → P (suc f) d p (walk hit bit link found (suc f) d p)
      misses e ih =
          ⊎_elim
          (λ z. let n = eqb-true (link (bit d) p) 0 z in goal (walk-absent (suc f) d p some e n) (W.absent f d p e n))
          (λ z. follows e (eqb-false (link (bit d) p) 0 z) ih)
          (which (eqb (link (bit d) p) 0))

      looked : P f (d + 1) (link (bit d) p - 1) (walk hit bit link found f (d + 1) (link (bit d) p - 1)) → P (suc f) d p (walk hit bit link found (suc f) d p)
      looked ih = ⊎_elim (λ e. goal (walk-hit (suc f) d p e) (W.hits (suc f) d p e)) (λ e. misses e ih) (which (hit p))

-- The place named lies among the records, and no more looks are made than there are depths.
abbrev pub Inside : ℕ → ℕ → Looked → Type 0
Inside found deepest (Found p looks) = (p < found) × (looks ≤ deepest + 1)
Inside found deepest (Absent p s looks) = (p < found) × (looks ≤ deepest + 1)
Inside found deepest (Damaged looks) = looks ≤ deepest + 1

pub walk_inside : (hit bit : ℕ → Bool) (link : Bool → ℕ → ℕ) (found deepest f d p : ℕ)
    → d + f ≤ deepest → p < found → Inside found deepest (walk hit bit link found f d p)
walk_inside hit bit link found deepest =
    by-looks hit bit link found (λ f d p a. d + f ≤ deepest → p < found → Inside found deepest a)
    (record {
      hits = λ f d p e h l. (l, omega arith);
      last = λ d p e h l. omega arith;
      absent = λ f d p e z h l. (l, omega arith);
      past = λ f d p e u h l. omega arith;
      on = λ f d p a e z u ih h l. ih (omega arith) (omega arith);
    })

-- Only the records count: a search goes the same way where they are the same.
pub walk-copy : (hit hit' bit : ℕ → Bool) (link link' : Bool → ℕ → ℕ) (found : ℕ)
    → ((p : ℕ) → p < found → hit' p ≡ hit p) → ((s : Bool) (p : ℕ) → p < found → link' s p ≡ link s p)
    → (f d p : ℕ) → p < found → walk hit' bit link' found f d p ≡ walk hit bit link found f d p
walk-copy hit hit' bit link link' found h k =
    by-looks hit bit link found (λ f d p a. p < found → walk hit' bit link' found f d p ≡ a)
    (record {
      hits = λ f d p e l. walk-hit hit' bit link' found f d p (h p l ∙ e);
      last = λ d p e l. walk-last hit' bit link' found 0 d p refl (h p l ∙ e);
      absent = λ f d p e z l. walk-absent hit' bit link' found (suc f) d p (omega arith) (h p l ∙ e) (k (bit d) p l ∙ z);
      past = λ f d p e u l. walk-past hit' bit link' found (suc f) d p (omega arith) (h p l ∙ e) (λ z. omega (arith, k (bit d) p l)) (rw (k (bit d) p l) u);
      on = λ f d p a e z u ih l.
          let m = k (bit d) p l in
          walk-on hit' bit link' found (suc f) f d p (omega arith) (h p l ∙ e) (λ y. z (sym m ∙ y)) (rw m u)
          ∙ ap (λ (x : ℕ). walk hit' bit link' found f (d + 1) (x - 1)) m
          ∙ ih (omega arith);
    })
