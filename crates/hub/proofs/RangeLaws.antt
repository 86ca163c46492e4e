-- What `any` and `all` over a range of numbers compute, as tests below a bound. Assumes nothing.
use Prim.Native.Nat.{ℕ, zero, suc, ◌+◌}
use native.Mathlib.Omega.{arith}
use native.Mathlib.Numerals.{add-one}
use native.Mathlib.Nat.{add-zero, zero-add}
use mathlib.Core.Path.{◌≡◌, refl, sym, ap, ◌∙◌}
use mathlib.Core.Logic.{◌⊎◌, inl, inr}
use mathlib.Core.Bool.{Bool, true, false, ◌&&◌, ◌||◌}
use Rattle.std.specs.List.{range_with_len, list_any, list_all}
use Rattle.laws.specs.Tests.{any, all}
use Rattle.laws.proofs.TestLaws.{which, clash, not_yes, any_of, all-each}

one-on : (n a : ℕ) → (a + 1) + n ≡ a + suc n
one-on n a = omega arith

-- None below a passes: one from a on does where one of them all does.
pub any-range : (p : ℕ → Bool) (n a : ℕ) → any a p ≡ false → list_any p (range_with_len a n) ≡ any (a + n) p
unfolding any
any-range p zero a f = rw add-zero (sym f)
any-range p (suc n) a f = by (which (p a)) (any-range p n (a + 1))
  where
    by : (p a ≡ true) ⊎ (p a ≡ false) → (any (a + 1) p ≡ false → list_any p (range_with_len (a + 1) n) ≡ any ((a + 1) + n) p)
        → p a || list_any p (range_with_len (a + 1) n) ≡ any (a + suc n) p
    by (inl y) ih = rw y (sym (any_of (a + suc n) p a (omega arith) y))
    by (inr e) ih = rw e (ih (rw (add-one, e, f)) ∙ ap (λ (k : ℕ). any k p) (one-on n a))

-- All below a pass: those from a on do where all do.
all-range : (p : ℕ → Bool) (n a : ℕ) → all a p ≡ true → list_all p (range_with_len a n) ≡ all (a + n) p
unfolding all
all-range p zero a f = rw add-zero (sym f)
all-range p (suc n) a f = by (which (p a)) (all-range p n (a + 1))
  where
    by : (p a ≡ true) ⊎ (p a ≡ false) → (all (a + 1) p ≡ true → list_all p (range_with_len (a + 1) n) ≡ all ((a + 1) + n) p)
        → p a && list_all p (range_with_len (a + 1) n) ≡ all (a + suc n) p
    by (inl y) ih = rw y (ih (rw (add-one, y, f)) ∙ ap (λ (k : ℕ). all k p) (one-on n a))
    by (inr e) ih = rw e (sym (not_yes (all (a + suc n) p) (λ y. clash (all-each (a + suc n) p y a (omega arith)) e)))

pub all-below : (p : ℕ → Bool) (n : ℕ) → list_all p (range_with_len 0 n) ≡ all n p
unfolding all
all-below p n = all-range p n 0 refl ∙ ap (λ (k : ℕ). all k p) (zero-add n)
