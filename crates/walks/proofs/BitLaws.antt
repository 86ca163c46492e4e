-- What `all` answers over the set bits of a word, and what it asks its closure, said of the word and not of the items that came. Assumes nothing.
use Prim.Native.Nat.{ℕ, ◌<◌}
use mathlib.Core.Path.{◌≡◌, sym, subst}
use mathlib.Core.Logic.{⊎_elim}
use mathlib.Core.Bool.{Bool, true, false}
use mathlib.Core.List.{List, [], ◌∷◌}
use Rattle.std.proofs.Common.{Option, Some, None, MatchOption}
use Rattle.std.specs.Bool.{MatchBool}
use Rattle.std.specs.Fn.{Mut, Called}
use Rattle.std.specs.Iterator.{Yields, YieldsThen, CallableAtEachTurn}
use Rattle.std.specs.List.{FoldsTo}
use Rattle.laws.proofs.TestLaws.{clash}
use Rattle.words.specs.declared.SetBits.{SetBits}
use Rattle.words.specs.Words.{bit_of, NextBit}
use Rattle.words.proofs.WordLaws.{zero_bit}
use Rattle.walks.specs.Merged.{Under}
use Rattle.walks.proofs.MatchLaws.{under-less, bit-left}

-- one call of `next` of the set bits
abbrev pub next_bit : SetBits → Option ℕ → SetBits → Type 0
next_bit s place t = NextBit s.rest place t.rest

-- each side taken further
pub either : {A B C D : Type 0} (r : Bool) → (A → C) → (B → D) → MatchBool r A B → MatchBool r C D
either true f g x = f x
either false f g x = g x

-- `all` answered true where Yes holds at each set bit, and else there is a set bit with No.
pub bits-all : {F : Type 0} {g : Mut F (ℕ × Unit {0}) Bool} (s u : SetBits) (f : F) (r : Bool) (Yes No : ℕ → Type 0)
    → (xs : List ℕ) × (o : Option ℕ) × (j : F) × YieldsThen next_bit s xs o u × FoldsTo (λ p x q. Called g p (x, tt) true q) f xs j
    × MatchOption o (r ≡ true) (λ x. (r ≡ false) × ((h : F) × Called g j (x, tt) false h))
    → ((x : ℕ) (q : F) → Called g f (x, tt) true q → (q ≡ f) × Yes x) → ((x : ℕ) (q : F) → Called g f (x, tt) false q → No x)
    → MatchBool r ((a : ℕ) → bit_of s.rest a ≡ true → Yes a) ((a : ℕ) × (bit_of s.rest a ≡ true) × No a)
bits-all {F} {g} s u f r Yes No d passed failed = go d.0 s d.3.0 d.2 d.1 d.3.1 d.4 d.3.2 d.5
  where
    End : Option ℕ → F → Type 0
    End o j = MatchOption o (r ≡ true) (λ x. (r ≡ false) × ((h : F) × Called g j (x, tt) false h))

    Said : ℕ → Type 0
    Said rest = MatchBool r ((a : ℕ) → bit_of rest a ≡ true → Yes a) ((a : ℕ) × (bit_of rest a ≡ true) × No a)

    last : (o : Option ℕ) (s : SetBits) → next_bit s o u → End o f → Said s.rest
    last None s n e = rw (e, n.0) (λ a b. absurd (clash b (zero_bit a)))
    last (Some x) s n e = rw e.0 (x, n.0.itself, failed x e.1.0 e.1.1)

    go : (xs : List ℕ) (s t : SetBits) (j : F) (o : Option ℕ) → Yields next_bit s xs t → FoldsTo (λ p x q. Called g p (x, tt) true q) f xs j → next_bit t o u → End o j → Said s.rest
    go [] s t j o y c n e = last o s (subst (λ k. next_bit k o u) (sym y) n) (subst (End o) (sym c) e)
    go (x ∷ xs) s t j o y c n e =
        let k = passed x c.0 c.1 in
        let l = y.1.0 in
        either r (λ h a b. ⊎_elim (λ (q : a ≡ x). rw q k.1) (h a) (bit-left s.rest x l a b)) (λ h. (h.0, under-less s.rest x l s.rest (λ a b. b) h.0 h.1, h.2))
        (rw y.1.1 at (go xs y.0 t j o y.2 (subst (λ m. FoldsTo (λ p x q. Called g p (x, tt) true q) m xs j) k.0 c.2) n e))

-- ---- what a closure is asked

-- what is left of a word is of it
left-under : (xs : List ℕ) (s t : SetBits) → Yields next_bit s xs t → Under t.rest s.rest
left-under [] s t y a b = rw y b
left-under (x ∷ xs) s t y a b = under-less s.rest x y.1.0 s.rest (λ d e. e) a (rw y.1.1 at (left-under xs y.0 t y.2 a b))

-- A closure that each answer leaves as it was is asked of bits of the word only.
pub bits-serve : {P : Type 0} {R : P → ℕ → P → Type 0} {Q : P → ℕ → Type 0} {s : SetBits} {p : P}
    → ((x : ℕ) (q : P) → R p x q → q ≡ p) → ((a : ℕ) → a < 64 → bit_of s.rest a ≡ true → Q p a) → CallableAtEachTurn next_bit R Q s p
bits-serve {P} {R} {Q} {s} {p} stays h =
    record { at = λ xs t q x u y c e. subst (λ k. Q k x) (sym (kept xs q c)) (h x e.0.narrow (left-under xs s t y x e.0.itself)) }
  where
    kept : (xs : List ℕ) (q : P) → FoldsTo R p xs q → q ≡ p
    kept [] q c = sym c
    kept (x ∷ xs) q c = kept xs q (subst (λ k. FoldsTo R k xs q) (stays x c.0 c.1) c.2)
