-- What the code's types say in the words of specs/Store: a look at a record, and what an offer gives. Assumes nothing.
use Prim.Native.Nat.{ℕ, ◌^◌, ◌<◌}
use mathlib.Core.Bool.{Bool, ◌&&◌}
use mathlib.Core.Logic.{◌⊎◌, inl, inr}
use mathlib.Core.Path.{◌≡◌, refl, ap, ◌∙◌}
use lib.Dec.{eqb}
use Rattle.keys.specs.TwoWords.{bits_per_word, number_of}
use Rattle.keys.specs.declared.Key.{Key}
use Rattle.keys.proofs.TwoWordLaws.{key-same}
use Rattle.std.proofs.Common.{Ok, Err}
use Rattle.refusals.specs.declared.Refusal.{Refusal}
use Rattle.refusals.specs.declared.Refusal.TheVariants.{FullStore, DamagedStore}
use Rattle.store.specs.declared.Offered.TheVariants as offered
use Rattle.store.specs.Looks.{Placed, Known, Added, Full, Broken}
use Rattle.store.specs.Lent.{offer_of}

-- What `==` of a record's key and the sought one computes, said by the record's number.
pub same-as : (a b : Key) {k : ℕ} {t : Bool} → a.high < 2 ^ bits_per_word → b.high < 2 ^ bits_per_word → number_of a ≡ k
    → t ≡ eqb a.low b.low && eqb a.high b.high → t ≡ eqb k (number_of b)
same-as a b ha hb e s = s ∙ key-same a b ha hb ∙ ap (λ (x : ℕ). eqb x (number_of b)) e

-- An offer's answer is read back from what the code gives for it.
pub offered-known : (a : Placed) {n : ℕ} → Ok (offered.Known n) ≡ offer_of a → a ≡ Known n
offered-known (Known n) e = cc
offered-known (Added n) e = cc
offered-known Full e = cc
offered-known Broken e = cc

pub offered-added : (a : Placed) {n : ℕ} → Ok (offered.Added n) ≡ offer_of a → a ≡ Added n
offered-added (Known n) e = cc
offered-added (Added n) e = cc
offered-added Full e = cc
offered-added Broken e = cc

-- What is refused says why.
pub offered-refused : (a : Placed) {e : Refusal} → Err e ≡ offer_of a → ((a ≡ Full) × (e ≡ FullStore)) ⊎ ((a ≡ Broken) × (e ≡ DamagedStore))
offered-refused (Known n) e = cc
offered-refused (Added n) e = cc
offered-refused Full e = inl (refl, cc)
offered-refused Broken e = inr (refl, cc)
