-- What covering says: `covering-iff`, from the laws of `all` and of codes past a row's end; covering by pairs of codes; and that covering is an order on
-- rows. Assumes nothing.
use Prim.Native.Nat.{ℕ, zero, suc, ◌≤◌, ◌<◌}
use native.Mathlib.Omega.{arith}
use native.Mathlib.Decide.{dec_lt}
use native.Mathlib.Numerals.{add-one}
use Rattle.std.specs.List.{list_all, zip}
use Rattle.std.proofs.lemmas.List.{take_all}
use Rattle.std.proofs.lemmas.List.Folds.{list_all_more}
use Rattle.std.proofs.lemmas.Slice.Zip.{length-zip, get_or-zip}
use mathlib.Core.Path.{◌≡◌, refl, sym, ◌∙◌}
use mathlib.Core.Logic.{◌↔◌}
use mathlib.Core.Bool.{true, false, and_comm}
use mathlib.Core.List.{List}
use lib.ListN.{length, take, get_or, get_or-eq_default}
use lib.Seq.{ext_get_or}
use lib.Dec.{eqb}
use borrow.Author.Tests.{eqb-true, eq-eqb, ne_eqb}
use Rattle.laws.proofs.TestLaws.{not_yes, and_split, and-join, all-each, all_of}
use Rattle.laws.specs.Tests.{all}
use Rattle.padding.specs.Covering.{keeps, keeps_at, covering, Covering}

-- ---- two codes

module _ (x y : ℕ) where
  pub keeps_null : y ≡ 0 → keeps x y ≡ true
  unfolding keeps
  keeps_null e = rw (eq-eqb y 0 e)

  pub keeps-value : (y ≡ 0 → ⊥) → keeps x y ≡ eqb x y
  unfolding keeps
  keeps-value d = rw (ne_eqb y 0 d)

  pub keeps-iff : (keeps x y ≡ true) ↔ (0 < y → x ≡ y)
  keeps-iff = (λ h p. eqb-true x y (sym (keeps-value (omega arith)) ∙ h), λ h. go h (dec_lt 0 y))
    where
      go : (0 < y → x ≡ y) → Dec (0 < y) → keeps x y ≡ true
      go h (yes p) = keeps-value (omega arith) ∙ eq-eqb x y (h p)
      go h (no p) = keeps_null (omega arith)

-- ---- two rows

module _ (first second : List ℕ) where
  pub covering-iff : (covering first second ≡ true) ↔ Covering first second
  unfolding covering
  covering-iff = (
    λ h.
        let x = and_split (eqb (length first) (length second)) _ h in
        record {
          long = eqb-true (length first) (length second) x.0;
          values = λ a p. go x.1 a p (dec_lt a (length second));
        },
    λ C.
        and-join (eq-eqb (length first) (length second) C.long)
        (all_of (length second) (keeps_at first second) (λ a l. (keeps-iff (get_or first a 0) (get_or second a 0)).1 (C.values a))),
  )
    where
      go : all (length second) (keeps_at first second) ≡ true → (a : ℕ) → 0 < get_or second a 0 → Dec (a < length second) → get_or first a 0 ≡ get_or second a 0
      go h a p (yes l) = (keeps-iff (get_or first a 0) (get_or second a 0)).0 (all-each (length second) (keeps_at first second) h a l) p
      go h a p (no g) = absurd (omega (arith, get_or-eq_default second 0 {n = a} (omega arith)))

  -- Rows of unequal length never cover.
  pub covering-length : (length first ≡ length second → ⊥) → covering first second ≡ false
  covering-length d = not_yes (covering first second) (λ h. d (covering-iff.0 h).long)

  -- The test of each pair of codes, as far as the k-th.
  kept-pairs : length first ≡ length second → (k : ℕ) → k ≤ length second
      → list_all (λ p. keeps p.0 p.1) (take k (zip first second)) ≡ all k (keeps_at first second)
  unfolding all
  kept-pairs e zero h = refl
  kept-pairs e (suc k) h =
      let l : k < length second = omega arith in
      let m : k < length first = omega arith in
      let b : k < length (zip first second) = rw (length-zip first second) (omega arith) in
      rw (← add-one k, list_all_more (λ p. keeps p.0 p.1) (zip first second) k (0, 0) b, kept-pairs e k (omega arith), get_or-zip first second k (0, 0) m l)
      (and_comm (all k (keeps_at first second)) (keeps_at first second k))

  -- Rows of one length cover where each pair of codes is kept.
  pub covering-pairs : length first ≡ length second → list_all (λ p. keeps p.0 p.1) (zip first second) ≡ covering first second
  unfolding covering
  covering-pairs e =
      let n : length (zip first second) ≤ length second = rw (length-zip first second) (omega arith) in
      rw (eq-eqb (length first) (length second) e) (rw (take_all (length second) (zip first second) n) at (kept-pairs e (length second) (omega arith)))

-- ---- an order on rows

-- A row covers itself,
pub covering-reflexive : (row : List ℕ) → covering row row ≡ true
covering-reflexive row = (covering-iff row row).1 (record { long = refl; values = λ a p. refl })

-- what covers a row covers what that row covers,
pub covering-transitive : (x y z : List ℕ) → covering x y ≡ true → covering y z ≡ true → covering x z ≡ true
covering-transitive x y z p q =
    let F = (covering-iff x y).0 p in
    let G = (covering-iff y z).0 q in
    (covering-iff x z).1
    (record {
      long = F.long ∙ G.long;
      values = λ a h. let e = G.values a h in F.values a (omega arith) ∙ e;
    })

-- and two rows that cover each other are equal: null is null there.
pub covering-antisymmetric : (x y : List ℕ) → covering x y ≡ true → covering y x ≡ true → x ≡ y
covering-antisymmetric x y p q = ext_get_or 0 x y F.long (λ a l. same a (dec_lt 0 (get_or y a 0)) (dec_lt 0 (get_or x a 0)))
  where
    F : Covering x y
    F = (covering-iff x y).0 p

    G : Covering y x
    G = (covering-iff y x).0 q

    same : (a : ℕ) → Dec (0 < get_or y a 0) → Dec (0 < get_or x a 0) → get_or x a 0 ≡ get_or y a 0
    same a (yes h) d = F.values a h
    same a (no h) (yes l) = sym (G.values a l)
    same a (no h) (no l) = omega arith
