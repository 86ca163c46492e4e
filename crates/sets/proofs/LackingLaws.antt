-- A set without its rows of some tables: what it has of a table, one table fewer that it lacks, and its tables as a mask. Assumes nothing.
use Prim.Native.Nat.{ℕ, ◌+◌, ◌-◌, ◌^◌, ◌≤◌, ◌<◌}
use mathlib.Core.Path.{◌≡◌, refl, sym, ◌∙◌}
use mathlib.Core.Logic.{◌⊎◌, inl, inr, ⊎_elim, ◌≢◌}
use mathlib.Core.Bool.{Bool, true, false, not, cond, ◌&&◌, ◌||◌}
use mathlib.Core.List.{List}
use native.Mathlib.Omega.{arith}
use native.Mathlib.Decide.{ℕ_discrete, dec_lt}
use lib.ListN.{length, set, length-set, get_or-eq_default}
use lib.Seq.{ext_get_or, get_or-set_same, get_or-set_other}
use lib.Bits.{bit_or, bit_xor}
use lib.Dec.{eqb}
use borrow.Author.Tests.{eq-eqb, ne_eqb}
use Rattle.laws.proofs.ListLaws.{length-tab, tab-at}
use Rattle.laws.proofs.TestLaws.{which, clash, not_yes, iff-eq, or_right}
use Rattle.words.specs.Words.{bit_of}
use Rattle.words.proofs.WordLaws.{zero_bit, bit-gone, bit_kept}
use Rattle.disjunction.specs.Sets.{at, Member}
use Rattle.disjunction.specs.Rule.{Place, add_row, member}
use Rattle.disjunction.proofs.RowTests.{member-iff}
use Rattle.walks.specs.Merged.{Under}
use Rattle.sets.specs.Promises.{TablesOf, lacking}
use Rattle.sets.proofs.MaskLaws.{or_no, and_yes, bit-with, bit-less}
use Rattle.sets.proofs.MergedLaws.{OneMore}

-- ---- the tables of a set

module _ (T : List ℕ) (mask : ℕ) (M : TablesOf T mask) where
  pub tables-has : (u : ℕ) → bit_of mask u ≡ true → Member T u
  tables-has u b = (member-iff T u).0 (sym (M u) ∙ b)

  pub tables-of : (u : ℕ) → Member T u → bit_of mask u ≡ true
  tables-of u m = M u ∙ (member-iff T u).1 m

  pub tables-none : (u : ℕ) → bit_of mask u ≡ false → at T u ≡ 0
  tables-none u b = go (dec_lt 0 (at T u))
    where
      go : Dec (Member T u) → at T u ≡ 0
      go (yes m) = absurd (clash (tables-of u m) b)
      go (no g) = omega (arith, g)

  -- A set has no row past its end.
  pub tables-lt : (u : ℕ) → bit_of mask u ≡ true → u < length T
  tables-lt u b = go (dec_lt u (length T))
    where
      go : Dec (u < length T) → u < length T
      go (yes l) = l
      go (no g) = absurd (let z : at T u ≡ 0 = get_or-eq_default T 0 (omega arith) in omega (arith, z, tables-has u b))

member-same : (T U : List ℕ) (u : ℕ) → at T u ≡ at U u → member T u ≡ member U u
member-same T U u e =
    iff-eq (member T u) (member U u)
    (λ h. (member-iff U u).1 (rw (← e) ((member-iff T u).0 h)))
    (λ h. (member-iff T u).1 (rw e ((member-iff U u).0 h)))

-- With one row more.
pub tables-add : (T : List ℕ) (mask x : ℕ) (p : Place) → TablesOf T mask → p.table < length T → 0 < p.row → x ≡ 2 ^ p.table
    → TablesOf (add_row T p) (bit_or mask x)
tables-add T mask x p M l r e u = bit-with mask p.table x u e ∙ go (ℕ_discrete u p.table)
  where
    go : Dec (u ≡ p.table) → (bit_of mask u || eqb u p.table) ≡ member (add_row T p) u
    go (yes q) =
        or_right (bit_of mask u) (eq-eqb u p.table q)
        ∙ sym ((member-iff (add_row T p) u).1 (rw (q, get_or-set_same T p.table p.row 0 l) r))
    go (no g) = rw (ne_eqb u p.table g) (or_no (bit_of mask u) ∙ M u ∙ sym (member-same (add_row T p) T u (get_or-set_other T p.table u p.row 0 g)))

-- Table by table: the mask has the tables below u with a row in T.
pub record Marked (T : List ℕ) (mask u : ℕ) : Type 0 where
  pub below : (v : ℕ) → v < u → bit_of mask v ≡ member T v
  pub above : (v : ℕ) → u ≤ v → bit_of mask v ≡ false

module _ (T : List ℕ) where
  pub marked-none : Marked T 0 0
  marked-none = record { below = λ v l. absurd (omega arith); above = λ v l. zero_bit v }

  module _ (mask u : ℕ) (K : Marked T mask u) where
    -- Whatever is said of table u.
    marked_next : (mask' : ℕ) → bit_of mask' u ≡ member T u → ((v : ℕ) → v ≢ u → bit_of mask' v ≡ bit_of mask v) → Marked T mask' (u + 1)
    marked_next mask' here others =
        record { below = λ v l. go v l (ℕ_discrete v u); above = λ v l. others v (λ (q : v ≡ u). omega arith) ∙ K.above v (omega arith) }
      where
        go : (v : ℕ) → v < u + 1 → Dec (v ≡ u) → bit_of mask' v ≡ member T v
        go v l (yes q) = rw q here
        go v l (no g) = others v g ∙ K.below v (omega (arith, l, g))

    pub marked_row : Member T u → (x : ℕ) → x ≡ 2 ^ u → Marked T (bit_or mask x) (u + 1)
    marked_row m x e =
        marked_next (bit_or mask x)
        (bit-with mask u x u e ∙ or_right (bit_of mask u) (eq-eqb u u refl) ∙ sym ((member-iff T u).1 m))
        (λ v g. bit-with mask u x v e ∙ rw (ne_eqb v u g) (or_no (bit_of mask v)))

    pub marked-skip : at T u ≡ 0 → Marked T mask (u + 1)
    marked-skip z =
        marked_next mask (K.above u (omega arith) ∙ sym (not_yes (member T u) (λ y. absurd (omega (arith, z, (member-iff T u).0 y))))) (λ v g. refl)

    -- There are no rows from u on.
    pub marked-end : ((v : ℕ) → u ≤ v → at T v ≡ 0) → TablesOf T mask
    marked-end z v = go (dec_lt v u)
      where
        go : Dec (v < u) → bit_of mask v ≡ member T v
        go (yes l) = K.below v l
        go (no g) = K.above v (omega arith) ∙ sym (not_yes (member T v) (λ y. absurd (omega (arith, z v (omega arith), (member-iff T v).0 y))))

-- ---- the set without some of them

module _ (T : List ℕ) (mask : ℕ) where
  pub lacking-long : length (lacking T mask) ≡ length T
  unfolding lacking
  lacking-long = length-tab (length T) (λ u. cond (bit_of mask u) 0 (at T u))

  pub lacking-at : (u : ℕ) → at (lacking T mask) u ≡ cond (bit_of mask u) 0 (at T u)
  unfolding lacking
  lacking-at u = go (dec_lt u (length T))
    where
      either : (b : Bool) (x : ℕ) → x ≡ 0 → x ≡ cond b 0 x
      either true x e = e
      either false x e = refl

      go : Dec (u < length T) → at (lacking T mask) u ≡ cond (bit_of mask u) 0 (at T u)
      go (yes l) = tab-at (length T) (λ u. cond (bit_of mask u) 0 (at T u)) u l
      go (no g) =
          let z : at T u ≡ 0 = get_or-eq_default T 0 (omega arith) in
          get_or-eq_default (lacking T mask) 0 (rw lacking-long (omega arith)) ∙ sym z ∙ either (bit_of mask u) (at T u) z

  pub lacking-out : (u : ℕ) → bit_of mask u ≡ true → at (lacking T mask) u ≡ 0
  lacking-out u b = lacking-at u ∙ rw b

  pub lacking-in : (u : ℕ) → bit_of mask u ≡ false → at (lacking T mask) u ≡ at T u
  lacking-in u b = lacking-at u ∙ rw b

  pub lacking-le : (u : ℕ) → at (lacking T mask) u ≤ at T u
  lacking-le u = ⊎_elim (λ b. omega (arith, lacking-out u b)) (λ b. omega (arith, lacking-in u b)) (which (bit_of mask u))

  -- A set that has of each table what is asked for.
  pub lacking-by : (U : List ℕ) → length U ≡ length T → ((u : ℕ) → u < length T → at U u ≡ cond (bit_of mask u) 0 (at T u)) → U ≡ lacking T mask
  lacking-by U e h =
      ext_get_or 0 U (lacking T mask) (e ∙ sym lacking-long) (λ u b. h u (rw e at b) ∙ sym (lacking-at u))

-- A set that lacks nothing, and one that lacks all of its tables.
pub lacking-none : (T : List ℕ) (u : ℕ) → at T u ≡ at (lacking T 0) u
lacking-none T u = sym (lacking-in T 0 u (zero_bit u))

pub lacking-all : (T : List ℕ) (mask : ℕ) → TablesOf T mask → (u : ℕ) → at (lacking T mask) u ≡ 0
lacking-all T mask M u = ⊎_elim (λ b. lacking-out T mask u b) (λ b. lacking-in T mask u b ∙ tables-none T mask M u b) (which (bit_of mask u))

-- One table fewer that it lacks: its row is back.
module _ (T : List ℕ) (mask u : ℕ) (b : bit_of mask u ≡ true) where
  lacking-others : (v : ℕ) → v ≢ u → at (lacking T (mask - 2 ^ u)) v ≡ at (lacking T mask) v
  lacking-others v g = lacking-at T (mask - 2 ^ u) v ∙ rw (bit_kept mask u b v g) (sym (lacking-at T mask v))

  lacking-here : at (lacking T (mask - 2 ^ u)) u ≡ at T u
  lacking-here = lacking-in T (mask - 2 ^ u) u (bit-gone mask u b)

  pub lacking-more : (r : ℕ) → at T u ≡ r → 0 < r → OneMore (at (lacking T mask)) (at (lacking T (mask - 2 ^ u))) u r
  lacking-more r e p = record { low = p; new = lacking-out T mask u b; here = lacking-here ∙ e; others = lacking-others }

  pub lacking-set : u < length T → set (lacking T mask) u (at T u) ≡ lacking T (mask - 2 ^ u)
  lacking-set l =
      ext_get_or 0 (set (lacking T mask) u (at T u)) (lacking T (mask - 2 ^ u))
      (length-set (lacking T mask) u (at T u) ∙ lacking-long T mask ∙ sym (lacking-long T (mask - 2 ^ u)))
      (λ v c. go v (ℕ_discrete v u))
    where
      go : (v : ℕ) → Dec (v ≡ u) → at (set (lacking T mask) u (at T u)) v ≡ at (lacking T (mask - 2 ^ u)) v
      go v (yes q) = rw q (get_or-set_same (lacking T mask) u (at T u) 0 (rw (lacking-long T mask) l) ∙ sym lacking-here)
      go v (no g) = get_or-set_other (lacking T mask) u v (at T u) 0 g ∙ sym (lacking-others v g)

-- The tables of what is left.
pub tables-less : (T : List ℕ) (mask gone : ℕ) → TablesOf T mask → Under gone mask → TablesOf (lacking T gone) (bit_xor mask gone)
tables-less T mask gone M h u = bit-less mask gone h u ∙ go (which (bit_of gone u))
  where
    none : (b : Bool) → (b && false) ≡ false
    none true = refl
    none false = refl

    go : (bit_of gone u ≡ true) ⊎ (bit_of gone u ≡ false) → (bit_of mask u && not (bit_of gone u)) ≡ member (lacking T gone) u
    go (inl e) =
        rw e (none (bit_of mask u) ∙ sym
        (not_yes (member (lacking T gone) u) (λ y. absurd (omega (arith, (member-iff (lacking T gone) u).0 y, lacking-out T gone u e)))))
    go (inr e) = rw e (and_yes (bit_of mask u) ∙ M u ∙ sym (member-same (lacking T gone) T u (lacking-in T gone u e)))
