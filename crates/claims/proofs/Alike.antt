-- The rule looks at the n tables that are there and at no other: on two `Tables` that are alike below n it finds the same sets with the same row tests.
-- One law for each function of the rule, in its order. Assumes nothing.
use Prim.Native.Nat.{ℕ, zero, suc, ◌≤◌, ◌<◌}
use native.Mathlib.Omega.{arith}
use mathlib.Core.Path.{◌≡◌, refl, ap, ap₂, ◌∙◌}
use mathlib.Core.Logic.{⊎_elim}
use mathlib.Core.Bool.{Bool, true, false, cond, ◌&&◌, ◌||◌}
use mathlib.Core.List.Memᴰ
use mathlib.Core.List.{List, [], ◌∷◌, ◌++◌, Memᴰ}
use lib.Dec.{eqb}
use lib.ListN.{length, get_or-eq_default}
use native.Mathlib.Decide.{dec_lt}
use Rattle.laws.specs.Tests.{any, all}
use Rattle.laws.proofs.TabLaws.{tab-ext}
use Rattle.disjunction.specs.Sets.{Tables, at}
use Rattle.disjunction.specs.Rule.{Place, row_in, add_row, rows_to, rows_below, rows, row_at, member, absent, near, agrees, row_test, Round, hit, miss, walk, more, Grown, after, grow, extension, stays, dropped, alone, joins, members_below, piece, start, trial}
use Rattle.disjunction.proofs.RowOrder.{in_rows, row_at-row}

-- ---- tests and walks that meet the same answers

pub any-ext : (k : ℕ) (f g : ℕ → Bool) → ((t : ℕ) → t < k → f t ≡ g t) → any k f ≡ any k g
unfolding any
any-ext zero f g h = refl
any-ext (suc k) f g h = ap₂ (λ (x y : Bool). x || y) (h k (omega arith)) (any-ext k f g (λ t l. h t (omega arith)))

all-ext : (k : ℕ) (f g : ℕ → Bool) → ((t : ℕ) → t < k → f t ≡ g t) → all k f ≡ all k g
unfolding all
all-ext zero f g h = refl
all-ext (suc k) f g h = ap₂ (λ (x y : Bool). x && y) (h k (omega arith)) (all-ext k f g (λ t l. h t (omega arith)))

walk-ext : (f g : Place → Bool) (l : List Place) → ((p : Place) → Memᴰ p l → f p ≡ g p) → walk f l ≡ walk g l
unfolding walk
walk-ext f g [] h = refl
walk-ext f g (p ∷ l) h =
    ap₂ (λ (x : Bool) (y : Round). cond x (hit 1 p) (more y)) (h p (Memᴰ.head refl)) (walk-ext f g l (λ q m. h q (Memᴰ.tail m)))

grow-ext : (f g : List ℕ → Place → Bool) (l : List Place) → ((T : List ℕ) (p : Place) → Memᴰ p l → f T p ≡ g T p)
    → (k : ℕ) (T : List ℕ) → grow f l k T ≡ grow g l k T
unfolding grow
grow-ext f g l h zero T = refl
grow-ext f g l h (suc k) T =
    ap (λ (r : Round). after r T (λ U. grow f l k U)) (walk-ext (f T) (g T) l (h T)) ∙ by (λ U. grow-ext f g l h k U) (walk (g T) l)
  where
    by : ((U : List ℕ) → grow f l k U ≡ grow g l k U) → (r : Round) → after r T (λ U. grow f l k U) ≡ after r T (λ U. grow g l k U)
    by ih (miss c) = refl
    by ih (hit c p) = rw (ih _) refl

-- ---- the rule

module _ (n : ℕ) (count count' : ℕ → ℕ) (touches touches' : ℕ → ℕ → Bool) (fits fits' : ℕ → ℕ → ℕ → ℕ → Bool) where
  abbrev W' : Tables
  W' = record { n = n; count = count'; touches = touches'; fits = fits' }

  abbrev W : Tables
  W = record { n = n; count = count; touches = touches; fits = fits }

  module _ (hc : (t : ℕ) → t < n → count' t ≡ count t) (ht : (t u : ℕ) → t < n → u < n → touches' t u ≡ touches t u)
      (hf : (t r u q : ℕ) → t < n → u < n → fits' t r u q ≡ fits t r u q) where
    rows-below : (k : ℕ) → k ≤ n → rows_below W' k ≡ rows_below W k
    unfolding rows_below
    rows-below zero h = refl
    rows-below (suc k) h = ap₂ (λ (x y : List Place). x ++ y) (rows-below k (omega arith)) (ap (rows_to k) (hc k (omega arith)))

    rows_alike : rows W' ≡ rows W
    rows_alike = rows-below n (omega arith)

    pub row_at-alike : (j : ℕ) → row_at W' j ≡ row_at W j
    row_at-alike j = rw rows_alike refl

    near-alike : (T : List ℕ) (p : Place) → p.table < n → near W' T p ≡ near W T p
    unfolding near
    near-alike T p h = any-ext n _ _ (λ u l. ap (λ (x : Bool). member T u && x) (ht u p.table l h))

    agrees-alike : (T : List ℕ) (p : Place) → p.table < n → agrees W' T p ≡ agrees W T p
    unfolding agrees
    agrees-alike T p h = all-ext n _ _ (λ u l. ap (λ (x : Bool). absent T u || x) (hf u (at T u) p.table p.row l h))

    test-alike : (T : List ℕ) (p : Place) → p.table < n → row_test W' T p ≡ row_test W T p
    unfolding row_test
    test-alike T p h = ap₂ (λ (x y : Bool). absent T p.table && x && y) (near-alike T p h) (agrees-alike T p h)

    pub extension-alike : (T : List ℕ) → extension W' T ≡ extension W T
    unfolding extension
    extension-alike T =
        ap (λ (l : List Place). grow (row_test W') l n T) rows_alike
        ∙ grow-ext (row_test W') (row_test W) (rows W) (λ U p m. test-alike U p (in_rows W p m).table) n T

    alone-alike : (s : Place) → alone W' s ≡ alone W s
    unfolding alone
    alone-alike s = refl

    stays-alike : (T : List ℕ) (s : Place) (u : ℕ) → u < n → s.table < n → stays W' T s u ≡ stays W T s u
    unfolding stays
    stays-alike T s u l h = ap (λ (b : Bool). cond (eqb u s.table) (eqb (at T u) s.row) b) (hf u (at T u) s.table s.row l h)

    dropped-alike : (T : List ℕ) (s : Place) → s.table < n → dropped W' T s ≡ dropped W T s
    unfolding dropped
    dropped-alike T s h =
        ap (λ (l : List ℕ). add_row l s)
        (tab-ext n (λ u. cond (stays W' T s u) (at T u) 0) (λ u. cond (stays W T s u) (at T u) 0)
        (λ u l. ap (λ (b : Bool). cond b (at T u) 0) (stays-alike T s u l h)))

    members_alike : (D : List ℕ) (k : ℕ) → members_below W' D k ≡ members_below W D k
    unfolding members_below
    members_alike D zero = refl
    members_alike D (suc k) = ap (λ (l : List Place). l ++ cond (member D k) (row_in D k ∷ []) []) (members_alike D k)

    members-table : (D : List ℕ) (k : ℕ) (p : Place) → Memᴰ p (members_below W D k) → p.table < k
    unfolding members_below
    members-table D zero p m = absurd (Memᴰ.not-nil m)
    members-table D (suc k) p m =
        ⊎_elim (λ a. omega (arith, members-table D k p a)) (by (member D k)) (Memᴰ.append_cases (members_below W D k) m)
      where
        by : (b : Bool) → Memᴰ p (cond b (row_in D k ∷ []) []) → p.table < suc k
        by true a = omega (arith, ap (λ (x : Place). x.table) (Memᴰ.eq_of_singleton a))
        by false a = absurd (Memᴰ.not-nil a)

    joins-alike : (E : List ℕ) (p : Place) → p.table < n → joins W' E p ≡ joins W E p
    unfolding joins
    joins-alike E p h = ap (λ (x : Bool). absent E p.table && x) (near-alike E p h)

    piece-alike : (D : List ℕ) (s : Place) → piece W' D s ≡ piece W D s
    unfolding piece
    piece-alike D s =
        ap (λ (l : List Place). (grow (joins W') l n (alone W' s)).rows) (members_alike D n)
        ∙ ap (λ (g : Grown). g.rows)
        (grow-ext (joins W') (joins W) (members_below W D n) (λ U p m. joins-alike U p (members-table D n p m)) n (alone W' s)
        ∙ ap (grow (joins W) (members_below W D n) n) (alone-alike s))

    pub trial-alike : (T : List ℕ) (s : Place) → s.table < n → trial W' T s ≡ trial W T s
    unfolding trial start
    trial-alike T s h =
        extension-alike (piece W' (dropped W' T s) s) ∙ ap (extension W) (piece-alike (dropped W' T s) s
        ∙ ap (λ (D : List ℕ). piece W D s) (dropped-alike T s h))

    -- The row at any place is one of a table that is there, if there is a table: past the last row it is taken for one of the first.
    pub row_at-table : (j : ℕ) → 0 < n → (row_at W j).table < n
    row_at-table j h = by (dec_lt j (length (rows W)))
      where
        by : Dec (j < length (rows W)) → (row_at W j).table < n
        by (yes l) = (row_at-row W j l).table
        by (no g) = rw (get_or-eq_default (rows W) (record { table = 0; row = 0 }) {n = j} (omega arith)) h
