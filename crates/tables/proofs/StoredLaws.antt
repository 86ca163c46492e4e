-- What is stored of the tables: the list with a place for each, one table more of a mask, and a filled catalogue is stored rightly. Assumes nothing.
use Prim.Native.Nat.{ℕ, zero, suc, ◌+◌, ◌*◌, ◌^◌, ◌≤◌, ◌<◌}
use native.Mathlib.Decide.{dec_lt, ℕ_discrete}
use native.Mathlib.Omega.{arith}
use native.Mathlib.Numerals.{add-one}
use mathlib.Core.Path.{◌≡◌, refl, sym, ap, ◌∙◌}
use mathlib.Core.Bool.{Bool, true, false, cond}
use mathlib.Core.List.{List}
use lib.ListN.{length, get_or, set, replicate, length-set, get_or-replicate}
use lib.Seq.{ext_get_or, get_or-set_same, get_or-set_other}
use lib.Count.{ones}
use lib.Bits.{bit_and}
use lib.Dec.{ltb}
use borrow.Author.Tests.{lt-ltb, le-ltb, eq-eqb, ne_eqb}
use Rattle.laws.proofs.ListLaws.{tab-at, length-tab}
use Rattle.tables.specs.declared.Catalogue.{Catalogue}
use Rattle.tables.specs.Sizes.{most_tables}
use Rattle.tables.specs.Catalogues.{scheme_of, first_cell, touch, touching_below, touching_of, for_tables, filled, given, no_tables}
use Rattle.tables.specs.Checks.{shape_fault, tables_fault, Lawful, made_if}
use Rattle.tables.proofs.CatalogueLaws.{cells-next}
use Rattle.tables.proofs.CheckLaws.{Shaped, shape-clear}

-- ---- a list with a place for each table

module _ (n : ℕ) (f : ℕ → ℕ) where
  pub for-long : length (for_tables n f) ≡ most_tables
  unfolding for_tables
  for-long = length-tab most_tables (λ t. cond (ltb t n) (f t) 0)

  pub for-at : (t : ℕ) → t < n → n ≤ most_tables → get_or (for_tables n f) t 0 ≡ f t
  unfolding for_tables
  for-at t l h = tab-at most_tables (λ u. cond (ltb u n) (f u) 0) t (omega arith) ∙ rw (lt-ltb t n l)

  pub for-past : (t : ℕ) → n ≤ t → t < most_tables → get_or (for_tables n f) t 0 ≡ 0
  unfolding for_tables
  for-past t l h = tab-at most_tables (λ u. cond (ltb u n) (f u) 0) t h ∙ rw (le-ltb t n l)

-- So far as the tables below t are entered.
pub record Entered (f : ℕ → ℕ) (xs : List ℕ) (t : ℕ) : Type 0 where
  pub long : length xs ≡ most_tables
  pub below : (u : ℕ) → u < t → get_or xs u 0 ≡ f u
  pub above : (u : ℕ) → t ≤ u → u < most_tables → get_or xs u 0 ≡ 0

module _ (f : ℕ → ℕ) where
  pub entered-none : Entered f (replicate most_tables 0) 0
  entered-none = record { long = refl; below = λ u l. absurd (omega arith); above = λ u l h. get_or-replicate most_tables u 0 0 h }

  pub entered-next : (xs : List ℕ) (t x : ℕ) → t < most_tables → x ≡ f t → Entered f xs t → Entered f (set xs t x) (t + 1)
  entered-next xs t x h e E =
      record {
        long = length-set xs t x ∙ E.long;
        below = λ u l. go u l (ℕ_discrete u t);
        above = λ u l k. get_or-set_other xs t u x 0 (λ q. omega (arith, q, l)) ∙ E.above u (omega arith) k;
      }
    where
      go : (u : ℕ) → u < t + 1 → Dec (u ≡ t) → get_or (set xs t x) u 0 ≡ f u
      go u l (yes q) = rw q (get_or-set_same xs t x 0 (rw E.long h) ∙ e)
      go u l (no g) = get_or-set_other xs t u x 0 g ∙ E.below u (omega (arith, l, g))

  pub entered_all : (xs : List ℕ) (n : ℕ) → n ≤ most_tables → Entered f xs n → xs ≡ for_tables n f
  entered_all xs n h E =
      ext_get_or 0 xs (for_tables n f) (E.long ∙ sym (for-long n f)) (λ u b. go u (rw E.long at b) (dec_lt u n))
    where
      go : (u : ℕ) → u < most_tables → Dec (u < n) → get_or xs u 0 ≡ get_or (for_tables n f) u 0
      go u b (yes l) = E.below u l ∙ sym (for-at n f u l h)
      go u b (no g) = E.above u (omega arith) b ∙ sym (for-past n f u (omega arith) b)

-- ---- a mask

module _ (cat : Catalogue) (t : ℕ) where
  pub touch-self : (u : ℕ) → u ≡ t → touch cat t u ≡ false
  unfolding touch
  touch-self u e = rw (eq-eqb u t e)

  pub touch-apart : (u : ℕ) → (u ≡ t → ⊥) → bit_and (scheme_of cat t) (scheme_of cat u) ≡ 0 → touch cat t u ≡ false
  unfolding touch
  touch-apart u g z = rw (ne_eqb u t g, eq-eqb (bit_and (scheme_of cat t) (scheme_of cat u)) 0 z)

  pub touch-both : (u : ℕ) → (u ≡ t → ⊥) → (bit_and (scheme_of cat t) (scheme_of cat u) ≡ 0 → ⊥) → touch cat t u ≡ true
  unfolding touch
  touch-both u g z = rw (ne_eqb u t g, ne_eqb (bit_and (scheme_of cat t) (scheme_of cat u)) 0 z)

  pub touching-none : touching_below cat t 0 ≡ 0
  unfolding touching_below
  touching-none = refl

  pub touching-next : (k : ℕ) → touching_below cat t (k + 1) ≡ touching_below cat t k + cond (touch cat t k) (2 ^ k) 0
  unfolding touching_below
  touching-next k = rw add-one

  pub touching-lt : (k : ℕ) → touching_below cat t k < 2 ^ k
  unfolding touching_below
  touching-lt zero = omega arith
  touching-lt (suc k) = omega (arith, touching-lt k, few (touch cat t k))
    where
      few : (b : Bool) → cond b (2 ^ k) 0 ≤ 2 ^ k
      few true = omega arith
      few false = omega arith

-- ---- filled

-- Places and masks have no say in what is worked out.
module _ (cat : Catalogue) where
  pub filled-first : (t : ℕ) → first_cell (filled cat) t ≡ first_cell cat t
  unfolding first_cell
  filled-first zero = refl
  filled-first (suc t) = rw (filled-first t)

  filled-touch : (t u : ℕ) → touch (filled cat) t u ≡ touch cat t u
  unfolding touch
  filled-touch t u = refl

  pub filled-touching : (t k : ℕ) → touching_below (filled cat) t k ≡ touching_below cat t k
  unfolding touching_below
  filled-touching t zero = refl
  filled-touching t (suc k) = rw (filled-touching t k, filled-touch t k)

  pub filled-tables : (lent k t : ℕ) → tables_fault k (filled cat) lent t ≡ tables_fault k cat lent t
  unfolding tables_fault
  filled-tables lent zero t = refl
  filled-tables lent (suc k) t = rw (filled-first t, filled-tables lent k (t + 1))

  pub filled-shape : (lent : ℕ) → shape_fault (filled cat) lent ≡ shape_fault cat lent
  unfolding shape_fault
  filled-shape lent = rw (filled-tables lent cat.n 0)

  -- Filled, tables that meet none of 4, 5, 6 and 8 are a lawful catalogue.
  pub filled-lawful : (lent : ℕ) → Shaped cat lent → Lawful (filled cat) lent
  filled-lawful lent S =
      record {
        some-attribute = S.sizes.m-low;
        attributes = S.sizes.m-high;
        some-table = S.sizes.n-low;
        tables = S.sizes.n-high;
        some-scheme = S.some-scheme;
        scheme = S.scheme;
        rows = S.rows;
        cells = rw (filled-first cat.n) S.cells;
        room = rw (filled-first cat.n) S.room;
        places = λ t l. for-at cat.n (first_cell cat) t l S.sizes.n-high ∙ sym (filled-first t);
        touching = λ t l. for-at cat.n (touching_of cat) t l S.sizes.n-high ∙ sym (filled-touching t cat.n);
      }

-- Tables that were filled, and meet none of 4, 5, 6 and 8, are lawful.
pub stored-lawful : (cat given : Catalogue) (lent : ℕ) → cat ≡ filled given → shape_fault cat lent ≡ 0 → Lawful cat lent
stored-lawful cat given lent e h =
    rw e (filled-lawful given lent (shape-clear given lent (sym (filled-shape given lent) ∙ sym (ap (λ (d : Catalogue). shape_fault d lent) e) ∙ h)))

-- ---- one table more is said

module _ (m n : ℕ) (xs cs : List ℕ) (t x c : ℕ) where
  given-before : (u : ℕ) → u ≤ t → first_cell (given m n (set xs t x) (set cs t c)) u ≡ first_cell (given m n xs cs) u
  unfolding first_cell
  given-before zero l = refl
  given-before (suc u) l =
      rw (given-before u (omega arith), get_or-set_other xs t u x 0 (λ e. omega (arith, e, l)), get_or-set_other cs t u c 0 (λ e. omega (arith, e, l)))

  -- Its cells lie behind those of the tables before it.
  pub given-next : t < length xs → t < length cs → first_cell (given m n (set xs t x) (set cs t c)) (t + 1) ≡ first_cell (given m n xs cs) t + c * ones x
  given-next h k =
      cells-next (given m n (set xs t x) (set cs t c)) t
      ∙ rw (given-before t (omega arith), get_or-set_same xs t x 0 h, get_or-set_same cs t c 0 k)

-- ---- tables made by hand

pub made-refused : (f : ℕ) (cat : Catalogue) → (f ≡ 0 → ⊥) → made_if f cat ≡ record { refusal = f; catalogue = no_tables }
made-refused zero cat h = absurd (h refl)
made-refused (suc k) cat h = refl

pub made-filled : (f : ℕ) (cat : Catalogue) → f ≡ 0 → made_if f cat ≡ record { refusal = 0; catalogue = filled cat }
made-filled f cat e = rw e
