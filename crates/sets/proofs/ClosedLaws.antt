-- Tables that are live no more: all of their rows are out of the question for the set and for every set that contains it. The laws of `Lost` carry them.
-- Assumes nothing.
use Prim.Native.Nat.{ℕ, suc, ◌-◌, ◌^◌, ◌≤◌, ◌<◌}
use mathlib.Core.Path.{◌≡◌, refl, sym, ap, ◌∙◌}
use mathlib.Core.Logic.{inl, ⊎_elim, ◌≢◌}
use mathlib.Core.Bool.{Bool, true, false, not}
use mathlib.Core.List.{List}
use native.Mathlib.Omega.{arith}
use lib.ListN.{length}
use lib.Bits.{bit_and, bit_xor}
use lib.Pow.{pow_pos}
use Rattle.laws.proofs.TestLaws.{which, clash, and_split, and_none}
use Rattle.words.specs.Words.{bit_of}
use Rattle.words.proofs.WordLaws.{bit-lt, bit-and, bit-gone}
use Rattle.keys.specs.Keys.{bits_per_row, with_row}
use Rattle.keys.proofs.SetLaws.{in-length}
use Rattle.tables.specs.declared.Catalogue.{Catalogue}
use Rattle.tables.specs.Catalogues.{scheme_of, count_of, first_cell}
use Rattle.tables.specs.Checks.{Lawful}
use Rattle.disjunction.specs.Sets.{at, Within}
use Rattle.disjunction.specs.Rule.{Place, row_test}
use Rattle.disjunction.proofs.RowTests.{Lost, lost-test, test-lost, lost-within}
use Rattle.rows.specs.World.{world_of, set_of}
use Rattle.walks.specs.Firsts.{FirstIn, NoneIn}
use Rattle.walks.specs.Merged.{Merged, matches, row_in}
use Rattle.walks.proofs.FirstLaws.{first-same}
use Rattle.sets.specs.Promises.{TablesOf, Reach}
use Rattle.sets.proofs.MaskLaws.{bits_below, bit-less, without-lacks, without-under}
use Rattle.sets.proofs.MergedLaws.{OneMore}
use Rattle.sets.proofs.LackingLaws.{tables-has, tables-none, tables-lt}
use Rattle.sets.proofs.RowTestLaws.{near-reach, test-far, reach-shares, test-merged, start_is}

-- The row test of row i + 1 of table t, on the set of a key.
abbrev pub tested : Catalogue → List ℕ → ℕ → ℕ → ℕ → Bool
tested cat cells key t i = row_test (world_of cat cells) (set_of cat key) (record { table = t; row = suc i })

-- Row j + 1 of table t.
abbrev row : ℕ → ℕ → Place
row t j = record { table = t; row = suc j }

-- The mask has tables alone, none of them present, and no row of a table that it lacks is ever added to the set of `key`, however it grows.
pub record Shut (cat : Catalogue) (cells : List ℕ) (key live : ℕ) : Type 0 where
  pub tables : (t : ℕ) → bit_of live t ≡ true → t < cat.n
  pub absent : (t : ℕ) → bit_of live t ≡ true → at (set_of cat key) t ≡ 0
  pub lost : (t : ℕ) → t < cat.n → bit_of live t ≡ false → (i : ℕ) → i < count_of cat t → Lost (world_of cat cells) (set_of cat key) (row t i)

more_within : (T U : List ℕ) (t r : ℕ) → OneMore (at T) (at U) t r → Within T U
more_within T U t r o u m = o.others u (λ q. let z : at T u ≡ 0 = rw q o.new in omega (arith, z, m))

module _ (cat : Catalogue) (cells : List ℕ) (key : ℕ) where
  long : length (set_of cat key) ≡ cat.n
  long = in-length bits_per_row cat.n key

  -- At first every table is live that is not present.
  pub shut-start : (k mask : ℕ) → k ≡ 2 ^ cat.n → TablesOf (set_of cat key) mask → Shut cat cells key (bit_xor (k - 1) mask)
  shut-start k mask e M =
      record {
        tables = λ t h. bit-lt (k - 1) cat.n t (omega (arith, e, pow_pos cat.n)) (both t h).0;
        absent = λ t h. tables-none (set_of cat key) mask M t (turned (bit_of mask t) false (both t h).1);
        lost = λ t l h i b. inl (tables-has (set_of cat key) mask M t (present t l h));
      }
    where
      within : (u : ℕ) → bit_of mask u ≡ true → bit_of (k - 1) u ≡ true
      within u b = rw e (bits_below cat.n u (rw long at (tables-lt (set_of cat key) mask M u b)))

      both : (t : ℕ) → bit_of (bit_xor (k - 1) mask) t ≡ true → (bit_of (k - 1) t ≡ true) × (not (bit_of mask t) ≡ true)
      both t h = and_split (bit_of (k - 1) t) (not (bit_of mask t)) (sym (bit-less (k - 1) mask within t) ∙ h)

      turned : (b c : Bool) → not b ≡ not c → b ≡ c
      turned true true q = refl
      turned true false q = absurd (clash q refl)
      turned false true q = absurd (clash refl q)
      turned false false q = refl

      present : (t : ℕ) → t < cat.n → bit_of (bit_xor (k - 1) mask) t ≡ false → bit_of mask t ≡ true
      present t l h =
          turned (bit_of mask t) true
          (and_none (bit_of (k - 1) t) (not (bit_of mask t)) (sym (bit-less (k - 1) mask within t) ∙ h) (rw e (bits_below cat.n t l)))

  module _ (live : ℕ) (S : Shut cat cells key live) where
    -- A table that is live no more has no row that the row test admits.
    shut-test : (t : ℕ) → t < cat.n → bit_of live t ≡ false → NoneIn (count_of cat t) (tested cat cells key t)
    shut-test t l h i b = lost-test (world_of cat cells) (set_of cat key) (row t i) long (S.lost t l h i b)

    -- A table is live no more, as all of its rows are out of the question; the set may have grown by one of them.
    shut-less : (t key' : ℕ) → ((u : ℕ) → u ≢ t → at (set_of cat key') u ≡ at (set_of cat key) u)
        → ((p : Place) → Lost (world_of cat cells) (set_of cat key) p → Lost (world_of cat cells) (set_of cat key') p)
        → bit_of live t ≡ true → ((i : ℕ) → i < count_of cat t → Lost (world_of cat cells) (set_of cat key') (row t i))
        → (k : ℕ) → k ≡ 2 ^ t → Shut cat cells key' (live - k)
    shut-less t key' others grows a gone k e =
        rw e
        (record {
          tables = λ u h. S.tables u (without-under live t a u h);
          absent = λ u h. others u (λ (q : u ≡ t). clash (rw q at h) (bit-gone live t a)) ∙ S.absent u (without-under live t a u h);
          lost = λ u l h j d.
              ⊎_elim (λ f. grows (row u j) (S.lost u l f j d)) (λ (q : u ≡ t). rw q (gone j (rw q at d))) (without-lacks live t u a h);
        })

    -- It was walked without a fit.
    pub shut-walked : (lent : ℕ) → Lawful cat lent → (reach t i : ℕ) → Reach cat (at (set_of cat key)) reach → bit_of live t ≡ true → bit_of reach t ≡ true
        → FirstIn (count_of cat t) (tested cat cells key t) i → count_of cat t ≤ i → (k : ℕ) → k ≡ 2 ^ t → Shut cat cells key (live - k)
    shut-walked lent L reach t i R a b f d k e =
        shut-less t key (λ u g. refl) (λ p x. x) a
        (λ j c.
        test-lost (world_of cat cells) (set_of cat key) (row t j) long
        (near-reach cat cells lent L (set_of cat key) (row t j) long (S.tables t a) reach R (S.absent t a) ∙ b)
        (f.before j (omega (arith, c, d))))
        k e

    -- The set grows by a row of it.
    pub shut_grown : (t i : ℕ) → bit_of live t ≡ true → OneMore (at (set_of cat key)) (at (set_of cat (with_row bits_per_row key t (suc i)))) t (suc i)
        → (k : ℕ) → k ≡ 2 ^ t → Shut cat cells (with_row bits_per_row key t (suc i)) (live - k)
    shut_grown t i a o k e =
        shut-less t (with_row bits_per_row key t (suc i)) o.others
        (λ p x.
        lost-within (world_of cat cells) (set_of cat key) p long (set_of cat (with_row bits_per_row key t (suc i)))
        (in-length bits_per_row cat.n (with_row bits_per_row key t (suc i)))
        (more_within (set_of cat key) (set_of cat (with_row bits_per_row key t (suc i))) t (suc i) o) x)
        a (λ j c. inl (rw o.here (omega arith))) k e

    -- A table that is live and in reach shares an attribute with the set,
    module _ (lent : ℕ) (L : Lawful cat lent) (t reach : ℕ) (a : bit_of live t ≡ true) (b : bit_of reach t ≡ true) (R : Reach cat (at (set_of cat key)) reach)
        (codes : List ℕ) (attrs : ℕ) (M : Merged cat cells (at (set_of cat key)) codes attrs) where
      pub open-shares : bit_and (scheme_of cat t) attrs ≢ 0
      open-shares = reach-shares cat cells lent L (set_of cat key) (row t 0) long (S.tables t a) reach R attrs M.attributes (S.absent t a) b

      -- and the first of its rows that has the merged codes is the first that the row test admits.
      pub open-first : (base i : ℕ) → base ≡ first_cell cat t
          → FirstIn (count_of cat t) (λ j. matches cells (scheme_of cat t) (row_in base (scheme_of cat t) j) (bit_and (scheme_of cat t) attrs) codes) i
          → FirstIn (count_of cat t) (tested cat cells key t) i
      open-first base i e f =
          first-same (count_of cat t) (tested cat cells key t) _ i
          (λ j.
          test-merged cat cells lent L (set_of cat key) (row t j) long (S.tables t a) codes attrs M (S.absent t a) open-shares
          ∙ ap (λ (x : ℕ). matches cells (scheme_of cat t) x (bit_and (scheme_of cat t) attrs) codes) (sym (start_is cat t j base e)))
          f

    -- A table that is not both live and in reach has no row that the row test admits.
    pub closed-test : (lent : ℕ) → Lawful cat lent → (reach : ℕ) → Reach cat (at (set_of cat key)) reach → (u : ℕ) → u < cat.n
        → bit_of (bit_and live reach) u ≡ false
        → NoneIn (count_of cat u) (tested cat cells key u)
    closed-test lent L reach R u l h i b =
        ⊎_elim
        (λ a. test-far cat cells lent L (set_of cat key) (row u i) long l reach R (and_none (bit_of live u) (bit_of reach u) (sym (bit-and live reach u) ∙ h) a))
        (λ f. shut-test u l f i b)
        (which (bit_of live u))
