-- The row test, one law for each way of the code: the table is present, it does not touch the set, the merged row decides. And where a table's rows begin.
-- The laws of the merged row and of the masks of touching tables carry the test. Assumes nothing.
use Prim.Native.Nat.{ℕ, suc, ◌-◌, ◌<◌}
use mathlib.Core.Path.{◌≡◌, sym, ap, ◌∙◌}
use mathlib.Core.Logic.{◌↔◌, ◌≢◌, ⊎_elim}
use mathlib.Core.Bool.{Bool, true, false, not, ◌&&◌}
use mathlib.Core.List.{List}
use native.Mathlib.Omega.{arith}
use native.Mathlib.Nat.{eq-zero-or-pos}
use lib.ListN.{length}
use lib.Bits.{bit_and}
use lib.Dec.{eqb}
use borrow.Author.Tests.{eq-eqb, ne_eqb}
use Rattle.laws.specs.Tests.{any}
use Rattle.laws.proofs.TestLaws.{clash, not_yes, iff-eq, and_split, and-join, any_some, any_of}
use Rattle.words.specs.Words.{bit_of}
use Rattle.words.proofs.WordLaws.{shares-any}
use Rattle.tables.specs.declared.Catalogue.{Catalogue}
use Rattle.tables.specs.Catalogues.{scheme_of, first_cell, row_start, mask_in}
use Rattle.tables.specs.Checks.{Lawful}
use Rattle.disjunction.specs.Sets.{at, Member}
use Rattle.disjunction.specs.Rule.{Place, near, Agrees, row_test}
use Rattle.disjunction.proofs.RowSets.{member-table}
use Rattle.disjunction.proofs.RowTests.{near-iff, row_test-iff, row_test-absent}
use Rattle.rows.specs.World.{world_of, touches_in}
use Rattle.rows.proofs.WorldLaws.{touch-iff}
use Rattle.rows.proofs.TouchLaws.{mask-touches}
use Rattle.walks.specs.Merged.{Attributes, Merged, matches, row_in}
use Rattle.sets.specs.Promises.{Reach}
use Rattle.sets.proofs.MergedLaws.{matches-fits}

-- ---- the row test

module _ (cat : Catalogue) (cells : List ℕ) where
  test-member : (T : List ℕ) (p : Place) → Member T p.table → row_test (world_of cat cells) T p ≡ false
  test-member T p m = not_yes (row_test (world_of cat cells) T p) (λ y. absurd (omega (arith, m, row_test-absent (world_of cat cells) T p y)))

  module _ (lent : ℕ) (L : Lawful cat lent) (T : List ℕ) (p : Place) (long : length T ≡ cat.n) (here : p.table < cat.n) where
    abbrev shared : ℕ → ℕ
    shared mask = bit_and (scheme_of cat p.table) mask

    -- A row is near a set where its scheme shares an attribute with the members'.
    near-mask : (mask : ℕ) → Attributes cat (at T) mask → near (world_of cat cells) T p ≡ not (eqb (shared mask) 0)
    near-mask mask A =
        iff-eq (near (world_of cat cells) T p) (any cat.m common)
        (λ h.
        let (u, m, e) = (near-iff (world_of cat cells) T p long).0 h in
        let (a, l, q, s) = (touch-iff cat cells u p.table).0 e in
        any_of cat.m common a l (and-join s (A.of-has a u m q)))
        (λ h.
        let (a, l, y) = any_some cat.m common h in
        let w = and_split (bit_of (scheme_of cat p.table) a) (bit_of mask a) y in
        let (u, m, q) = A.has a w.1 in
        (near-iff (world_of cat cells) T p long).1 (u, m, (touch-iff cat cells u p.table).1 (a, l, q, w.0)))
        ∙ sym (shares-any cat.m (scheme_of cat p.table) mask (L.scheme p.table here) A.narrow)
      where
        common : ℕ → Bool
        common a = bit_of (scheme_of cat p.table) a && bit_of mask a

    -- A row of a table that is not present is near a set where the table is in reach.
    module _ (reach : ℕ) (R : Reach cat (at T) reach) where
      pub near-reach : at T p.table ≡ 0 → near (world_of cat cells) T p ≡ bit_of reach p.table
      near-reach z =
          iff-eq (near (world_of cat cells) T p) (bit_of reach p.table)
          (λ h. let (u, m, e) = (near-iff (world_of cat cells) T p long).0 h in R.of-has p.table u m (touching u m ∙ e))
          (λ b. let (u, m, e) = R.has p.table b in (near-iff (world_of cat cells) T p long).1 (u, m, sym (touching u m) ∙ e))
        where
          touching : (u : ℕ) → Member T u → bit_of (mask_in cat u) p.table ≡ touches_in cat u p.table
          touching u m =
              mask-touches cat lent L u (member-table (world_of cat cells) T long u m) p.table here
              (λ (q : p.table ≡ u). let e : at T u ≡ 0 = rw (← q) z in omega (arith, m, e))

      pub test-far : bit_of reach p.table ≡ false → row_test (world_of cat cells) T p ≡ false
      test-far f =
          ⊎_elim
          (λ z.
          not_yes (row_test (world_of cat cells) T p)
          (λ y. clash ((near-iff (world_of cat cells) T p long).1 ((row_test-iff (world_of cat cells) T p long).0 y).near) (near-reach z ∙ f)))
          (λ m. test-member T p m)
          (eq-zero-or-pos (at T p.table))

      -- Where it is in reach, it shares an attribute with the members.
      pub reach-shares : (mask : ℕ) → Attributes cat (at T) mask → at T p.table ≡ 0 → bit_of reach p.table ≡ true → shared mask ≢ 0
      reach-shares mask A z b e = clash (near-reach z ∙ b) (near-mask mask A ∙ ap not (eq-eqb (shared mask) 0 e))

    pub test-merged : (codes : List ℕ) (mask : ℕ) → Merged cat cells (at T) codes mask → at T p.table ≡ 0 → shared mask ≢ 0
        → row_test (world_of cat cells) T p ≡ matches cells (scheme_of cat p.table) (row_start cat p.table p.row) (shared mask) codes
    test-merged codes mask M z s =
        iff-eq (row_test (world_of cat cells) T p) (matches cells (scheme_of cat p.table) (row_start cat p.table p.row) (shared mask) codes)
        (λ y. fits.1 ((row_test-iff (world_of cat cells) T p long).0 y).agrees)
        (λ y.
        (row_test-iff (world_of cat cells) T p long).1
        (record {
          absent = z;
          near = (near-iff (world_of cat cells) T p long).0 (near-mask mask M.attributes ∙ ap not (ne_eqb (shared mask) 0 s));
          agrees = fits.0 y;
        }))
      where
        fits : (matches cells (scheme_of cat p.table) (row_start cat p.table p.row) (shared mask) codes ≡ true) ↔ Agrees (world_of cat cells) T p
        fits = matches-fits cat cells lent L (at T) codes mask M p.table p.row

-- ---- where a row begins

-- Where row i + 1 of a table begins.
pub start_is : (cat : Catalogue) (t i base : ℕ) → base ≡ first_cell cat t → row_in base (scheme_of cat t) i ≡ row_start cat t (suc i)
unfolding row_start
start_is cat t i base e = let s : suc i - 1 ≡ i = omega arith in rw (e, s)

-- Where row r of a table begins, which is there.
pub start_of : (cat : Catalogue) (t r base : ℕ) → base ≡ first_cell cat t → row_in base (scheme_of cat t) (r - 1) ≡ row_start cat t r
unfolding row_start
start_of cat t r base e = rw e
