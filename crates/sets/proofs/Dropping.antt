-- The start of a trial: which rows have to go, table by table, and what the set is without them. Assumes nothing.
use Prim.Native.Nat.{ℕ, ◌-◌, ◌^◌, ◌<◌}
use mathlib.Core.Path.{◌≡◌, refl, sym, ap, ◌∙◌}
use mathlib.Core.Logic.{◌⊎◌, inl, inr, ◌≢◌, ⊎_elim}
use mathlib.Core.Bool.{Bool, true, false, not, cond, ◌&&◌}
use mathlib.Core.List.{List}
use native.Mathlib.Omega.{arith}
use native.Mathlib.Nat.{eq-zero-or-pos}
use native.Mathlib.Decide.{ℕ_discrete}
use lib.ListN.{length, length-set}
use lib.Seq.{get_or-set_same, get_or-set_other}
use lib.Bits.{bit_and, bit_or}
use lib.Dec.{eqb}
use borrow.Author.Tests.{eq-eqb, ne_eqb}
use Rattle.laws.proofs.TestLaws.{which, clash, not_yes, iff-eq, and_split, and_none, or_left, or_right}
use Rattle.words.specs.Words.{bit_of}
use Rattle.words.proofs.WordLaws.{zero_bit, bit-and, bit-or, bit-gone}
use Rattle.keys.specs.Keys.{bits_per_row, with_row}
use Rattle.keys.specs.TwoWords.{number_of}
use Rattle.keys.specs.declared.Key.{Key}
use Rattle.keys.proofs.KeyLaws.{with-lt}
use Rattle.keys.proofs.SetLaws.{in-length, in-with}
use Rattle.tables.specs.declared.Catalogue.{Catalogue}
use Rattle.tables.specs.Catalogues.{scheme_of, row_start, mask_in}
use Rattle.tables.specs.Checks.{Lawful}
use Rattle.disjunction.specs.Sets.{Tables, at, Member}
use Rattle.disjunction.specs.Rule.{Place, add_row, member, dropped}
use Rattle.disjunction.proofs.RowTests.{member-iff}
use Rattle.disjunction.proofs.Starting.{dropped-long, dropped-here, dropped-other}
use Rattle.rows.specs.World.{world_of, set_of, fits_in}
use Rattle.rows.specs.Named.{Named, There}
use Rattle.rows.proofs.WorldLaws.{touch-iff, fit-iff, world-symmetric}
use Rattle.rows.proofs.TouchLaws.{mask-self, mask-touches}
use Rattle.rows.proofs.NamedLaws.{row_small}
use Rattle.walks.specs.Merged.{merged_length, Under, Merged, matches, Added, only}
use Rattle.sets.specs.Promises.{TablesOf, SetFor, lacking, parts}
use Rattle.sets.proofs.MaskLaws.{bit-with, or_no, without-lacks, without-under}
use Rattle.sets.proofs.MergedLaws.{matches-fits, merged-none, merged-add, only_here, only-other, only-more}
use Rattle.sets.proofs.LackingLaws.{tables-has, tables-none, tables-lt, tables-add, lacking-by}

-- ---- what has to go

module _ (W : Tables) (T : List ℕ) (s : Place) where
  pub parts-own : (u : ℕ) → u ≡ s.table → parts W T s u ≡ false
  unfolding parts
  parts-own u e = rw (eq-eqb u s.table e)

  pub parts_none : (u : ℕ) → at T u ≡ 0 → parts W T s u ≡ false
  unfolding parts
  parts_none u z =
      not_yes (parts W T s u)
      (λ y.
      let x = and_split (not (eqb u s.table) && member T u) (not (W.fits u (at T u) s.table s.row)) y in
      absurd (omega (arith, z, (member-iff T u).0 (and_split (not (eqb u s.table)) (member T u) x.0).1)))

  pub parts-fits : (u : ℕ) → u ≢ s.table → Member T u → parts W T s u ≡ not (W.fits u (at T u) s.table s.row)
  unfolding parts
  parts-fits u d m = rw (ne_eqb u s.table d, (member-iff T u).1 m)

  -- What the drop leaves is T with s, but for the rows that have to go.
  pub dropped-parts : length T ≡ W.n → s.table < W.n → (u : ℕ) → u < W.n → at (dropped W T s) u ≡ cond (parts W T s u) 0 (at (add_row T s) u)
  dropped-parts long l u b = go (ℕ_discrete u s.table) (eq-zero-or-pos (at T u))
    where
      either : (f : Bool) (x : ℕ) → cond f x 0 ≡ cond (not f) 0 x
      either true x = refl
      either false x = refl

      nothing : (f : Bool) (x : ℕ) → x ≡ 0 → cond f x 0 ≡ x
      nothing true x e = refl
      nothing false x e = sym e

      go : Dec (u ≡ s.table) → (at T u ≡ 0) ⊎ Member T u → at (dropped W T s) u ≡ cond (parts W T s u) 0 (at (add_row T s) u)
      go (yes e) m = rw (parts-own u e, e) (dropped-here W T s l ∙ sym (get_or-set_same T s.table s.row 0 (rw long l)))
      go (no d) (inl z) =
          rw (parts_none u z, get_or-set_other T s.table u s.row 0 d)
          (dropped-other W T s u b d ∙ nothing (W.fits u (at T u) s.table s.row) (at T u) z)
      go (no d) (inr m) =
          rw (parts-fits u d m, get_or-set_other T s.table u s.row 0 d)
          (dropped-other W T s u b d ∙ either (W.fits u (at T u) s.table s.row) (at T u))

-- The merged row of one row, as the code makes it.
pub merged-one : (cat : Catalogue) (cells : List ℕ) (lent : ℕ) → Lawful cat lent → (t r mask : ℕ) (codes codes' : List ℕ) → There cat t r
    → length codes ≡ merged_length → Added cells (scheme_of cat t) (row_start cat t r) 0 codes codes' mask
    → Merged cat cells (only t r) codes' mask
merged-one cat cells lent L t r mask codes codes' h l A =
    merged-add cat cells lent L (λ u. 0) (only t r) t r h.table (only-more t r h.low) codes codes' 0 mask
    (merged-none cat cells (λ u. 0) codes l (λ u. refl))
    A

-- A row is consistent with row r of table t where it has the codes of its merged row.
pub fits_one : (cat : Catalogue) (cells : List ℕ) (lent : ℕ) → Lawful cat lent → (t r u q : ℕ) (codes : List ℕ) (mask : ℕ) → 0 < r
    → Merged cat cells (only t r) codes mask
    → fits_in cat cells u q t r ≡ matches cells (scheme_of cat u) (row_start cat u q) (bit_and (scheme_of cat u) mask) codes
fits_one cat cells lent L t r u q codes mask p M =
    (world-symmetric cat cells).fit u q t r
    ∙ iff-eq (fits_in cat cells t r u q) (matches cells (scheme_of cat u) (row_start cat u q) (bit_and (scheme_of cat u) mask) codes)
    (λ h. (matches-fits cat cells lent L (only t r) codes mask M u q).1 (λ v m. each h v m (ℕ_discrete v t)))
    (λ h. rw (only_here t r) at ((matches-fits cat cells lent L (only t r) codes mask M u q).0 h t (rw (only_here t r) p)))
  where
    each : fits_in cat cells t r u q ≡ true → (v : ℕ) → 0 < only t r v → Dec (v ≡ t) → fits_in cat cells v (only t r v) u q ≡ true
    each h v m (yes e) = rw (e, only_here t r) h
    each h v m (no g) = absurd (omega (arith, m, only-other t r v g))

-- Rows of tables that do not touch are consistent.
fits-apart : (cat : Catalogue) (cells : List ℕ) (lent : ℕ) → Lawful cat lent → (t r u q : ℕ) → t < cat.n → u < cat.n → u ≢ t → bit_of (mask_in cat t) u ≡ false
    → fits_in cat cells u q t r ≡ true
fits-apart cat cells lent L t r u q l b d f =
    (fit-iff cat cells u q t r).1 (λ a k x y. absurd (clash ((touch-iff cat cells t u).1 (a, k, y, x)) (sym (mask-touches cat lent L t l u b d) ∙ f)))

-- ---- table by table

-- The tables of `rest` are still to be asked; of the others `gone` has those whose row has to go.
pub record Parting (cat : Catalogue) (cells : List ℕ) (T : List ℕ) (s : Place) (mask gone rest : ℕ) : Type 0 where
  pub under : Under rest mask
  pub asked : (u : ℕ) → bit_of rest u ≡ false → bit_of gone u ≡ parts (world_of cat cells) T s u
  pub todo : (u : ℕ) → bit_of rest u ≡ true → bit_of gone u ≡ false

module _ (cat : Catalogue) (cells : List ℕ) (lent : ℕ) (L : Lawful cat lent) (T : List ℕ) (long : length T ≡ cat.n) (s : Place)
    (h : There cat s.table s.row)
    (tables : ℕ) (M : TablesOf T tables) where
  -- The tables that are asked: those of the set that touch that of s.
  abbrev near : ℕ
  near = bit_and tables (mask_in cat s.table)

  module _ (u : ℕ) (b : bit_of near u ≡ true) where
    split : (bit_of tables u ≡ true) × (bit_of (mask_in cat s.table) u ≡ true)
    split = and_split (bit_of tables u) (bit_of (mask_in cat s.table) u) (sym (bit-and tables (mask_in cat s.table) u) ∙ b)

    pub near-member : Member T u
    near-member = tables-has T tables M u split.0

    pub near-table : u < cat.n
    near-table = rw long at (tables-lt T tables M u split.0)

    pub near-other : u ≢ s.table
    near-other q = clash split.1 (rw q (mask-self cat lent L s.table h.table))

  -- Of the others no row has to go.
  far-stays : (u : ℕ) → bit_of near u ≡ false → parts (world_of cat cells) T s u ≡ false
  far-stays u f = go (ℕ_discrete u s.table) (which (bit_of tables u))
    where
      go : Dec (u ≡ s.table) → (bit_of tables u ≡ true) ⊎ (bit_of tables u ≡ false) → parts (world_of cat cells) T s u ≡ false
      go (yes q) w = parts-own (world_of cat cells) T s u q
      go (no g) (inr n) = parts_none (world_of cat cells) T s u (tables-none T tables M u n)
      go (no g) (inl y) =
          let m = tables-has T tables M u y in
          let a = and_none (bit_of tables u) (bit_of (mask_in cat s.table) u) (sym (bit-and tables (mask_in cat s.table) u) ∙ f) y in
          parts-fits (world_of cat cells) T s u g m
          ∙ ap not (fits-apart cat cells lent L s.table s.row u (at T u) h.table (rw long at (tables-lt T tables M u y)) g a)

  pub parting-start : Parting cat cells T s near 0 near
  parting-start = record { under = λ u b. b; asked = λ u f. zero_bit u ∙ sym (far-stays u f); todo = λ u b. zero_bit u }

  -- The row of the next table is compared with that of s.
  module _ (gone rest : ℕ) (P : Parting cat cells T s near gone rest) (u : ℕ) (b : bit_of rest u ≡ true) (codes : List ℕ) (mask : ℕ)
      (G : Merged cat cells (only s.table s.row) codes mask) where
    parts-answer : parts (world_of cat cells) T s u ≡ not (matches cells (scheme_of cat u) (row_start cat u (at T u)) (bit_and (scheme_of cat u) mask) codes)
    parts-answer =
        parts-fits (world_of cat cells) T s u (near-other u (P.under u b)) (near-member u (P.under u b))
        ∙ ap not (fits_one cat cells lent L s.table s.row u (at T u) codes mask h.low G)

    -- Whatever is said of it now, what is said of the others stays.
    parting-next : (gone' : ℕ) → bit_of gone' u ≡ parts (world_of cat cells) T s u → ((v : ℕ) → v ≢ u → bit_of gone' v ≡ bit_of gone v)
        → Parting cat cells T s near gone' (rest - 2 ^ u)
    parting-next gone' here others =
        record {
          under = λ v c. P.under v (without-under rest u b v c);
          asked = λ v f.
              ⊎_elim
              (λ n. others v (λ (q : v ≡ u). clash (rw q b) n) ∙ P.asked v n)
              (λ (q : v ≡ u). rw q here)
              (without-lacks rest u v b f);
          todo = λ v c. others v (λ (q : v ≡ u). clash (rw q at c) (bit-gone rest u b)) ∙ P.todo v (without-under rest u b v c);
        }

    module _ (start : ℕ) (e : start ≡ row_start cat u (at T u)) where
      abbrev fits : Bool
      fits = matches cells (scheme_of cat u) start (bit_and (scheme_of cat u) mask) codes

      -- It goes,
      pub parting-goes : not fits ≡ true → (x : ℕ) → x ≡ 2 ^ u → Parting cat cells T s near (bit_or gone x) (rest - 2 ^ u)
      parting-goes y x f =
          parting-next (bit_or gone x)
          (bit-with gone u x u f ∙ or_right (bit_of gone u) (eq-eqb u u refl) ∙ sym (parts-answer ∙ (rw e at y)))
          (λ v g. bit-with gone u x v f ∙ rw (ne_eqb v u g) (or_no (bit_of gone v)))

      -- or it stays.
      pub parting-stays : not fits ≡ false → Parting cat cells T s near gone (rest - 2 ^ u)
      parting-stays n = parting-next gone (P.todo u b ∙ sym (parts-answer ∙ (rw e at n))) (λ v g. refl)

  -- None is left to be asked.
  pub parting-end : (gone : ℕ) → Parting cat cells T s near gone 0 → (u : ℕ) → bit_of gone u ≡ parts (world_of cat cells) T s u
  parting-end gone P u = P.asked u (zero_bit u)

  -- ---- all at once

  module _ (gone : ℕ) (G : (u : ℕ) → bit_of gone u ≡ parts (world_of cat cells) T s u) where
    -- What has to go are rows of the set.
    gone-tables : (u : ℕ) → bit_of gone u ≡ true → bit_of tables u ≡ true
    gone-tables u b = ⊎_elim (λ y. y) (λ n. absurd (clash b (G u ∙ parts_none (world_of cat cells) T s u (tables-none T tables M u n)))) (which (bit_of tables u))

    pub gone-under : (x : ℕ) → Under gone (bit_or tables x)
    gone-under x u b = bit-or tables x u ∙ or_left (bit_of x u) (gone-tables u b)

    pub gone-dropped : dropped (world_of cat cells) T s ≡ lacking (add_row T s) gone
    gone-dropped =
        lacking-by (add_row T s) gone (dropped (world_of cat cells) T s)
        (dropped-long (world_of cat cells) T s ∙ sym long ∙ sym (length-set T s.table s.row))
        (λ u l.
        dropped-parts (world_of cat cells) T s long h.table u (rw (← long, ← length-set T s.table s.row) l)
        ∙ rw (G u))

-- The set with the row that comes in.
pub added-set : (cat : Catalogue) (lent : ℕ) → Lawful cat lent → (key tables : ℕ) → Named cat key → TablesOf (set_of cat key) tables → (s : Place)
    → There cat s.table s.row
    → (key' : Key) (x : ℕ) → number_of key' ≡ with_row bits_per_row key s.table s.row → x ≡ 2 ^ s.table
    → SetFor cat (add_row (set_of cat key) s) (number_of key') (bit_or tables x)
added-set cat lent L key tables N M s h key' x e f =
    let small = row_small cat lent L s.table s.row h in
    record {
      low = rw e (with-lt bits_per_row cat.n key s.table s.row h.table small N.low);
      rows = rw e (in-with bits_per_row cat.n key s.table s.row h.table small);
      tables = tables-add (set_of cat key) tables x s M (rw (in-length bits_per_row cat.n key) h.table) h.low f;
    }
