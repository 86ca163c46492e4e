-- The refusals of a catalogue, one law for each way that the code goes; and a catalogue without fault is a lawful one, and back. Assumes nothing.
use Prim.Native.Nat.{ℕ, zero, suc, ◌+◌, ◌-◌, ◌*◌, ◌/◌, ◌^◌, ◌≤◌, ◌<◌}
use native.Mathlib.Nat.{mod-lt, div-eq_of_lt}
use native.Mathlib.Decide.{dec_lt, ℕ_discrete}
use native.Mathlib.Omega.{arith}
use mathlib.Core.Path.{◌≡◌, refl, sym, ap, ◌∙◌}
use mathlib.Core.Logic.{◌↔◌}
use mathlib.Core.Bool.{true, false, not}
use lib.Dec.{eqb}
use lib.Count.{ones}
use lib.Pow.{pow_pos, split}
use borrow.Author.Tests.{lt-ltb, le-ltb, le-leb, lt-leb, eq-eqb, ne_eqb}
use Rattle.tables.specs.declared.Catalogue.{Catalogue}
use Rattle.tables.specs.Sizes.{most_attributes, most_tables, most_rows, most_cells}
use Rattle.laws.proofs.TestLaws.{clash, not_yes, or_right, any_of, any_none}
use Rattle.tables.specs.Catalogues.{scheme_of, count_of, first_cell, touching_of, place_in, mask_in}
use Rattle.tables.specs.Checks.{first_met, outside, size_fault, bad_scheme, count_fault, table_fault, tables_fault, shape_fault, misstored, stored_fault, catalogue_fault, Lawful}
use Rattle.tables.proofs.CatalogueLaws.{cells-next, table-ends}

-- ---- the first of two refusals

pub first_some : (a b : ℕ) → (a ≡ 0 → ⊥) → first_met a b ≡ a
first_some zero b h = absurd (h refl)
first_some (suc a) b h = refl

pub first-none : (a b : ℕ) → a ≡ 0 → first_met a b ≡ b
first-none a b e = rw e

-- where the first of two is none, neither is met
pub first-clear : (a b : ℕ) → first_met a b ≡ 0 → (a ≡ 0) × (b ≡ 0)
first-clear zero b h = (refl, h)
first-clear (suc a) b h = absurd (omega arith)

-- ---- 4

pub inside : (low high x : ℕ) → low ≤ x → x ≤ high → outside low high x ≡ false
inside low high x l h = rw (le-ltb x low l, le-ltb high x h)

pub below : (low high x : ℕ) → x < low → outside low high x ≡ true
below low high x l = rw (lt-ltb x low l)

pub above : (low high x : ℕ) → low ≤ x → high < x → outside low high x ≡ true
above low high x l h = rw (le-ltb x low l, lt-ltb high x h)

pub size-m : (m n : ℕ) → outside 1 most_attributes m ≡ true → size_fault m n ≡ 4
unfolding size_fault
size-m m n e = rw e

pub size-n : (m n : ℕ) → outside 1 most_attributes m ≡ false → outside 1 most_tables n ≡ true → size_fault m n ≡ 4
unfolding size_fault
size-n m n e d = rw (e, d)

pub size-good : (m n : ℕ) → outside 1 most_attributes m ≡ false → outside 1 most_tables n ≡ false → size_fault m n ≡ 0
unfolding size_fault
size-good m n e d = rw (e, d)

-- ---- 5

pub scheme-zero : (m x : ℕ) → x ≡ 0 → bad_scheme m x ≡ true
unfolding bad_scheme
scheme-zero m x e = rw (eq-eqb x 0 e)

pub scheme-high : (m x : ℕ) → (x ≡ 0 → ⊥) → 2 ^ m ≤ x → bad_scheme m x ≡ true
unfolding bad_scheme
scheme-high m x z h = rw (ne_eqb x 0 z, le-leb (2 ^ m) x h)

pub scheme-good : (m x : ℕ) → (x ≡ 0 → ⊥) → x < 2 ^ m → bad_scheme m x ≡ false
unfolding bad_scheme
scheme-good m x z h = rw (ne_eqb x 0 z, lt-leb (2 ^ m) x h)

-- nothing stands above bit m, or something does
pub narrow : (m x : ℕ) → x / 2 ^ m ≡ 0 → x < 2 ^ m
narrow m x h = omega (arith, rw h at (split x m), mod-lt x (pow_pos m))

pub wide : (m x : ℕ) → (x / 2 ^ m ≡ 0 → ⊥) → 2 ^ m ≤ x
wide m x h =
    elim (dec_lt x (2 ^ m)) [
      | yes l ↦ absurd (h (div-eq_of_lt l))
      | no l ↦ omega arith
    ]

-- the test as the code makes it, of a scheme that is not 0
pub bad_scheme-parts : (m x : ℕ) → (x ≡ 0 → ⊥) → not (eqb (x / 2 ^ m) 0) ≡ bad_scheme m x
bad_scheme-parts m x z =
    elim (ℕ_discrete (x / 2 ^ m) 0) [
      | yes e ↦ ap not (eq-eqb (x / 2 ^ m) 0 e) ∙ sym (scheme-good m x z (narrow m x e))
      | no n ↦ ap not (ne_eqb (x / 2 ^ m) 0 n) ∙ sym (scheme-high m x z (wide m x n))
    ]

-- ---- 6, 8

pub count-many : (most lent used x c : ℕ) → most < c → count_fault most lent used x c ≡ 6
unfolding count_fault
count-many most lent used x c h = rw (lt-ltb most c h)

pub count_most : (most lent used x c : ℕ) → c ≤ most → most_cells < used + c * ones x → count_fault most lent used x c ≡ 8
unfolding count_fault
count_most most lent used x c h l = rw (le-ltb most c h, lt-ltb most_cells (used + c * ones x) l)

pub count-lent : (most lent used x c : ℕ) → c ≤ most → used + c * ones x ≤ most_cells → lent < used + c * ones x → count_fault most lent used x c ≡ 8
unfolding count_fault
count-lent most lent used x c h l k = rw (le-ltb most c h, le-ltb most_cells (used + c * ones x) l, lt-ltb lent (used + c * ones x) k)

pub count-good : (most lent used x c : ℕ) → c ≤ most → used + c * ones x ≤ most_cells → used + c * ones x ≤ lent → count_fault most lent used x c ≡ 0
unfolding count_fault
count-good most lent used x c h l k = rw (le-ltb most c h, le-ltb most_cells (used + c * ones x) l, le-ltb lent (used + c * ones x) k)

-- ---- a table

pub table-scheme : (m lent used x c : ℕ) → bad_scheme m x ≡ true → table_fault m lent used x c ≡ 5
unfolding table_fault
table-scheme m lent used x c e = rw e

pub table-count : (m lent used x c : ℕ) → bad_scheme m x ≡ false → table_fault m lent used x c ≡ count_fault most_rows lent used x c
unfolding table_fault
table-count m lent used x c e = rw e

-- What a row count that meets neither is known to be.
pub record Counted (limit lent used scheme rows : ℕ) : Type 0 where
  pub few : rows ≤ limit
  pub most : used + rows * ones scheme ≤ most_cells
  pub room : used + rows * ones scheme ≤ lent

module _ (most lent used x c : ℕ) where
  no-count : {A : Type 0} (k : ℕ) → count_fault most lent used x c ≡ suc k → count_fault most lent used x c ≡ 0 → A
  no-count k e d = absurd (omega arith)

  pub fault-counted : count_fault most lent used x c ≡ 0 → Counted most lent used x c
  fault-counted e =
      elim (dec_lt most c) [
        | yes h ↦ no-count 5 (count-many most lent used x c h) e
        | no h ↦ elim (dec_lt most_cells (used + c * ones x)) [
          | yes k ↦ no-count 7 (count_most most lent used x c (omega arith) k) e
          | no k ↦ elim (dec_lt lent (used + c * ones x)) [
            | yes r ↦ no-count 7 (count-lent most lent used x c (omega arith) (omega arith) r) e
            | no r ↦ record { few = omega arith; most = omega arith; room = omega arith }
          ]
        ]
      ]

-- What a table that meets none of the three is known to be.
pub record Clear (m lent used scheme rows : ℕ) : Type 0 where
  pub some : 0 < scheme
  pub low : scheme < 2 ^ m
  pub few : rows ≤ most_rows
  pub most : used + rows * ones scheme ≤ most_cells
  pub room : used + rows * ones scheme ≤ lent

module _ (m lent used x c : ℕ) where
  pub clear-fault : Clear m lent used x c → table_fault m lent used x c ≡ 0
  clear-fault h =
      table-count m lent used x c (scheme-good m x (λ e. omega (arith, h.some)) h.low) ∙ count-good most_rows lent used x c h.few h.most h.room

  no-fault : {A : Type 0} → table_fault m lent used x c ≡ 5 → table_fault m lent used x c ≡ 0 → A
  no-fault e d = absurd (omega arith)

  pub fault-clear : table_fault m lent used x c ≡ 0 → Clear m lent used x c
  fault-clear e =
      elim (dec_lt 0 x) [
        | no z ↦ no-fault (table-scheme m lent used x c (scheme-zero m x (omega arith))) e
        | yes z ↦ elim (dec_lt x (2 ^ m)) [
          | no h ↦ no-fault (table-scheme m lent used x c (scheme-high m x (λ q. omega arith) (omega arith))) e
          | yes h ↦
              let k = fault-counted most_rows lent used x c (sym (table-count m lent used x c (scheme-good m x (λ q. omega arith) h)) ∙ e) in
              record { some = z; low = h; few = k.few; most = k.most; room = k.room }
        ]
      ]

-- What m and n without fault are known to be.
pub record InRange (m n : ℕ) : Type 0 where
  pub m-low : 1 ≤ m
  pub m-high : m ≤ most_attributes
  pub n-low : 1 ≤ n
  pub n-high : n ≤ most_tables

module _ (m n : ℕ) where
  no_size : {A : Type 0} → size_fault m n ≡ 4 → size_fault m n ≡ 0 → A
  no_size e d = absurd (omega arith)

  n-clear : 1 ≤ m → m ≤ most_attributes → size_fault m n ≡ 0 → InRange m n
  n-clear l h e =
      let i = inside 1 most_attributes m l h in
      elim (dec_lt n 1) [
        | yes k ↦ no_size (size-n m n i (below 1 most_tables n k)) e
        | no k ↦ elim (dec_lt most_tables n) [
          | yes r ↦ no_size (size-n m n i (above 1 most_tables n (omega arith) r)) e
          | no r ↦ record { m-low = l; m-high = h; n-low = omega arith; n-high = omega arith }
        ]
      ]

  pub size-clear : size_fault m n ≡ 0 → InRange m n
  size-clear e =
      elim (dec_lt m 1) [
        | yes l ↦ no_size (size-m m n (below 1 most_attributes m l)) e
        | no l ↦ elim (dec_lt most_attributes m) [
          | yes h ↦ no_size (size-m m n (above 1 most_attributes m (omega arith) h)) e
          | no h ↦ n-clear (omega arith) (omega arith) e
        ]
      ]

-- What tables that meet none of 4, 5, 6 and 8 are known to be.
pub record Shaped (cat : Catalogue) (lent : ℕ) : Type 0 where
  pub sizes : InRange cat.m cat.n
  pub some-scheme : (t : ℕ) → t < cat.n → 0 < scheme_of cat t
  pub scheme : (t : ℕ) → t < cat.n → scheme_of cat t < 2 ^ cat.m
  pub rows : (t : ℕ) → t < cat.n → count_of cat t ≤ most_rows
  pub cells : first_cell cat cat.n ≤ most_cells
  pub room : first_cell cat cat.n ≤ lent

pub lawful-shaped : {cat : Catalogue} {lent : ℕ} → Lawful cat lent → Shaped cat lent
lawful-shaped L =
    record {
      sizes = record { m-low = L.some-attribute; m-high = L.attributes; n-low = L.some-table; n-high = L.tables };
      some-scheme = L.some-scheme;
      scheme = L.scheme;
      rows = L.rows;
      cells = L.cells;
      room = L.room;
    }

-- ---- table by table

module _ (cat : Catalogue) (lent : ℕ) where
  -- The refusal that table t meets.
  abbrev pub fault_at : ℕ → ℕ
  fault_at t = table_fault cat.m lent (first_cell cat t) (scheme_of cat t) (count_of cat t)

  pub tables-none : (k t : ℕ) → k ≤ 0 → tables_fault k cat lent t ≡ 0
  unfolding tables_fault
  tables-none zero t z = refl
  tables-none (suc k) t z = absurd (omega arith)

  pub tables-bad : (k t : ℕ) → 0 < k → (fault_at t ≡ 0 → ⊥) → tables_fault k cat lent t ≡ fault_at t
  unfolding tables_fault
  tables-bad zero t z h = absurd (omega arith)
  tables-bad (suc k) t z h = first_some (fault_at t) (tables_fault k cat lent (t + 1)) h

  pub tables_more : (k l t : ℕ) → k ≡ suc l → fault_at t ≡ 0 → tables_fault k cat lent t ≡ tables_fault l cat lent (t + 1)
  unfolding tables_fault
  tables_more k l t e h = rw e (first-none (fault_at t) (tables_fault l cat lent (t + 1)) h)

  pub tables-clear : (k t : ℕ) → tables_fault k cat lent t ≡ 0 → (u : ℕ) → t ≤ u → u < t + k → fault_at u ≡ 0
  unfolding tables_fault
  tables-clear zero t e u l h = absurd (omega arith)
  tables-clear (suc k) t e u l h =
      let f = first-clear (fault_at t) (tables_fault k cat lent (t + 1)) e in
      elim (dec_lt t u) [
        | yes j ↦ tables-clear k (t + 1) f.1 u (omega arith) (omega arith)
        | no j ↦ let q : t ≡ u = omega arith in rw q at f.0
      ]

  pub clear-tables : (k t : ℕ) → ((u : ℕ) → t ≤ u → u < t + k → fault_at u ≡ 0) → tables_fault k cat lent t ≡ 0
  clear-tables zero t h = tables-none zero t (omega arith)
  clear-tables (suc k) t h =
      tables_more (suc k) k t refl (h t (omega arith) (omega arith)) ∙ clear-tables k (t + 1) (λ u l b. h u (omega arith) (omega arith))

  -- No fault of the tables is none in m and n and none in a table.
  pub shape-split : (shape_fault cat lent ≡ 0) ↔ ((size_fault cat.m cat.n ≡ 0) × (tables_fault cat.n cat lent 0 ≡ 0))
  unfolding shape_fault
  shape-split = (
    λ e. first-clear (size_fault cat.m cat.n) (tables_fault cat.n cat lent 0) e,
    λ f. first-none (size_fault cat.m cat.n) (tables_fault cat.n cat lent 0) f.0 ∙ f.1,
  )

  pub shape-clear : shape_fault cat lent ≡ 0 → Shaped cat lent
  shape-clear e =
      let f = shape-split.0 e in
      let s = size-clear cat.m cat.n f.0 in
      let each : (t : ℕ) → t < cat.n → Clear cat.m lent (first_cell cat t) (scheme_of cat t) (count_of cat t) =
      λ t h. fault-clear cat.m lent (first_cell cat t) (scheme_of cat t) (count_of cat t) (tables-clear cat.n 0 f.1 t (omega arith) (omega arith)) in
      let last = each (cat.n - 1) (omega (arith, s.n-low)) in
      let ends : cat.n - 1 + 1 ≡ cat.n = omega (arith, s.n-low) in
      let all : first_cell cat cat.n ≡ first_cell cat (cat.n - 1) + count_of cat (cat.n - 1) * ones (scheme_of cat (cat.n - 1)) =
      rw ends at (cells-next cat (cat.n - 1)) in
      record {
        sizes = s;
        some-scheme = λ t h. (each t h).some;
        scheme = λ t h. (each t h).low;
        rows = λ t h. (each t h).few;
        cells = omega (arith, all, last.most);
        room = omega (arith, all, last.room);
      }

  pub clear-shape : Shaped cat lent → shape_fault cat lent ≡ 0
  clear-shape S =
      shape-split.1 (
        size-good cat.m cat.n
            (inside 1 most_attributes cat.m S.sizes.m-low S.sizes.m-high)
            (inside 1 most_tables cat.n S.sizes.n-low S.sizes.n-high),
        clear-tables cat.n 0
            (λ t l h.
            let n : t < cat.n = omega arith in
            clear-fault cat.m lent (first_cell cat t) (scheme_of cat t) (count_of cat t)
            (record {
              some = S.some-scheme t n;
              low = S.scheme t n;
              few = S.rows t n;
              most = omega (arith, table-ends cat t n, S.cells);
              room = omega (arith, table-ends cat t n, S.room);
            })),
      )

-- ---- 16

module _ (cat : Catalogue) (t : ℕ) where
  pub place-wrong : (place_in cat t ≡ first_cell cat t → ⊥) → misstored cat t ≡ true
  unfolding misstored
  place-wrong h = rw (ne_eqb (place_in cat t) (first_cell cat t) h)

  pub mask-wrong : (mask_in cat t ≡ touching_of cat t → ⊥) → misstored cat t ≡ true
  unfolding misstored
  mask-wrong h = or_right (not (eqb (place_in cat t) (first_cell cat t))) (ap not (ne_eqb (mask_in cat t) (touching_of cat t) h))

  pub stored-right : place_in cat t ≡ first_cell cat t → mask_in cat t ≡ touching_of cat t → misstored cat t ≡ false
  unfolding misstored
  stored-right p m = rw (eq-eqb (place_in cat t) (first_cell cat t) p, eq-eqb (mask_in cat t) (touching_of cat t) m)

  pub right-stored : misstored cat t ≡ false → (place_in cat t ≡ first_cell cat t) × (mask_in cat t ≡ touching_of cat t)
  right-stored h = (
    elim (ℕ_discrete (place_in cat t) (first_cell cat t)) [
      | yes e ↦ e
      | no g ↦ absurd (clash (place-wrong g) h)
    ],
    elim (ℕ_discrete (mask_in cat t) (touching_of cat t)) [
      | yes e ↦ e
      | no g ↦ absurd (clash (mask-wrong g) h)
    ],
  )

module _ (cat : Catalogue) where
  pub stored-bad : (t : ℕ) → t < cat.n → misstored cat t ≡ true → stored_fault cat ≡ 16
  unfolding stored_fault
  stored-bad t l h = rw (any_of cat.n (misstored cat) t l h)

  pub stored-good : ((t : ℕ) → t < cat.n → misstored cat t ≡ false) → stored_fault cat ≡ 0
  unfolding stored_fault
  stored-good h = rw (any_none cat.n (misstored cat) h)

  pub good-stored : stored_fault cat ≡ 0 → (t : ℕ) → t < cat.n → misstored cat t ≡ false
  good-stored e t l = not_yes (misstored cat t) (λ y. absurd (omega (arith, e, stored-bad t l y)))

-- ---- the whole

module _ (cat : Catalogue) (lent : ℕ) where
  -- No fault in the whole is none of the tables and none in what is stored of them.
  pub catalogue-split : (catalogue_fault cat lent ≡ 0) ↔ ((shape_fault cat lent ≡ 0) × (stored_fault cat ≡ 0))
  unfolding catalogue_fault
  catalogue-split = (
    λ e. first-clear (shape_fault cat lent) (stored_fault cat) e,
    λ f. first-none (shape_fault cat lent) (stored_fault cat) f.0 ∙ f.1,
  )

  -- A catalogue without fault is lawful,
  pub fault-lawful : catalogue_fault cat lent ≡ 0 → Lawful cat lent
  fault-lawful e =
      let f = catalogue-split.0 e in
      let S = shape-clear cat lent f.0 in
      let right : (t : ℕ) → t < cat.n → (place_in cat t ≡ first_cell cat t) × (mask_in cat t ≡ touching_of cat t) =
      λ t l. right-stored cat t (good-stored cat f.1 t l) in
      record {
        some-attribute = S.sizes.m-low;
        attributes = S.sizes.m-high;
        some-table = S.sizes.n-low;
        tables = S.sizes.n-high;
        some-scheme = S.some-scheme;
        scheme = S.scheme;
        rows = S.rows;
        cells = S.cells;
        room = S.room;
        places = λ t l. (right t l).0;
        touching = λ t l. (right t l).1;
      }

  -- and a lawful one has no fault.
  pub lawful-fault : Lawful cat lent → catalogue_fault cat lent ≡ 0
  lawful-fault L =
      catalogue-split.1
      (clear-shape cat lent (lawful-shaped L), stored-good cat (λ t l. stored-right cat t (L.places t l) (L.touching t l)))
