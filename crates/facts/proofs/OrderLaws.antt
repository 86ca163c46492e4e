-- A lawful catalogue whose tables are filed in another order is lawful, and has the same schemes and codes under the new table numbers: so its maximal sets
-- and their padded rows are the same. Tables that are accepted stay accepted. What carries the proof: a cell's place in its table stays. Assumes nothing.
use Prim.Native.Nat.{ℕ, zero, suc, ◌+◌, ◌-◌, ◌*◌, ◌%◌, ◌^◌, ◌≤◌, ◌<◌}
use native.Mathlib.Omega.{arith}
use mathlib.Core.Path.{◌≡◌, refl, sym, ap, subst, subst₂, ◌∙◌}
use mathlib.Core.Logic.{⊎_elim, ◌↔◌}
use mathlib.Core.Bool.{true}
use mathlib.Core.List.{List, ◌++◌}
use lib.ListN.{length, get_or, drop, length-append, get_or-append}
use lib.Seq.{get_or-append-add, get_or-take, get_or-drop, ext_get_or}
use lib.Count.{ones}
use Rattle.laws.specs.Lists.{part}
use Rattle.laws.proofs.ListLaws.{length_part}
use Rattle.laws.proofs.TestLaws.{below_suc}
use Rattle.words.specs.Words.{bit_of}
use Rattle.tables.specs.declared.Catalogue.{Catalogue}
use Rattle.tables.specs.Catalogues.{scheme_of, count_of, first_cell, row_start, code_of, for_tables, given}
use Rattle.tables.specs.Checks.{Lawful}
use Rattle.tables.proofs.CatalogueLaws.{cells-next, cells-mono, table-ends, row_ends, row_inside}
use Rattle.tables.proofs.StoredLaws.{for-at, filled-first, filled-lawful}
use Rattle.disjunction.specs.Sets.{Tables, Row, Maximal}
use Rattle.disjunction.specs.Cells.{tables, padded}
use Rattle.rows.specs.World.{cells_in, world_of}
use Rattle.rows.proofs.WorldLaws.{world-tables, code_inside}
use Rattle.writer.specs.Write.{cells_of, Accepted}
use Rattle.claims.specs.WriteRefusals.{NeedsTwo, row_cells}
use Rattle.claims.proofs.RowsExactly.{rows-good}
use Rattle.facts.specs.Filing.{Renumbering, renumbered, RefiledCells, reordered, reordered_to, reordered_cells, reordered_in}
use Rattle.facts.proofs.SumLaws.{sum_to, sum-renumbered}
use Rattle.facts.proofs.FilingLaws.{renumbered-long, renumbered-back, numbers-back, cells-refiled, refiled-maximal, refiled-padded}

-- An element of a part of a list.
pub part_at : (a k i : ℕ) (l : List ℕ) → i < k → get_or (part a k l) i 0 ≡ get_or l (a + i) 0
part_at a k i l b = get_or-take k (drop a l) i 0 b ∙ get_or-drop a l i 0

-- How many cells table t has.
abbrev cells_of_table : Catalogue → ℕ → ℕ
cells_of_table cat t = count_of cat t * ones (scheme_of cat t)

first-sum : (cat : Catalogue) (k : ℕ) → first_cell cat k ≡ sum_to k (cells_of_table cat)
unfolding first_cell sum_to
first-sum cat zero = refl
first-sum cat (suc k) = rw (first-sum cat k)

module _ (cat : Catalogue) (cells : List ℕ) (to from : ℕ → ℕ) (h : Renumbering cat.n to from) (L : Lawful cat (length cells)) where
  abbrev moved : Catalogue
  moved = reordered from cat

  scheme-moved : (u : ℕ) → u < cat.n → scheme_of moved u ≡ scheme_of cat (from u)
  scheme-moved u l = for-at cat.n (λ u. scheme_of cat (from u)) u l L.tables

  count-moved : (u : ℕ) → u < cat.n → count_of moved u ≡ count_of cat (from u)
  count-moved u l = for-at cat.n (λ u. count_of cat (from u)) u l L.tables

  -- The new order needs version 2 only where the old one does: a table keeps the number of its rows.
  two-moved : NeedsTwo moved → NeedsTwo cat
  two-moved (u, l, b) = (from u, h.from-lt u l, rw (count-moved u l) at b)

  -- ---- how many cells there are

  first-moved : (k : ℕ) → k ≤ cat.n → first_cell moved k ≡ sum_to k (λ u. cells_of_table cat (from u))
  unfolding first_cell sum_to
  first-moved zero l = refl
  first-moved (suc k) l = rw (first-moved k (omega arith), scheme-moved k (omega arith), count-moved k (omega arith))

  pub cells-moved : first_cell moved cat.n ≡ first_cell cat cat.n
  cells-moved = first-moved cat.n (omega arith) ∙ sum-renumbered cat.n to from h (cells_of_table cat) ∙ sym (first-sum cat cat.n)

  next-moved : (u : ℕ) → u < cat.n → first_cell moved (u + 1) ≡ first_cell moved u + cells_of_table cat (from u)
  next-moved u l = cells-next moved u ∙ rw (scheme-moved u l, count-moved u l)

  -- ---- the catalogue

  pub moved-lawful : (lent : ℕ) → first_cell cat cat.n ≤ lent → Lawful moved lent
  moved-lawful lent room =
      let said : Catalogue = given cat.m cat.n (for_tables cat.n (λ u. scheme_of cat (from u))) (for_tables cat.n (λ u. count_of cat (from u))) in
      let all : first_cell said cat.n ≡ first_cell cat cat.n = sym (filled-first said cat.n) ∙ cells-moved in
      filled-lawful said lent
      (record {
        sizes = record { m-low = L.some-attribute; m-high = L.attributes; n-low = L.some-table; n-high = L.tables };
        some-scheme = λ u l. rw (scheme-moved u l) (L.some-scheme (from u) (h.from-lt u l));
        scheme = λ u l. rw (scheme-moved u l) (L.scheme (from u) (h.from-lt u l));
        rows = λ u l. rw (count-moved u l) (L.rows (from u) (h.from-lt u l));
        cells = omega (arith, all, L.cells);
        room = omega (arith, all, room);
      })

  -- ---- the cells

  table-room : (t : ℕ) → t < cat.n → first_cell cat t + cells_of_table cat t ≤ length cells
  table-room t l = omega (arith, table-ends cat t l, L.room)

  to-long : (k : ℕ) → k ≤ cat.n → length (reordered_to k from cat cells) ≡ first_cell moved k
  unfolding reordered_to first_cell
  to-long zero l = refl
  to-long (suc k) l =
      length-append (reordered_to k from cat cells) (cells_of cat cells (from k))
      ∙ rw (
        to-long k (omega arith),
        length_part (first_cell cat (from k)) (cells_of_table cat (from k)) cells (table-room (from k) (h.from-lt k (omega arith))),
        scheme-moved k (omega arith),
        count-moved k (omega arith),
      )

  -- Cell i of a table is the same cell in the new order.
  to_cell : (k u i : ℕ) → k ≤ cat.n → u < k → i < cells_of_table cat (from u)
      → get_or (reordered_to k from cat cells) (first_cell moved u + i) 0 ≡ get_or cells (first_cell cat (from u) + i) 0
  unfolding reordered_to
  to_cell zero u i l b j = absurd (omega arith)
  to_cell (suc k) u i l b j =
      ⊎_elim
      (λ (e : u ≡ k).
      let before = reordered_to k from cat cells in
      let last = cells_of cat cells (from k) in
      let n : first_cell moved k + i ≡ length before + i = rw (to-long k (omega arith)) in
      rw e
      (ap (λ (x : ℕ). get_or (before ++ last) x 0) n ∙ get_or-append-add before last i 0
      ∙ part_at (first_cell cat (from k)) (cells_of_table cat (from k)) i cells (rw e at j)))
      (λ (d : u < k).
      let before = reordered_to k from cat cells in
      let n : first_cell moved u + i < length before =
      rw (to-long k (omega arith)) (omega (arith, j, next-moved u (omega arith), cells-mono moved (u + 1) k (omega arith))) in
      get_or-append before (cells_of cat cells (from k)) 0 (first_cell moved u + i) n ∙ to_cell k u i (omega arith) d j)
      (below_suc b)

  pub reordered-long : length (reordered_cells from cat cells) ≡ first_cell cat cat.n
  reordered-long = to-long cat.n (omega arith) ∙ cells-moved

  -- In cells that were lent there is room for them, whatever was lent.
  module _ (lent : List ℕ) where
    abbrev new : List ℕ
    new = reordered_in from cat cells lent

    pub new-room : first_cell cat cat.n ≤ length new
    new-room =
        let all = reordered_cells from cat cells in
        omega (arith, length-append all (drop (length all) lent), reordered-long)

    pub new-lawful : Lawful moved (length new)
    new-lawful = moved-lawful (length new) new-room

    -- Cell i of row r.
    row-cell : (u r i : ℕ) → u < cat.n → 1 ≤ r → r ≤ count_of cat (from u) → i < ones (scheme_of cat (from u))
        → get_or new (row_start moved u r + i) 0 ≡ get_or cells (row_start cat (from u) r + i) 0
    unfolding row_start
    row-cell u r i l low high b =
        let w = ones (scheme_of cat (from u)) in
        let j = (r - 1) * w + i in
        let in_table : j < cells_of_table cat (from u) = omega (arith, row_ends cat w r (count_of cat (from u)) low high) in
        let p : first_cell moved u + (r - 1) * ones (scheme_of moved u) + i ≡ first_cell moved u + j = rw (scheme-moved u l) (omega arith) in
        let q : first_cell cat (from u) + (r - 1) * w + i ≡ first_cell cat (from u) + j = omega arith in
        let all = reordered_cells from cat cells in
        let inside : first_cell moved u + j < length all =
        rw (to-long cat.n (omega arith)) (omega (arith, in_table, next-moved u l, cells-mono moved (u + 1) cat.n (omega arith))) in
        rw (p, q) (get_or-append all (drop (length all) lent) 0 (first_cell moved u + j) inside ∙ to_cell cat.n u j (omega arith) l in_table)

    -- ---- the same maximal sets

    pub moved-cells : RefiledCells (cells_in cat cells) (cells_in moved new) to from
    moved-cells =
        record {
          wide = refl;
          many = refl;
          numbers = h;
          count = λ t l. count-moved (to t) (h.to-lt t l) ∙ ap (count_of cat) (h.from-to t l);
          scheme = λ t a l. ap (λ (x : ℕ). bit_of x a) (scheme-moved (to t) (h.to-lt t l) ∙ ap (scheme_of cat) (h.from-to t l));
          codes = codes;
        }
      where
        codes : (t r a : ℕ) → Row (tables (cells_in cat cells)) t r → bit_of (scheme_of cat t) a ≡ true → code_of moved new (to t) r a ≡ code_of cat cells t r a
        codes t r a k b =
            let l = h.to-lt t k.table in
            let e : from (to t) ≡ t = h.from-to t k.table in
            let s : scheme_of moved (to t) ≡ scheme_of cat t = scheme-moved (to t) l ∙ ap (scheme_of cat) e in
            let i : ones (scheme_of cat t % 2 ^ a) < ones (scheme_of cat t) =
            omega (arith, code_inside (scheme_of cat t) 0 (ones (scheme_of cat t)) a (omega arith) b) in
            rw s (rw e at (row-cell (to t) r (ones (scheme_of cat t % 2 ^ a)) l k.low (rw e k.high) (rw e i)))

    -- "Filing the tables in another order gives the same maximal sets under the new table numbers";
    pub moved-maximal : (T : List ℕ) → length T ≡ cat.n → Maximal (world_of cat cells) T ↔ Maximal (world_of moved new) (renumbered cat.n from T)
    moved-maximal T e =
        subst₂ (λ (W X : Tables). Maximal W T ↔ Maximal X (renumbered cat.n from T)) (sym (world-tables cat cells)) (sym (world-tables moved new))
        (refiled-maximal (tables (cells_in cat cells)) (tables (cells_in moved new)) to from
        (cells-refiled (cells_in cat cells) (cells_in moved new) to from moved-cells) T e)

    -- every one of the new maximal sets is one of these;
    pub maximal-moved : (U : List ℕ) → Maximal (world_of moved new) U
        → Maximal (world_of cat cells) (renumbered cat.n to U) × (renumbered cat.n from (renumbered cat.n to U) ≡ U)
    maximal-moved U y =
        let e : renumbered cat.n from (renumbered cat.n to U) ≡ U =
        renumbered-back cat.n from to (numbers-back cat.n to from h) U y.jcc.valid.long in
        ((moved-maximal (renumbered cat.n to U) (renumbered-long cat.n to U)).1 (subst (Maximal (world_of moved new)) (sym e) y), e)

    -- their padded rows are the same, too.
    pub moved-padded : (T : List ℕ) → Maximal (world_of cat cells) T → padded (cells_in moved new) (renumbered cat.n from T) ≡ padded (cells_in cat cells) T
    moved-padded T x =
        refiled-padded (cells_in cat cells) (cells_in moved new) to from moved-cells T (subst (λ (W : Tables). Maximal W T) (world-tables cat cells) x)

    -- ---- what the loader and the writer accept

    rows-moved : (u r : ℕ) → u < cat.n → 1 ≤ r → r ≤ count_of cat (from u) → row_cells moved new u r ≡ row_cells cat cells (from u) r
    rows-moved u r l low high =
        let w = ones (scheme_of cat (from u)) in
        let s : ones (scheme_of moved u) ≡ w = ap ones (scheme-moved u l) in
        let a : length (part (row_start moved u r) w new) ≡ w =
        length_part (row_start moved u r) w new
        (omega (arith, rw s at (row_inside moved (length new) new-lawful u r l low (rw (count-moved u l) high)), new-lawful.room)) in
        let b : length (row_cells cat cells (from u) r) ≡ w =
        length_part (row_start cat (from u) r) w cells (omega (arith, row_inside cat (length cells) L (from u) r (h.from-lt u l) low high, L.room)) in
        rw s
        (ext_get_or 0 (part (row_start moved u r) w new) (row_cells cat cells (from u) r) (a ∙ sym b)
        (λ i k.
        let j : i < w = rw a at k in
        part_at (row_start moved u r) w i new j ∙ row-cell u r i l low high j ∙ sym (part_at (row_start cat (from u) r) w i cells j)))

    pub moved-accepted : Accepted cat cells → Accepted moved new
    moved-accepted A =
        record {
          lawful = new-lawful;
          rows = λ u l. (rows-good moved new u).1
              (λ r low high.
              let old : r ≤ count_of cat (from u) = rw (count-moved u l) at high in
              let good = (rows-good cat cells (from u)).0 (A.rows (from u) (h.from-lt u l)) r low old in
              let here = rows-moved u r l low old in (
                λ x. good.0 (rw here at x),
                λ x. good.1 (two-moved x.0, rw here at x.1),
                λ x.
                    let before = rows-moved u (r - 1) l (omega (arith, x.0)) (omega arith) in
                    good.2 (x.0, rw (before, here) at x.1),
              ));
        }
