-- Reading what was written gives the same table, for every table that the writer accepts. Assumes nothing.
use Prim.Native.Nat.{ℕ, zero, suc, ◌+◌, ◌*◌, ◌^◌, ◌≤◌, ◌<◌}
use native.Mathlib.Nat.{mul-one, suc-mul, zero-mul}
use native.Mathlib.Decide.{dec_lt}
use native.Mathlib.Omega.{arith}
use mathlib.Core.Path.{◌≡◌, refl, sym, ap, ◌∙◌}
use mathlib.Core.Logic.{◌⊎◌, inl, inr}
use mathlib.Core.List.Memᴰ
use mathlib.Core.List.{List, [], ◌∷◌, Memᴰ}
use lib.ListN.{length, take, drop, length-drop}
use lib.Seq.{length-take-le, take-add}
use lib.Count.{ones}
use borrow.Author.Tests.{lt-ltb, eq-eqb}
use Rattle.tables.specs.Sizes.{most_attributes, most_rows, most_cells}
use Rattle.text.specs.Lines.{no_code, Lines, line, lines_from}
use Rattle.text.specs.declared.Form.TheVariants.{AtStart}
use Rattle.text.specs.Reading.{cell_fault, header_fault, scheme_from, insert, table, counted, rows_from, headed, read_of, flat}
use Rattle.text.specs.Order.{Rising, ordered}
use Rattle.text.specs.Writing.{attribute_codes, text_of, lines_text, cut, wrote, write_of}
use Rattle.text.specs.Refusals.{HighCode}
use Rattle.text.proofs.WrittenLines.{Codes, Rows, as_lines, line_read, lines-read}
use Rattle.text.proofs.OrderLaws.{Wide, ordered_same}
use Rattle.text.proofs.Headers.{header-good, header_codes, header-scheme, header-width}
use Rattle.text.proofs.TextSays.{in-range, count-good}
use Rattle.text.proofs.WriteExactly.{write-exact}

-- ---- the rows of lines that are rows

cells-good : (k : ℕ) (codes : List ℕ) → Codes codes → cell_fault k codes ≡ 0
unfolding cell_fault
cells-good k [] Codes.none = refl
cells-good k (c ∷ codes) (Codes.more h cs) = rw (lt-ltb c no_code h) (cells-good (k + 1) codes cs)

module _ (room scheme w : ℕ) where
  rows-read : (l : ℕ) (kept rows : List (List ℕ)) → Rows w rows → rows_from room scheme w l kept (as_lines rows) ≡ counted room scheme w (ordered kept rows)
  unfolding rows_from as_lines ordered
  rows-read l kept [] Rows.none = refl
  rows-read l kept (r ∷ rows) (Rows.more e c rs) = rw (eq-eqb (length r) w e, cells-good 1 r c) (rows-read (l + 1) (insert r kept) rows rs)

rows-wide : (w : ℕ) (rows : List (List ℕ)) → Rows w rows → Wide w rows
rows-wide w [] Rows.none y m = absurd (Memᴰ.not-nil m)
rows-wide w (r ∷ rows) (Rows.more e c rs) y m = by (Memᴰ.cases_cons m) (rows-wide w rows rs y)
  where
    by : (y ≡ r) ⊎ Memᴰ y rows → (Memᴰ y rows → length y ≡ w) → length y ≡ w
    by (inl q) ih = rw q e
    by (inr k) ih = ih k

-- ---- what the writer accepts

codes-low : (codes : List ℕ) → (HighCode codes → ⊥) → Codes codes
codes-low [] h = Codes.none
codes-low (c ∷ codes) h =
    elim (dec_lt c no_code) [
      | yes l ↦ Codes.more l (codes-low codes (λ (x, m, k). h (x, Memᴰ.tail m, k)))
      | no l ↦ absurd (h (c, Memᴰ.head refl, omega arith))
    ]

rows_are : (w : ℕ) (rows : List (List ℕ)) → ((r : List ℕ) → Memᴰ r rows → HighCode r → ⊥) → Wide w rows → Rows w rows
rows_are w [] h l = Rows.none
rows_are w (r ∷ rows) h l =
    Rows.more (l r (Memᴰ.head refl)) (codes-low r (h r (Memᴰ.head refl))) (rows_are w rows (λ x m. h x (Memᴰ.tail m)) (λ x m. l x (Memᴰ.tail m)))

-- ---- rows that are cut

pub length_cut : (k w : ℕ) (cells : List ℕ) → length (cut k w cells) ≡ k
unfolding cut
length_cut zero w cells = refl
length_cut (suc k) w cells = ap suc (length_cut k w (drop w cells))

cut-wide : (k w : ℕ) (cells : List ℕ) → k * w ≤ length cells → Wide w (cut k w cells)
unfolding cut
cut-wide zero w cells h y m = absurd (Memᴰ.not-nil m)
cut-wide (suc k) w cells h y m =
    let q = suc-mul k w in
    by (Memᴰ.cases_cons m) (cut-wide k w (drop w cells) (simp length-drop (omega arith)) y)
  where
    by : (y ≡ take w cells) ⊎ Memᴰ y (cut k w (drop w cells)) → (Memᴰ y (cut k w (drop w cells)) → length y ≡ w) → length y ≡ w
    by (inl e) ih = rw e (length-take-le w cells (omega (arith, suc-mul k w)))
    by (inr j) ih = ih j

-- ---- the whole

-- A scheme that is not 0 has an attribute.
pub some-code : (codes : List ℕ) → 0 < scheme_from codes → 0 < length codes
unfolding scheme_from
some-code [] h = h
some-code (c ∷ codes) h = omega arith

headed-good : (m room : ℕ) (codes : List ℕ) (rest : Lines) → header_fault m 1 0 codes ≡ 0
    → headed m room (line codes rest) ≡ rows_from room (scheme_from codes) (length codes) 2 [] rest
unfolding headed
headed-good m room codes rest h = rw h

-- The lines of a written text.
text-lines : (m scheme w : ℕ) (rows : List (List ℕ)) → m ≤ most_attributes → 0 < length (attribute_codes m 0 scheme) → 0 < w → Rows w rows
    → lines_from (text_of m scheme rows) AtStart 0 [] ≡ line (attribute_codes m 0 scheme) (as_lines rows)
unfolding text_of
text-lines m scheme w rows l z p h =
    line_read (attribute_codes m 0 scheme) (lines_text rows) z (header_codes m 0 scheme (omega arith)) ∙ rw (lines-read w rows p h)

same-table : (m scheme room : ℕ) (rows : List (List ℕ)) → 1 ≤ m → m ≤ most_attributes → 0 < scheme → scheme < 2 ^ m → Rows (ones scheme) rows → Rising rows
    → length rows ≤ most_rows → length rows * ones scheme ≤ most_cells → length rows * ones scheme ≤ room
    → read_of m room (text_of m scheme rows) ≡ table scheme rows
same-table m scheme room rows l h some low are rise few most fits =
    let sc : scheme_from (attribute_codes m 0 scheme) ≡ scheme = header-scheme m 0 scheme low ∙ mul-one scheme in
    let wd : length (attribute_codes m 0 scheme) ≡ ones scheme = header-width m 0 scheme low in
    let z : 0 < length (attribute_codes m 0 scheme) = some-code (attribute_codes m 0 scheme) (rw sc some) in
    in-range m room (text_of m scheme rows) l h
    ∙ ap (headed m room) (text-lines m scheme (ones scheme) rows h z (rw wd at z) are)
    ∙ headed-good m room (attribute_codes m 0 scheme) (as_lines rows) (header-good m m 0 scheme 1 0 (omega arith) (omega arith))
    ∙ rw (sc, wd) (rows-read room scheme (ones scheme) 2 [] rows are)
    ∙ ap (counted room scheme (ones scheme)) (ordered_same (ones scheme) rows (rows-wide (ones scheme) rows are) rise)
    ∙ count-good m room h scheme (ones scheme) rows few most fits

-- "reading that gives the same table": for every table that the writer accepts, whatever room the reader is lent that its cells fit into.
pub round_trip : (m scheme count room out : ℕ) (cells s : List ℕ) → write_of m scheme count cells out ≡ wrote s → count * ones scheme ≤ room
    → read_of m room s ≡ table scheme (cut count (ones scheme) cells)
round_trip m scheme count room out cells s h fits =
    let (g, p, l, e) = ((write-exact m scheme count cells out).accepts s).0 h in
    let n = length_cut count (ones scheme) cells in
    rw e (same-table m scheme room (cut count (ones scheme) cells) g.some g.attributes g.scheme-some g.scheme-low
    (rows_are (ones scheme) (cut count (ones scheme) cells) p.low (cut-wide count (ones scheme) cells g.fits))
    p.rising (rw n g.rows) (rw n g.most) (rw n fits))

-- And the cells that the reader then writes are the table's.
pub flat-cut : (k w : ℕ) (cells : List ℕ) → flat (cut k w cells) ≡ take (k * w) cells
unfolding flat cut
flat-cut zero w cells = rw (zero-mul w)
flat-cut (suc k) w cells =
    let e : suc k * w ≡ w + k * w = omega (arith, suc-mul k w) in
    rw (flat-cut k w (drop w cells), e) (sym (take-add w (k * w) cells))
