-- What is told at the end: 8 or the table; and the answer of a whole reading from its parts. Assumes nothing.
use Prim.Native.Nat.{ℕ, ◌*◌, ◌≤◌, ◌<◌}
use native.Mathlib.Omega.{arith}
use mathlib.Core.Path.{◌≡◌, refl, sym, ap, subst, ◌∙◌}
use mathlib.Core.Bool.{true}
use mathlib.Core.List.{List, []}
use lib.ListN.{length, take, drop}
use lib.Seq.{length-take-le}
use lib.Dec.{ltb}
use borrow.Author.Tests.{lt-ltb, le-ltb}
use Rattle.laws.proofs.TestLaws.{or_right}
use Rattle.tables.specs.Sizes.{most_attributes, most_rows, most_cells}
use Rattle.text.specs.declared.Form.TheVariants.{AtStart}
use Rattle.text.specs.Lines.{lines_from}
use Rattle.text.specs.Reading.{Told, table, refused, counted, rows_from, read_of, flat}
use Rattle.text.proofs.TextSays.{in-range}
use Rattle.laws.specs.Lists.{put}
use Rattle.importer.specs.Answers.{BadHead, Kept, Refused, Rows, Table, TextRead}
use Rattle.importer.specs.Steps.{HeadSays}
use Rattle.importer.specs.Kept.{rows_at, Collects}
use Rattle.importer.specs.Promise.{Tells, ReadsText}
use Rattle.importer.proofs.PlacesLaws.{length-rows}

-- ---- 8, or the table

module _ (room x w n : ℕ) (rows : List (List ℕ)) (e : length rows ≡ n) (few : n ≤ most_rows) where
  most-8 : most_cells < n * w → counted room x w rows ≡ refused 8 0 0
  unfolding counted
  most-8 h = rw (e, le-ltb most_rows n few, lt-ltb most_cells (n * w) h)

  room-8 : room < n * w → counted room x w rows ≡ refused 8 0 0
  unfolding counted
  room-8 h = rw (e, le-ltb most_rows n few, lt-ltb room (n * w) h, or_right (ltb most_cells (n * w)) {b = true} refl)

  good : n * w ≤ most_cells → n * w ≤ room → counted room x w rows ≡ table x rows
  unfolding counted
  good h k = rw (e, le-ltb most_rows n few, le-ltb most_cells (n * w) h, le-ltb room (n * w) k)

-- ---- the rows of a text

pub tells_is : {t u : Told} {lent after : List ℕ} {r : TextRead} → t ≡ u → Tells u lent r after → Tells t lent r after
tells_is {t} {u} {lent} {after} {r} e h = subst (λ v. Tells v lent r after) (sym e) h

-- A refusal leaves the cells.
pub tells-refused : (k l f : ℕ) (lent : List ℕ) → Tells (refused k l f) lent (Refused k l f) lent
tells-refused k l f lent = record { answer = refl; cells = refl }

module _ (w : ℕ) (s : List ℕ) (from x : ℕ) (lent : List ℕ) where
  -- What the rows tell.
  abbrev pub rows_told : Told
  rows_told = rows_from (length lent) x w 2 [] (lines_from (drop from s) AtStart 0 [])

  module _ (n : ℕ) (places : List ℕ) (e : Collects w s from (Kept n) places) (m : n ≤ length places) where
    rows_are : length (rows_at w s (take n places)) ≡ n
    rows_are = length-rows w s (take n places) ∙ length-take-le n places m

    pub rows-most : most_cells < n * w → Tells rows_told lent (Refused 8 0 0) lent
    rows-most h = tells_is (e.told (length lent) x ∙ most-8 (length lent) x w n _ rows_are e.sizes h) (tells-refused 8 0 0 lent)

    pub rows-room : length lent < n * w → Tells rows_told lent (Refused 8 0 0) lent
    rows-room h = tells_is (e.told (length lent) x ∙ room-8 (length lent) x w n _ rows_are e.sizes h) (tells-refused 8 0 0 lent)

    pub rows-table : (after : List ℕ) → n * w ≤ most_cells → n * w ≤ length lent → after ≡ put (flat (rows_at w s (take n places))) lent → Tells rows_told lent (Table x n) after
    rows-table after h k c =
        tells_is (e.told (length lent) x ∙ good (length lent) x w n _ rows_are e.sizes h k) (record { answer = ap (Table x) (sym rows_are); cells = c })

-- ---- the whole

below-range : (m room : ℕ) (s : List ℕ) → m < 1 → read_of m room s ≡ refused 4 0 0
unfolding read_of
below-range m room s h = rw (lt-ltb m 1 h)

above-range : (m room : ℕ) (s : List ℕ) → most_attributes < m → read_of m room s ≡ refused 4 0 0
unfolding read_of
above-range m room s h = rw (le-ltb m 1 (omega arith), lt-ltb most_attributes m h)

module _ (m : ℕ) (s lent : List ℕ) where
  pub read_low : m < 1 → ReadsText m s lent (Refused 4 0 0) lent
  read_low h = tells_is (below-range m (length lent) s h) (tells-refused 4 0 0 lent)

  pub read-high : most_attributes < m → ReadsText m s lent (Refused 4 0 0) lent
  read-high h = tells_is (above-range m (length lent) s h) (tells-refused 4 0 0 lent)

  pub read-refused : 1 ≤ m → m ≤ most_attributes → (k f : ℕ) → HeadSays m s (BadHead k f) → ReadsText m s lent (Refused k 1 f) lent
  read-refused a b k f e = tells_is (in-range m (length lent) s a b ∙ e.told (length lent)) (tells-refused k 1 f lent)

  pub read-rows : 1 ≤ m → m ≤ most_attributes → (x w n : ℕ) (r : TextRead) (after : List ℕ) → HeadSays m s (Rows x w n) → Tells (rows_told w s n x lent) lent r after → ReadsText m s lent r after
  read-rows a b x w n r after e t = tells_is (in-range m (length lent) s a b ∙ e.told (length lent)) t
