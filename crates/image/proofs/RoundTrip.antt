-- The two round trips of the image format: loading what was written gives the same tables, and writing what was loaded gives the same bytes.
-- Each is carried by its own file of laws, ThereLaws and BackLaws. Assumes nothing.
use Prim.Native.Nat.{ℕ, zero, suc, ◌<◌, ◌≤◌}
use native.Mathlib.Omega.{arith}
use mathlib.Core.Path.{◌≡◌, refl, sym, ap, ◌∙◌}
use mathlib.Core.List.{List, ◌++◌}
use lib.ListN.{length, get_or, take, drop}
use lib.Seq.{take_at}
use borrow.Author.Tests.{le-ltb}
use Rattle.laws.specs.Lists.{put}
use Rattle.laws.proofs.ListLaws.{length-put}
use Rattle.numbers.specs.Numbers.{encode}
use Rattle.tables.specs.declared.Catalogue.{Catalogue}
use Rattle.tables.specs.Sizes.{most_tables}
use Rattle.tables.specs.Catalogues.{scheme_of, first_cell, touch, touching_below, touching_of, place_in, mask_in}
use Rattle.tables.specs.Versions.{version_of}
use Rattle.tables.specs.Checks.{first_met, catalogue_fault, Lawful}
use Rattle.tables.proofs.CheckLaws.{first-none, first-clear, lawful-fault}
use Rattle.tables.proofs.StoredLaws.{for-at}
use Rattle.writer.specs.Written.{Written, Length}
use Rattle.loader.specs.Faults.{Verdict, Good, Loaded}
use Rattle.loader.specs.Load.{first_table, scan_of, tables_codes, cells_after, Loads}
use Rattle.writer.specs.Write.{tables_image, image_of, cells_fault, write_fault, Accepted, length_fault, written_of, written, Writes}
use Rattle.image.specs.RoundTrip.{trimmed, found, loaded_cells}
use Rattle.writer.proofs.AcceptLaws.{fault-accepted, accepted-fault}
use Rattle.image.proofs.ThereLaws.{front_at, kept, count_kept, image-parts, scan-there, codes-there}
use Rattle.image.proofs.BackLaws.{ScanBack, scan-back, tables-fit, tables-back}

-- ---- loading what was written

-- Tables that the writer accepts, room aside. The lists of a catalogue have eight entries each.
module _ (cat : Catalogue) (cells : List ℕ) (schemes : length cat.schemes ≡ most_tables) (rows : length cat.rows ≡ most_tables) (clear : write_fault cat cells ≡ 0) where
  -- Their image is good, and a scan of it finds them; its codes are their cells.
  pub load-written : (room : ℕ) → first_cell cat cat.n ≤ room
      → (scan_of (image_of cat cells) room ≡ found (trimmed cat)) × (tables_codes cat.n (image_of cat cells) first_table ≡ take (first_cell cat cat.n) cells)
  load-written room fits =
      let A = fault-accepted cat cells clear in
      (scan-there cat cells A room fits schemes rows, codes-there cat cells A room fits)

  -- A load of their image into cells that they fit in gives them back.
  pub loads-written : (lent : List ℕ) (r : Loaded) (after : List ℕ) → first_cell cat cat.n ≤ length lent → Loads (image_of cat cells) lent r after
      → (r ≡ found (trimmed cat)) × (after ≡ put (take (first_cell cat cat.n) cells) lent)
  loads-written lent r after fits l =
      let w = load-written (length lent) fits in
      let e : r ≡ found (trimmed cat) = l.answer ∙ w.0 in
      (e, l.cells ∙ rw (e, w.1))

-- ---- writing what was loaded

-- An answer that is good finds its own catalogue.
pub found-good : (r : Loaded) → r.verdict ≡ Good → r ≡ found r.catalogue
found-good r good = ap (λ (v : Verdict). record { verdict = v; catalogue = r.catalogue }) good

-- A list of bytes in which a scan with room for the lent cells finds tables.
module _ (s lent : List ℕ) (cat : Catalogue) (by : (k : ℕ) → get_or s k 0 < 256) (good : scan_of s (length lent) ≡ found cat) where
  read : ScanBack s (length lent) cat
  read = scan-back s by (length lent) cat good

  -- As many cells are there as were lent.
  pub load-length : length (loaded_cells cat s lent) ≡ length lent
  unfolding first_cell
  load-length =
      let f = tables-fit s by read.v (length lent) cat cat.n 0 first_table cat.n (omega arith) (omega arith) read.tables in
      length-put (tables_codes cat.n s first_table) lent (omega (arith, f.0, f.1))

  tables-again : (drop first_table s ≡ tables_image cat.n cat (loaded_cells cat s lent) 0) × (cells_fault cat.n cat (loaded_cells cat s lent) 0 ≡ 0)
  unfolding first_cell
  tables-again =
      let codes = tables_codes cat.n s first_table in
      tables-back s by read.v (length lent) cat read.carried (loaded_cells cat s lent) (drop (length codes) lent) cat.n 0 first_table read.tables refl

  -- The tables are lawful and without fault.
  pub load-lawful : Lawful cat (length lent)
  load-lawful = read.lawful

  pub load-clear : catalogue_fault cat (length lent) ≡ 0
  load-clear = lawful-fault cat (length lent) load-lawful

  -- The writer refuses them for no reason but room, and makes the same bytes of them.
  pub write-loaded : (write_fault cat (loaded_cells cat s lent) ≡ 0) × (image_of cat (loaded_cells cat s lent) ≡ s)
  unfolding write_fault
  write-loaded = (
    first-none (catalogue_fault cat (length (loaded_cells cat s lent))) (cells_fault cat.n cat (loaded_cells cat s lent) 0) (rw load-length load-clear)
        ∙ tables-again.1,
    image-parts cat (loaded_cells cat s lent)
        ∙ ap (λ (l : List ℕ). encode (version_of cat) ++ (encode cat.m ++ (encode cat.n ++ l))) (sym tables-again.0) ∙ sym read.bytes,
  )

  -- So they are accepted.
  pub load-accepted : Accepted cat (loaded_cells cat s lent)
  load-accepted = fault-accepted cat (loaded_cells cat s lent) write-loaded.0

  -- "eight schemes and eight row counts. Entries from n on .. are 0 after a load."
  pub load-trimmed : (length cat.schemes ≡ most_tables) × (length cat.rows ≡ most_tables) × (trimmed cat ≡ cat)
  load-trimmed = (read.schemes, read.rows, read.trim)

-- ---- both, over what load and write promise

written-of : (f len n : ℕ) → written_of f len ≡ Length n → (f ≡ 0) × (n ≡ len)
written-of zero len n e = (refl, (cc))
written-of (suc f) len n e = absurd (let z : ◌≡◌ {A = ℕ} 0 1 = cc in omega arith)

-- A write that gives a length refuses nothing, and it is the image's.
written-was : (cat : Catalogue) (cells : List ℕ) (room n : ℕ) → written cat cells room ≡ Length n → (write_fault cat cells ≡ 0) × (n ≡ length (image_of cat cells))
unfolding written
written-was cat cells room n e =
    let w = written-of (first_met (write_fault cat cells) (length_fault cat cells room)) (length (image_of cat cells)) n e in
    ((first-clear (write_fault cat cells) (length_fault cat cells room) w.0).0, w.1)

written-clear : (cat : Catalogue) (cells : List ℕ) (room : ℕ) → write_fault cat cells ≡ 0 → length (image_of cat cells) ≤ room
    → written cat cells room ≡ Length (length (image_of cat cells))
unfolding written length_fault
written-clear cat cells room e h = rw (e, le-ltb room (length (image_of cat cells)) h)

-- A load of the bytes that a write made, into cells that the tables fit in, gives the tables back.
pub written-loads : (cat : Catalogue) (cells out wrote lent after : List ℕ) (n : ℕ) (r : Loaded) → length cat.schemes ≡ most_tables → length cat.rows ≡ most_tables
    → first_cell cat cat.n ≤ length lent → Writes cat cells out (Length n) wrote → Loads (take n wrote) lent r after
    → (r ≡ found (trimmed cat)) × (after ≡ put (take (first_cell cat cat.n) cells) lent)
written-loads cat cells out wrote lent after n r schemes rows fits w l =
    let c = written-was cat cells (length out) n (sym w.answer) in
    let image : take n wrote ≡ image_of cat cells = rw w.bytes (take_at (image_of cat cells) (drop (length (image_of cat cells)) out) n (sym c.1)) in
    loads-written cat cells schemes rows c.0 lent r after fits (rw image at l)

-- A load of bytes that finds them good.
module _ (s lent after : List ℕ) (r : Loaded) (by : (k : ℕ) → get_or s k 0 < 256) (good : r.verdict ≡ Good) (l : Loads s lent r after) where
  loads-found : scan_of s (length lent) ≡ found r.catalogue
  loads-found = sym l.answer ∙ found-good r good

  loads-cells : after ≡ loaded_cells r.catalogue s lent
  loads-cells = l.cells ∙ ap (λ (v : Verdict). cells_after v (tables_codes r.catalogue.n s first_table) lent) good

  -- What it gave is accepted and without fault,
  pub loads-accepted : Accepted r.catalogue after
  loads-accepted = rw loads-cells (load-accepted s lent r.catalogue by loads-found)

  pub loads-clear : catalogue_fault r.catalogue (length after) ≡ 0
  loads-clear = lawful-fault r.catalogue (length after) loads-accepted.lawful

  -- and a write of it, into bytes that the image fits in, gives the image back.
  pub loaded-writes : (out wrote : List ℕ) (w : Written) → length s ≤ length out → Writes r.catalogue after out w wrote → (w ≡ Length (length s)) × (wrote ≡ put s out)
  loaded-writes out wrote w fits h =
      let image : image_of r.catalogue after ≡ s = rw loads-cells (write-loaded s lent r.catalogue by loads-found).1 in
      let clear = accepted-fault r.catalogue after loads-accepted in
      let answer : w ≡ Length (length s) = h.answer ∙ written-clear r.catalogue after (length out) clear (rw image fits) ∙ rw image in
      (answer, h.bytes ∙ rw (answer, image))

-- ---- trimmed

-- Below n, places and masks are those that a lawful catalogue stores there.
module _ (cat : Catalogue) (lent : ℕ) (L : Lawful cat lent) (xs : length cat.schemes ≡ most_tables) (cs : length cat.rows ≡ most_tables) where
  scheme-kept : (t : ℕ) → t < cat.n → scheme_of (kept cat) t ≡ scheme_of cat t
  scheme-kept t h = front_at cat.n cat.schemes t h (omega (arith, L.tables))

  first-kept : (t : ℕ) → t ≤ cat.n → first_cell (kept cat) t ≡ first_cell cat t
  unfolding first_cell
  first-kept zero h = refl
  first-kept (suc t) h = rw (first-kept t (omega arith), scheme-kept t (omega arith), count_kept cat L.tables cs t (omega arith)) refl

  touching-kept : (t k : ℕ) → t < cat.n → k ≤ cat.n → touching_below (kept cat) t k ≡ touching_below cat t k
  unfolding touching_below touch
  touching-kept t zero h l = refl
  touching-kept t (suc k) h l = rw (touching-kept t k h (omega arith), scheme-kept t h, scheme-kept k (omega arith)) refl

  pub trimmed-stored : (t : ℕ) → t < cat.n → (place_in (trimmed cat) t ≡ place_in cat t) × (mask_in (trimmed cat) t ≡ mask_in cat t)
  trimmed-stored t h = (
    for-at cat.n (first_cell (kept cat)) t h L.tables ∙ first-kept t (omega arith) ∙ sym (L.places t h),
    for-at cat.n (touching_of (kept cat)) t h L.tables ∙ touching-kept t cat.n h (omega arith) ∙ sym (L.touching t h),
  )
