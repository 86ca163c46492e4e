-- Loading what was written: at each place stands what the writer put there, so every reading gives it back. Assumes nothing.
use Prim.Native.Nat.{ℕ, zero, suc, ◌+◌, ◌-◌, ◌*◌, ◌^◌, ◌<◌, ◌≤◌}
use native.Mathlib.Nat.{add-zero, zero-mul}
use native.Mathlib.Decide.{dec_lt}
use native.Mathlib.Omega.{arith}
use native.Mathlib.Numerals.{add-one}
use mathlib.Core.Path.{◌≡◌, refl, sym, ap, ◌∙◌}
use mathlib.Core.Bool.{Bool, true, false, ◌||◌}
use mathlib.Core.List.{List, [], ◌∷◌, ◌++◌, append_assoc, append-nil}
use lib.ListN.{length, get_or, set, take, drop, replicate, length-append, length-drop, length-take, take-append-drop, get_or-append}
use lib.Seq.{length-take-le, take-add, take_at, take-suc, set_at, drop_at, drop-drop}
use lib.Count.{ones}
use lib.Dec.{leb}
use lib.Pow.{pow_mono}
use borrow.Author.Tests.{leb-false}
use Rattle.laws.specs.Lists.{part}
use Rattle.laws.proofs.ListLaws.{length_part, part-append}
use Rattle.laws.proofs.TestLaws.{or-none}
use Rattle.numbers.specs.Numbers.{encode, decode}
use Rattle.numbers.specs.Readings.{Number}
use Rattle.numbers.proofs.EncodeLaws.{last-in, more-in, encode-last}
use Rattle.numbers.proofs.RoundTrip.{decode-encode}
use Rattle.tables.specs.declared.Catalogue.{Catalogue}
use Rattle.tables.specs.Catalogues.{scheme_of, count_of, first_cell, given}
use Rattle.tables.specs.Sizes.{most_attributes, most_tables, version_one, version_two}
use Rattle.tables.specs.Rows.{below}
use Rattle.tables.specs.Versions.{version_of, most_rows_in, needless, blank}
use Rattle.tables.proofs.VersionLaws.{version-few, version-some, version-allows, version-needed, needless-same}
use Rattle.tables.proofs.CatalogueLaws.{cells-next, table-ends}
use Rattle.tables.proofs.CheckLaws.{inside, scheme-good, count-good, Clear, InRange}
use Rattle.loader.specs.Faults.{To, Value, Table}
use Rattle.loader.proofs.ReadingLaws.{row-cells}
use Rattle.loader.proofs.LoadLaws.{end-good}
use Rattle.loader.specs.Reading.{run_end, codes, rows_from}
use Rattle.loader.specs.Load.{first_table, field_at, count_at, table_at, tables_from, scan_of, tables_codes}
use Rattle.writer.specs.Write.{encodes, cells_of, tables_image, image_of, too_high, rows_fault, Accepted}
use Rattle.writer.proofs.WriteLaws.{row-clear, rows-low}
use Rattle.image.specs.RoundTrip.{front, trimmed, found}

-- ---- lists

-- Where w elements and a rest stand in a list from a place on: they are its part there, and the rest lies behind them.
pub part-stands : (l : List ℕ) (at w : ℕ) (xs r : List ℕ) → length xs ≡ w → drop at l ≡ xs ++ r → (part at w l ≡ xs) × (drop (at + w) l ≡ r)
part-stands l at w xs r n e = (rw e (take_at xs r w n), sym (drop-drop w at l) ∙ rw e (drop_at xs r w n))

-- One entry more in front.
front-more : (t : ℕ) (l : List ℕ) → t < most_tables → length l ≡ most_tables → set (front t l) t (get_or l t 0) ≡ front (t + 1) l
unfolding front
front-more t l h e =
    let p : most_tables - t ≡ suc (most_tables - (t + 1)) = omega arith in
    let zeros : List ℕ = replicate (most_tables - (t + 1)) 0 in
    let next : take (t + 1) l ≡ take t l ++ (get_or l t 0 ∷ []) = rw add-one (take-suc l t 0 (omega arith)) in
    rw (p, next) (set_at (take t l) 0 zeros (get_or l t 0) t (length-take-le t l (omega arith)) ∙ sym (append_assoc (take t l) (get_or l t 0 ∷ []) zeros))

-- The entries in front are the same.
pub front_at : (n : ℕ) (l : List ℕ) (t : ℕ) → t < n → n ≤ length l → get_or (front n l) t 0 ≡ get_or l t 0
unfolding front
front_at n l t h k =
    let b : t < length (take n l) = rw (length-take n l) (omega arith) in
    get_or-append (take n l) (replicate (most_tables - n) 0) 0 t b
    ∙ sym (get_or-append (take n l) (drop n l) 0 t b) ∙ ap (λ (x : List ℕ). get_or x t 0) (take-append-drop n l)

-- What is kept of a catalogue, before places and masks are worked out.
abbrev pub kept : Catalogue → Catalogue
kept cat = given cat.m cat.n (front cat.n cat.schemes) (front cat.n cat.rows)

pub count_kept : (cat : Catalogue) → cat.n ≤ most_tables → length cat.rows ≡ most_tables → (t : ℕ) → t < cat.n → count_of (kept cat) t ≡ count_of cat t
count_kept cat few long t h = front_at cat.n cat.rows t h (omega arith)

-- ---- what the writer's tests say

low-split : (x : ℕ) (xs : List ℕ) → too_high (x ∷ xs) ≡ false → (x < 2 ^ 63) × (too_high xs ≡ false)
unfolding too_high
low-split x xs e =
    let c = or-none (leb (2 ^ 63) x) (too_high xs) e in
    (leb-false (2 ^ 63) x c.0, c.1)

-- ---- what the writer's bytes are

encodes-append : (xs ys : List ℕ) → encodes (xs ++ ys) ≡ encodes xs ++ encodes ys
unfolding encodes
encodes-append [] ys = refl
encodes-append (x ∷ xs) ys = rw (encodes-append xs ys) (sym (append_assoc (encode x) (encodes xs) (encodes ys)))

encode-some : (x : ℕ) → 0 < length (encode x)
unfolding encode
encode-some x =
    elim (dec_lt x 128) [
      | yes l ↦ rw (last-in 8 x l) (omega arith)
      | no l ↦ rw (more-in 8 x (omega arith)) (omega arith)
    ]

-- A number of the head takes one byte.
pub one_byte : (x : ℕ) → x < 128 → length (encode x) ≡ 1
one_byte x h = ap length (encode-last x h)

pub image-parts : (cat : Catalogue) (cells : List ℕ)
    → image_of cat cells ≡ encode (version_of cat) ++ (encode cat.m ++ (encode cat.n ++ tables_image cat.n cat cells 0))
unfolding image_of
image-parts cat cells = simp append_assoc

module _ (s : List ℕ) where
  -- ---- numbers

  -- What lies behind the bytes at place i.
  behind : (i : ℕ) (bs r : List ℕ) → drop i s ≡ bs ++ r → drop (i + length bs) s ≡ r
  behind i bs r e = (part-stands s i (length bs) bs r refl e).1

  number-reads : (i x : ℕ) (r : List ℕ) → x < 2 ^ 63 → drop i s ≡ encode x ++ r → decode s i ≡ Number x (i + length (encode x))
  number-reads i x r h e =
      let n : length (drop i s) ≡ length (encode x) + length r = ap length e ∙ length-append (encode x) r in
      let p : length (take i s) ≡ i = length-take-le i s (omega (arith, length-drop i s, encode-some x)) in
      let q : take i s ++ (encode x ++ r) ≡ s = rw (← e) (take-append-drop i s) in
      rw (q, p) at (decode-encode x (take i s) r h)

  -- Two numbers, and what lies behind them.
  two-read : (i x y : ℕ) (r : List ℕ) → x < 2 ^ 63 → y < 2 ^ 63 → drop i s ≡ encode x ++ (encode y ++ r)
      → (decode s i ≡ Number x (i + length (encode x))) × (decode s (i + length (encode x)) ≡ Number y (i + length (encode x) + length (encode y)))
      × (drop (i + length (encode x) + length (encode y)) s ≡ r)
  two-read i x y r h l e =
      let n = i + length (encode x) in
      let at_y = behind i (encode x) (encode y ++ r) e in
      (number-reads i x (encode y ++ r) h e, number-reads n y r l at_y, behind n (encode y) r at_y)

  -- A run of numbers is read to its end, and gives the numbers.
  run-reads : (xs r : List ℕ) (i : ℕ) → too_high xs ≡ false → drop i s ≡ encodes xs ++ r
      → (run_end (length xs) s i ≡ To (i + length (encodes xs))) × (codes (length xs) s i ≡ xs)
  unfolding run_end codes encodes
  run-reads [] r i h e = (rw add-zero, refl)
  run-reads (x ∷ xs) r i h e =
      let l = low-split x xs h in
      let here : drop i s ≡ encode x ++ (encodes xs ++ r) = e ∙ append_assoc (encode x) (encodes xs) r in
      let d = number-reads i x (encodes xs ++ r) l.0 here in
      let t = run-reads xs r (i + length (encode x)) l.1 (behind i (encode x) (encodes xs ++ r) here) in
      let n : i + length (encode x) + length (encodes xs) ≡ i + length (encode x ++ encodes xs) = simp length-append (omega arith) in
      (rw d (t.0 ∙ ap To n), rw d (ap (λ (l : List ℕ). x ∷ l) t.1))

  -- So is a part of the cells.
  part-reads : (at w : ℕ) (cells r : List ℕ) (i : ℕ) → at + w ≤ length cells → too_high (part at w cells) ≡ false → drop i s ≡ encodes (part at w cells) ++ r
      → (run_end w s i ≡ To (i + length (encodes (part at w cells)))) × (codes w s i ≡ part at w cells)
  part-reads at w cells r i h low e =
      let read = run-reads (part at w cells) r i low e in
      let wide = length_part at w cells h in
      (rw wide at read.0, rw wide at read.1)

  -- ---- rows

  -- Rows that the writer does not refuse are read to their end. `same`: the row before them reads as it was written, unless they are the first.
  rows-read : (v k w : ℕ) (cells : List ℕ) (first : Bool) (before at p i : ℕ) (r : List ℕ) → at + k * w ≤ length cells → rows_fault k w cells v first before at ≡ 0
      → ((ys : List ℕ) → (first || below (codes w s p) ys) ≡ (first || below (part before w cells) ys)) → drop i s ≡ encodes (part at (k * w) cells) ++ r
      → rows_from k w s v first p i ≡ To (i + length (encodes (part at (k * w) cells)))
  unfolding rows_from encodes
  rows-read v zero w cells first before at p i r h f same e = rw (zero-mul w) (rw add-zero)
  rows-read v (suc k) w cells first before at p i r h f same e =
      let row = part at w cells in
      let rest = part (at + w) (k * w) cells in
      let g = row-clear cells w v k first before at f in
      let m = row-cells k w in
      let all : encodes (part at (suc k * w) cells) ≡ encodes row ++ encodes rest = rw m (ap encodes (part-append at w (k * w) cells) ∙ encodes-append row rest) in
      let here : drop i s ≡ encodes row ++ (encodes rest ++ r) = e ∙ rw all (append_assoc (encodes row) (encodes rest) r) in
      let read = part-reads at w cells (encodes rest ++ r) i (omega arith) g.0 here in
      let rises : (first || below (codes w s p) (codes w s i)) ≡ true = rw read.1 (same row ∙ g.2) in
      let filed : blank v (codes w s i) ≡ false = rw read.1 g.1 in
      let later = rows-read v k w cells false at (at + w) i (i + length (encodes row)) r (omega arith) g.3 (λ ys. rw read.1) (behind i (encodes row) (encodes rest ++ r) here) in
      let n : i + length (encodes row) + length (encodes rest) ≡ i + length (encodes row ++ encodes rest) = simp length-append (omega arith) in
      rw (read.0, filed, rises, all) (later ∙ ap To n)

  -- ---- a table

  -- The entry of a table whose parts are read without fault.
  table-entry : (v room m used i x n c q e : ℕ) → decode s i ≡ Number x n → decode s n ≡ Number c q → Clear m room used x c → c ≤ most_rows_in v
      → rows_from c (ones x) s v true 0 q ≡ To e
      → table_at s v room m used i ≡ Table x c (used + c * ones x) e
  unfolding table_at count_at
  table-entry v room m used i x n c q e a b h few d =
      let scheme = scheme-good m x (λ z. omega (arith, h.some)) h.low in
      let count = count-good (most_rows_in v) room used x c few h.most h.room in
      rw (a, scheme, b, count, d)

  -- The codes of such a table, and those behind it.
  pub table-codes : (k i x n c q e : ℕ) → decode s i ≡ Number x n → decode s n ≡ Number c q → run_end (c * ones x) s q ≡ To e
      → tables_codes (suc k) s i ≡ codes (c * ones x) s q ++ tables_codes k s e
  unfolding tables_codes
  table-codes k i x n c q e a b d = rw (a, b, d)

  -- ---- the head

  field-reads : (i x low high f : ℕ) (r : List ℕ) → low ≤ x → x ≤ high → x < 128 → drop i s ≡ encode x ++ r → field_at s i low high f ≡ Value x (i + 1)
  unfolding field_at
  field-reads i x low high f r l h b e = rw (number-reads i x r (omega arith) e, inside low high x l h, one_byte x b)

  field-behind : (i x : ℕ) (r : List ℕ) → x < 128 → drop i s ≡ encode x ++ r → drop (i + 1) s ≡ r
  field-behind i x r b e = rw (one_byte x b) at (behind i (encode x) r e)

  -- Behind a head that was written the tables are read.
  head-reads : (v room m n : ℕ) (r : List ℕ) → version_one ≤ v → v ≤ version_two → InRange m n → s ≡ encode v ++ (encode m ++ (encode n ++ r))
      → (scan_of s room ≡ tables_from n s v room m n 0 0 (replicate most_tables 0) (replicate most_tables 0) first_table) × (drop first_table s ≡ r)
  unfolding scan_of
  head-reads v room m n r low high R e =
      let at-m : drop 1 s ≡ encode m ++ (encode n ++ r) = field-behind 0 v (encode m ++ (encode n ++ r)) (omega arith) e in
      let at_n : drop 2 s ≡ encode n ++ r = field-behind 1 m (encode n ++ r) (omega (arith, R.m-high)) at-m in
      let f = field-reads 0 v version_one version_two 3 (encode m ++ (encode n ++ r)) low high (omega arith) e in
      let a = field-reads 1 m 1 most_attributes 4 (encode n ++ r) R.m-low R.m-high (omega (arith, R.m-high)) at-m in
      let b = field-reads 2 n 1 most_tables 4 r R.n-low R.n-high (omega (arith, R.n-high)) at_n in
      (rw (f, a, b), field-behind 2 n r (omega (arith, R.n-high)) at_n)

-- What is read of a table that was written: its entry, what lies behind it, and its codes before those behind it.
record TableThere (s : List ℕ) (v room m used i x c : ℕ) (cs r : List ℕ) : Type 0 where
  end : ℕ
  entry : table_at s v room m used i ≡ Table x c (used + c * ones x) end
  rest : drop end s ≡ r
  cells : (k : ℕ) → tables_codes (suc k) s i ≡ cs ++ tables_codes k s end

-- Tables that the writer accepts, and room for them.
module _ (cat : Catalogue) (cells : List ℕ) (A : Accepted cat cells) (room : ℕ) (fits : first_cell cat cat.n ≤ room) where
  table-clear : (t : ℕ) → t < cat.n → Clear cat.m room (first_cell cat t) (scheme_of cat t) (count_of cat t)
  table-clear t h =
      let L = A.lawful in
      let ends = table-ends cat t h in
      record { some = L.some-scheme t h; low = L.scheme t h; few = L.rows t h; most = omega (arith, L.cells); room = omega arith }

  -- Their version is needed for what is kept of them too.
  needed-kept : length cat.schemes ≡ most_tables → length cat.rows ≡ most_tables → needless (version_of cat) (kept cat) ≡ false
  needed-kept ls lr = needless-same cat (kept cat) refl (count_kept cat A.lawful.tables lr) (version_of cat) ∙ version-needed cat

  module _ (s : List ℕ) where
    -- The cells of a table read as they were written, by rows and one after the other.
    cells-read : (t q : ℕ) (r : List ℕ) → t < cat.n → drop q s ≡ encodes (cells_of cat cells t) ++ r
        → (rows_from (count_of cat t) (ones (scheme_of cat t)) s (version_of cat) true 0 q ≡ To (q + length (encodes (cells_of cat cells t))))
        × (run_end (count_of cat t * ones (scheme_of cat t)) s q ≡ To (q + length (encodes (cells_of cat cells t))))
        × (codes (count_of cat t * ones (scheme_of cat t)) s q ≡ cells_of cat cells t)
    cells-read t q r h e =
        let c = count_of cat t in
        let w = ones (scheme_of cat t) in
        let held : first_cell cat t + c * w ≤ length cells = omega (arith, table-ends cat t h, A.lawful.room) in
        let run = part-reads s (first_cell cat t) (c * w) cells r q held (rows-low cells w (version_of cat) c true 0 (first_cell cat t) (A.rows t h)) e in
        (rows-read s (version_of cat) c w cells true 0 (first_cell cat t) 0 q r held (A.rows t h) (λ ys. refl) e, run.0, run.1)

    table-reads : (t i : ℕ) (r : List ℕ) → t < cat.n → drop i s ≡ encode (scheme_of cat t) ++ (encode (count_of cat t) ++ (encodes (cells_of cat cells t) ++ r))
        → TableThere s (version_of cat) room cat.m (first_cell cat t) i (scheme_of cat t) (count_of cat t) (cells_of cat cells t) r
    table-reads t i r h e =
        let x = scheme_of cat t in
        let c = count_of cat t in
        let cs = cells_of cat cells t in
        let n = i + length (encode x) in
        let q = n + length (encode c) in
        let end = q + length (encodes cs) in
        let clear = table-clear t h in
        let d = two-read s i x c (encodes cs ++ r) (omega (arith, clear.low, pow_mono A.lawful.attributes)) (omega (arith, clear.few)) e in
        let read = cells-read t q r h d.2 in
        record {
          end = end;
          entry = table-entry s (version_of cat) room cat.m (first_cell cat t) i x n c q end d.0 d.1 clear
              (version-allows cat A.lawful.rows t h) read.0;
          rest = behind s q (encodes cs) r d.2;
          cells = λ k. table-codes s k i x n c q end d.0 d.1 read.1 ∙ ap (λ (l : List ℕ). l ++ tables_codes k s end) read.2;
        }

    -- ---- the tables

    tables-read : (k t i : ℕ) → length cat.schemes ≡ most_tables → length cat.rows ≡ most_tables → t + k ≡ cat.n → drop i s ≡ tables_image k cat cells t
        → tables_from k s (version_of cat) room cat.m cat.n t (first_cell cat t) (front t cat.schemes) (front t cat.rows) i ≡ found (trimmed cat)
    unfolding tables_from tables_image
    tables-read zero t i ls lr n e =
        let q : t ≡ cat.n = omega arith in
        let over : length s ≤ i = omega (arith, length-drop i s, ap length e) in
        rw q (end-good s (version_of cat) (kept cat) i over (needed-kept ls lr))
    tables-read (suc k) t i ls lr n e =
        let d = table-reads t i (tables_image k cat cells (t + 1)) (omega arith) e in
        let few : t < most_tables = omega (arith, A.lawful.tables) in
        rw (d.entry, front-more t cat.schemes few ls, front-more t cat.rows few lr, ← cells-next cat t)
        (tables-read k (t + 1) d.end ls lr (omega arith) d.rest)

    codes-read : (k t i : ℕ) → t + k ≡ cat.n → drop i s ≡ tables_image k cat cells t
        → take (first_cell cat t) cells ++ tables_codes k s i ≡ take (first_cell cat cat.n) cells
    unfolding tables_codes tables_image
    codes-read zero t i n e =
        let q : t ≡ cat.n = omega arith in
        rw (append-nil, q)
    codes-read (suc k) t i n e =
        let d = table-reads t i (tables_image k cat cells (t + 1)) (omega arith) e in
        let on : take (first_cell cat t) cells ++ cells_of cat cells t ≡ take (first_cell cat (t + 1)) cells =
        sym (take-add (first_cell cat t) (count_of cat t * ones (scheme_of cat t)) cells) ∙ rw (cells-next cat t) in
        rw (d.cells k, ← append_assoc, on) (codes-read k (t + 1) d.end (omega arith) d.rest)

  -- ---- the whole image

  image-reads : (scan_of (image_of cat cells) room ≡ tables_from cat.n (image_of cat cells) (version_of cat) room cat.m cat.n 0 0 (replicate most_tables 0) (replicate most_tables 0) first_table)
      × (drop first_table (image_of cat cells) ≡ tables_image cat.n cat cells 0)
  image-reads =
      let L = A.lawful in
      head-reads (image_of cat cells) (version_of cat) room cat.m cat.n (tables_image cat.n cat cells 0) (version-some cat) (version-few cat)
      (record { m-low = L.some-attribute; m-high = L.attributes; n-low = L.some-table; n-high = L.tables }) (image-parts cat cells)

  -- The scan of an image that was written finds its tables,
  pub scan-there : length cat.schemes ≡ most_tables → length cat.rows ≡ most_tables → scan_of (image_of cat cells) room ≡ found (trimmed cat)
  unfolding front first_cell
  scan-there ls lr = image-reads.0 ∙ tables-read (image_of cat cells) cat.n 0 first_table ls lr (omega arith) image-reads.1

  -- and its codes are their cells.
  pub codes-there : tables_codes cat.n (image_of cat cells) first_table ≡ take (first_cell cat cat.n) cells
  unfolding first_cell
  codes-there = codes-read (image_of cat cells) cat.n 0 first_table (omega arith) image-reads.1
