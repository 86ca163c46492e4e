-- The writer's definitions, one law for each way that the code goes; what tables that meet no refusal have; and an image is short. Assumes nothing.
use Prim.Native.Nat.{ℕ, zero, suc, ◌+◌, ◌-◌, ◌*◌, ◌/◌, ◌^◌, ◌≤◌, ◌<◌, min}
use native.Mathlib.Nat.{suc-mul, pow-le-pow_right, add-div_left, div-eq_of_lt, mul-div_cancel}
use native.Mathlib.Decide.{ℕ_discrete, dec_lt}
use native.Mathlib.Omega.{arith}
use native.Mathlib.Numerals.{add-one}
use mathlib.Core.Path.{◌≡◌, refl, sym, ap, ◌∙◌}
use mathlib.Core.Bool.{Bool, true, false, cond, ◌&&◌, ◌||◌}
use mathlib.Core.List.{List, [], ◌∷◌, ◌++◌, append_assoc, append-nil}
use lib.ListN.{length, take, drop, get_or, length-append, length-take, length-drop, drop_of_length-le}
use lib.Seq.{drop-cons, drop-drop, take_at, drop_at}
use lib.Count.{ones}
use lib.Dec.{ltb, leb, eqb}
use borrow.Author.Tests.{lt-ltb, le-ltb, le-leb, lt-leb, eq-eqb, ne_eqb}
use Rattle.std.specs.Ordering.{nat_cmp, is_lt}
use Rattle.std.specs.Cmp.Lexicographic.{slice_cmp}
use Rattle.std.specs.List.{list_any, list_all, sum_by, All}
use Rattle.std.proofs.lemmas.List.{drop-take, take-take}
use Rattle.std.proofs.lemmas.List.Recursion.{same_from_clauses, is_sum_by}
use Rattle.laws.specs.Lists.{part}
use Rattle.laws.proofs.ListLaws.{part_none, part-append, length_part}
use Rattle.laws.proofs.TestLaws.{clash, or-none}
use Rattle.numbers.specs.Numbers.{most_bytes, encode_in, encode}
use Rattle.tables.specs.declared.Catalogue.{Catalogue}
use Rattle.tables.specs.Sizes.{most_attributes, most_tables, most_cells}
use Rattle.tables.specs.Catalogues.{scheme_of, count_of, first_cell}
use Rattle.tables.specs.Rows.{below, all_null}
use Rattle.tables.specs.Versions.{version_of, blank}
use Rattle.tables.proofs.RowLaws.{lt-below, lt-empty}
use Rattle.tables.proofs.VersionLaws.{version-few}
use Rattle.tables.proofs.CatalogueLaws.{cells-next, table-ends}
use Rattle.writer.specs.Written.{Length, Refused}
use Rattle.writer.specs.Write.{encodes, cells_of, tables_image, head_bytes, image_of, too_high, rows_fault, write_fault, length_fault, written}
use Rattle.writer.proofs.AcceptLaws.{fault-accepted}

-- ---- 10

high-append : (xs ys : List ℕ) → too_high xs ≡ false → too_high ys ≡ false → too_high (xs ++ ys) ≡ false
unfolding too_high
high-append [] ys p q = q
high-append (x ∷ xs) ys p q =
    elim (dec_lt x (2 ^ 63)) [
      | yes h ↦ rw (lt-leb (2 ^ 63) x h) (high-append xs ys (rw (lt-leb (2 ^ 63) x h) at p) q)
      | no h ↦ absurd (clash (rw (le-leb (2 ^ 63) x (omega arith))) p)
    ]

-- A row's tests, as the library's searches answer them.
pub high-any : (xs : List ℕ) → list_any (λ x. leb (2 ^ 63) x) xs ≡ too_high xs
unfolding too_high
high-any = same_from_clauses (list_any (λ x. leb (2 ^ 63) x)) too_high (λ x b. leb (2 ^ 63) x || b) refl (λ _ _. refl) (λ _ _. refl)

pub null-all : (xs : List ℕ) → list_all (λ x. eqb x 0) xs ≡ all_null xs
unfolding all_null
null-all = same_from_clauses (list_all (λ x. eqb x 0)) all_null (λ x b. eqb x 0 && b) refl (λ _ _. refl) (λ _ _. refl)

high-none : (cells : List ℕ) (a k : ℕ) → k ≤ 0 → too_high (part a k cells) ≡ false
unfolding too_high
high-none cells a k z = rw (part_none a k cells z)

-- Where no code is too high, each is low enough.
pub low-at : (xs : List ℕ) → too_high xs ≡ false → All (λ x. x < 2 ^ 63) xs
unfolding too_high
low-at [] e k d h = absurd (omega arith)
low-at (x ∷ xs) e zero d h =
    elim (dec_lt x (2 ^ 63)) [
      | yes l ↦ l
      | no l ↦ absurd (clash (le-leb (2 ^ 63) x (omega arith)) (or-none (leb (2 ^ 63) x) (too_high xs) e).0)
    ]
low-at (x ∷ xs) e (suc k) d h = low-at xs (or-none (leb (2 ^ 63) x) (too_high xs) e).1 k d (omega arith)

-- ---- 10, 21 and 7, row by row

-- Where none of the three is met.
all-clear : (high empty rises : Bool) (rest : ℕ) → cond high 10 (cond empty 21 (cond rises rest 7)) ≡ 0
    → (high ≡ false) × (empty ≡ false) × (rises ≡ true) × (rest ≡ 0)
all-clear true empty rises rest e = absurd (omega arith)
all-clear false true rises rest e = absurd (omega arith)
all-clear false false true rest e = (refl, refl, refl, e)
all-clear false false false rest e = absurd (omega arith)

module _ (cells : List ℕ) (w v : ℕ) where
  -- Where the writer refuses no row, the next row is low enough, not blank, and rises, and the rows behind it are not refused.
  pub row-clear : (k : ℕ) (first : Bool) (before at : ℕ) → rows_fault (suc k) w cells v first before at ≡ 0
      → (too_high (part at w cells) ≡ false) × (blank v (part at w cells) ≡ false) × ((first || below (part before w cells) (part at w cells)) ≡ true)
      × (rows_fault k w cells v false at (at + w) ≡ 0)
  unfolding rows_fault
  row-clear k first before at e =
      all-clear (too_high (part at w cells)) (blank v (part at w cells))
      (first || below (part before w cells) (part at w cells)) (rows_fault k w cells v false at (at + w)) e

  -- Rows without fault have no code that is too high.
  pub rows-low : (k : ℕ) (first : Bool) (before at : ℕ) → rows_fault k w cells v first before at ≡ 0 → too_high (part at (k * w) cells) ≡ false
  rows-low zero first before at e = high-none cells at (0 * w) (omega arith)
  rows-low (suc k) first before at e =
      let g = row-clear k first before at e in
      let wide : suc k * w ≡ w + k * w = omega (arith, suc-mul k w) in
      rw (wide, part-append at w (k * w) cells) (high-append (part at w cells) (part (at + w) (k * w) cells) g.0 (rows-low k false at (at + w) g.3))

-- ---- 7, code by code

-- The order of two lists, where both have gone past their first i numbers: the first two that differ decide, and else the lengths do.
order-here : (x y : ℕ) (xs ys : List ℕ) → (x ≡ y → ⊥) → is_lt (slice_cmp nat_cmp (x ∷ xs) (y ∷ ys)) ≡ ltb x y
order-here x y xs ys n =
    elim (dec_lt x y) [
      | yes h ↦ rw (lt-ltb x y h)
      | no h ↦ rw (le-ltb x y (omega arith), ne_eqb x y n)
    ]

order-next : (x y : ℕ) (xs ys : List ℕ) → x ≡ y → is_lt (slice_cmp nat_cmp (x ∷ xs) (y ∷ ys)) ≡ is_lt (slice_cmp nat_cmp xs ys)
order-next x y xs ys e = rw (le-ltb x y (omega arith), eq-eqb x y e)

order-end : (xs ys : List ℕ) → min (length xs) (length ys) ≡ 0 → is_lt (slice_cmp nat_cmp xs ys) ≡ ltb (length xs) (length ys)
order-end [] [] h = refl
order-end [] (y ∷ ys) h = sym (lt-ltb 0 (suc (length ys)) (omega arith))
order-end (x ∷ xs) [] h = sym (le-ltb (suc (length xs)) 0 (omega arith))
order-end (x ∷ xs) (y ∷ ys) h = absurd (omega arith)

module _ (xs ys : List ℕ) (i : ℕ) where
  module _ (h : i < length xs) (k : i < length ys) where
    pub order-differs : (get_or xs i 0 ≡ get_or ys i 0 → ⊥) → is_lt (slice_cmp nat_cmp (drop i xs) (drop i ys)) ≡ ltb (get_or xs i 0) (get_or ys i 0)
    order-differs n = rw (drop-cons xs i 0 h, drop-cons ys i 0 k) (order-here (get_or xs i 0) (get_or ys i 0) (drop (suc i) xs) (drop (suc i) ys) n)

    pub order-goes_on : get_or xs i 0 ≡ get_or ys i 0 → is_lt (slice_cmp nat_cmp (drop i xs) (drop i ys)) ≡ is_lt (slice_cmp nat_cmp (drop (i + 1) xs) (drop (i + 1) ys))
    order-goes_on e = rw (drop-cons xs i 0 h, drop-cons ys i 0 k, add-one i) (order-next (get_or xs i 0) (get_or ys i 0) (drop (suc i) xs) (drop (suc i) ys) e)

  pub order-ends : i ≡ min (length xs) (length ys) → is_lt (slice_cmp nat_cmp (drop i xs) (drop i ys)) ≡ ltb (length xs) (length ys)
  order-ends e =
      let left : min (length (drop i xs)) (length (drop i ys)) ≡ 0 = omega (arith, length-drop i xs, length-drop i ys) in
      order-end (drop i xs) (drop i ys) left
      ∙ elim (dec_lt (length xs) (length ys)) [
        | yes l ↦ lt-ltb _ _ (omega (arith, length-drop i xs, length-drop i ys)) ∙ sym (lt-ltb _ _ l)
        | no l ↦ le-ltb _ _ (omega (arith, length-drop i xs, length-drop i ys)) ∙ sym (le-ltb _ _ (omega arith))
      ]

-- ---- the rows as they are gone through

-- What k rows of w codes in the front of xs meet, behind the row `before`; none stands before the first, and the empty list stands for it.
pub rows_behind : (k w v : ℕ) (before xs : List ℕ) → ℕ
rows_behind zero w v before xs = 0
rows_behind (suc k) w v before xs =
    cond (too_high (take w xs)) 10
    (cond (blank v (take w xs)) 21
    (cond (is_lt (slice_cmp nat_cmp before (take w xs))) (rows_behind k w v (take w xs) (drop w xs)) 7))

-- They are the rows of the definition.
module _ (cells : List ℕ) (w v : ℕ) (wide : 0 < w) where
  rows-later : (k before at : ℕ) → before + w ≤ length cells → at + k * w ≤ length cells
      → rows_fault k w cells v false before at ≡ rows_behind k w v (part before w cells) (drop at cells)
  unfolding rows_fault rows_behind
  rows-later zero before at h l = refl
  rows-later (suc k) before at h l =
      let more = suc-mul k w in
      let here : at + w ≤ length cells = omega arith in
      let same : length (part before w cells) ≡ length (part at w cells) = length_part before w cells h ∙ sym (length_part at w cells here) in
      rw (lt-below (part before w cells) (part at w cells) same, drop-drop w at cells, ← rows-later k at (at + w) here (omega arith)) refl

  rows-at : (k at : ℕ) → at + k * w ≤ length cells → rows_fault k w cells v true 0 at ≡ rows_behind k w v [] (drop at cells)
  unfolding rows_fault rows_behind
  rows-at zero at l = refl
  rows-at (suc k) at l =
      let more = suc-mul k w in
      let here : at + w ≤ length cells = omega arith in
      rw (lt-empty (part at w cells) (omega (arith, length_part at w cells here)), drop-drop w at cells, rows-later k at (at + w) here (omega arith)) refl

-- No row behind them counts.
rows-front : (k w v : ℕ) (before xs : List ℕ) → rows_behind k w v before (take (k * w) xs) ≡ rows_behind k w v before xs
unfolding rows_behind
rows-front zero w v before xs = refl
rows-front (suc k) w v before xs =
    let wide : suc k * w ≡ w + k * w = omega (arith, suc-mul k w) in
    rw (wide, take-take w (w + k * w) xs (omega arith), drop-take w (k * w) xs, rows-front k w v (take w xs) (drop w xs)) refl

-- The rows of a part of the cells, gone through alone.
module _ (cells : List ℕ) (w v : ℕ) (wide : 0 < w) where
  pub rows-all : (k : ℕ) → k * w ≤ length cells → rows_fault k w cells v true 0 0 ≡ rows_behind k w v [] cells
  rows-all k l = rows-at cells w v wide k 0 (omega arith)

  pub rows-part : (k start : ℕ) → start + k * w ≤ length cells
      → rows_fault (length (part start (k * w) cells) / w) w (part start (k * w) cells) v true 0 0 ≡ rows_fault k w cells v true 0 start
  rows-part k start l =
      let e = length_part start (k * w) cells l in
      rw (e, mul-div_cancel k wide)
      (rows-at (part start (k * w) cells) w v wide k 0 (omega (arith, e)) ∙ rows-front k w v [] (drop start cells) ∙ sym (rows-at cells w v wide k start l))

-- The next row is the one that comes, and the rows behind it are those that are left.
pub rows-come : (w v : ℕ) (before row rest : List ℕ) → 0 < w → length row ≡ w
    → rows_behind (length (row ++ rest) / w) w v before (row ++ rest)
    ≡ cond (too_high row) 10 (cond (blank v row) 21 (cond (is_lt (slice_cmp nat_cmp before row)) (rows_behind (length rest / w) w v row rest) 7))
unfolding rows_behind
rows-come w v before row rest z e =
    let more : length (row ++ rest) / w ≡ suc (length rest / w) = rw (length-append row rest, e, add-div_left (length rest) z) (add-one _) in
    rw (more, take_at row rest w e, drop_at row rest w e)

pub rows-end : (w v : ℕ) (before rest : List ℕ) → length rest < w → rows_behind (length rest / w) w v before rest ≡ 0
unfolding rows_behind
rows-end w v before rest l = rw (div-eq_of_lt l)

-- ---- numbers one after the other

few-in : (f x : ℕ) → length (encode_in f x) ≤ f
few-in zero x = omega arith
few-in (suc f) x =
    elim (dec_lt x 128) [
      | yes h ↦ rw (lt-ltb x 128 h) (omega arith)
      | no h ↦ rw (le-ltb x 128 (omega arith)) (omega (arith, few-in f (x / 128)))
    ]

-- "nine bytes at most"
pub encode-few : (x : ℕ) → length (encode x) ≤ most_bytes
unfolding encode
encode-few x = few-in most_bytes x

pub length-encodes : (xs : List ℕ) → length (encodes xs) ≡ sum_by (λ x. length (encode x)) xs
unfolding encodes
length-encodes = is_sum_by (λ xs. length (encodes xs)) (λ x. length (encode x)) refl (λ x xs. length-append (encode x) (encodes xs))

pub run_none : (xs : List ℕ) (i : ℕ) → length xs ≤ i → encodes (drop i xs) ≡ []
unfolding encodes
run_none xs i h = rw (drop_of_length-le xs {i = i} h)

pub run_more : (xs : List ℕ) (i : ℕ) → i < length xs → encodes (drop i xs) ≡ encode (get_or xs i 0) ++ encodes (drop (i + 1) xs)
unfolding encodes
run_more xs i h = rw (add-one i, drop-cons xs i 0 h)

pub run-length : (xs : List ℕ) (i : ℕ) → i < length xs → length (encodes (drop i xs)) ≡ length (encode (get_or xs i 0)) + length (encodes (drop (i + 1) xs))
run-length xs i h = ap length (run_more xs i h) ∙ length-append (encode (get_or xs i 0)) (encodes (drop (i + 1) xs))

pub run-few : (xs : List ℕ) → length (encodes xs) ≤ most_bytes * length xs
unfolding encodes
run-few [] = omega arith
run-few (x ∷ xs) = omega (arith, length-append (encode x) (encodes xs), encode-few x, run-few xs)

-- ---- table by table

-- The numbers before the first table, and those before the cells of table t.
abbrev pub head_run : Catalogue → List ℕ
head_run cat = version_of cat ∷ cat.m ∷ cat.n ∷ []

abbrev pub table_run : Catalogue → ℕ → List ℕ
table_run cat t = scheme_of cat t ∷ count_of cat t ∷ []

low-cons : (x : ℕ) (xs : List ℕ) → x < 2 ^ 63 → too_high xs ≡ false → too_high (x ∷ xs) ≡ false
unfolding too_high
low-cons x xs h e = rw (lt-leb (2 ^ 63) x h) e

low-nil : too_high [] ≡ false
unfolding too_high
low-nil = refl

pub head-low : (cat : Catalogue) → cat.m ≤ most_attributes → cat.n ≤ most_tables → too_high (head_run cat) ≡ false
head-low cat p q =
    low-cons (version_of cat) (cat.m ∷ cat.n ∷ []) (omega (arith, version-few cat))
    (low-cons cat.m (cat.n ∷ []) (omega arith) (low-cons cat.n [] (omega arith) low-nil))

head-bytes : (cat : Catalogue) → encodes (head_run cat) ≡ head_bytes cat
unfolding encodes
head-bytes cat = simp append-nil

length_three : (a b c : List ℕ) → length (a ++ (b ++ c)) ≡ length a + length b + length c
length_three a b c = simp length-append (omega arith)

module _ (cat : Catalogue) (cells : List ℕ) where
  pub image-none : (k t : ℕ) → k ≤ 0 → tables_image k cat cells t ≡ []
  unfolding tables_image
  image-none zero t z = refl
  image-none (suc k) t z = absurd (omega arith)

  image-more : (k l t : ℕ) → k ≡ suc l → tables_image k cat cells t ≡ encodes (table_run cat t) ++ (encodes (cells_of cat cells t) ++ tables_image l cat cells (t + 1))
  unfolding tables_image encodes
  image-more k l t e = rw e (simp (append_assoc, append-nil))

  image-length : (k l t : ℕ) → k ≡ suc l
      → length (tables_image k cat cells t) ≡ length (encodes (table_run cat t)) + length (encodes (cells_of cat cells t)) + length (tables_image l cat cells (t + 1))
  image-length k l t e = ap length (image-more k l t e) ∙ length_three (encodes (table_run cat t)) (encodes (cells_of cat cells t)) (tables_image l cat cells (t + 1))

  pub image-head : image_of cat cells ≡ encodes (head_run cat) ++ tables_image cat.n cat cells 0
  unfolding image_of
  image-head = rw (head-bytes cat)

  pub head-length : length (image_of cat cells) ≡ length (encodes (head_run cat)) + length (tables_image cat.n cat cells 0)
  head-length = ap length image-head ∙ length-append (encodes (head_run cat)) (tables_image cat.n cat cells 0)

  -- A number takes at most nine bytes, a table two numbers beside its cells.
  tables-few : (k t : ℕ) → length (tables_image k cat cells t) + most_bytes * first_cell cat t ≤ most_bytes * (2 * k + first_cell cat (t + k))
  tables-few zero t =
      let e : t + 0 ≡ t = omega arith in
      rw e (omega (arith, ap length (image-none 0 t (omega arith))))
  tables-few (suc k) t =
      let e : t + suc k ≡ t + 1 + k = omega arith in
      let c = length-take (count_of cat t * ones (scheme_of cat t)) (drop (first_cell cat t) cells) in
      rw e (omega (arith, image-length (suc k) k t refl, run-few (table_run cat t), run-few (cells_of cat cells t), c, cells-next cat t, tables-few k (t + 1)))

  -- What table t of accepted tables has: with what is behind it, it makes what is left.
  pub record Table (t : ℕ) : Type 0 where
    pub head_low : too_high (table_run cat t) ≡ false
    pub low : too_high (cells_of cat cells t) ≡ false
    pub few : length (cells_of cat cells t) ≤ most_cells
    pub bytes : tables_image (cat.n - t) cat cells t ≡ encodes (table_run cat t) ++ (encodes (cells_of cat cells t) ++ tables_image (cat.n - (t + 1)) cat cells (t + 1))
    pub size : length (tables_image (cat.n - t) cat cells t)
        ≡ length (encodes (table_run cat t)) + length (encodes (cells_of cat cells t)) + length (tables_image (cat.n - (t + 1)) cat cells (t + 1))

  pub table-good : write_fault cat cells ≡ 0 → (t : ℕ) → t < cat.n → Table t
  table-good e t h =
      let A = fault-accepted cat cells e in
      let L = A.lawful in
      let ends = table-ends cat t h in
      let k : cat.n - t ≡ suc (cat.n - (t + 1)) = omega arith in
      let wide : scheme_of cat t < 2 ^ 63 = omega (arith, L.scheme t h, pow-le-pow_right {n = 2} (omega arith) L.attributes) in
      record {
        head_low = low-cons (scheme_of cat t) (count_of cat t ∷ []) wide (low-cons (count_of cat t) [] (omega (arith, L.rows t h)) low-nil);
        low = rows-low cells (ones (scheme_of cat t)) (version_of cat) (count_of cat t) true 0 (first_cell cat t) (A.rows t h);
        few = omega (arith, length-take (count_of cat t * ones (scheme_of cat t)) (drop (first_cell cat t) cells), ends, L.cells);
        bytes = image-more (cat.n - t) (cat.n - (t + 1)) t k;
        size = image-length (cat.n - t) (cat.n - (t + 1)) t k;
      }

  -- The image is short, so no sum of its parts wraps.
  pub image-few : write_fault cat cells ≡ 0 → length (image_of cat cells) ≤ most_bytes * (3 + 2 * most_tables + most_cells)
  unfolding first_cell
  image-few e =
      let L = (fault-accepted cat cells e).lawful in
      let z : 0 + cat.n ≡ cat.n = omega arith in
      omega (arith, head-length, run-few (head_run cat), rw z at (tables-few cat.n 0), L.cells, L.tables)

-- ---- the answer

module _ (cat : Catalogue) (cells : List ℕ) (room : ℕ) where
  pub written-fault : (f : ℕ) → f ≡ write_fault cat cells → (f ≡ 0 → ⊥) → written cat cells room ≡ Refused f
  unfolding written
  written-fault zero e h = absurd (h refl)
  written-fault (suc f) e h = rw (← e)

  pub written-short : write_fault cat cells ≡ 0 → room < length (image_of cat cells) → written cat cells room ≡ Refused 11
  unfolding written length_fault
  written-short e h = rw (e, lt-ltb room (length (image_of cat cells)) h)

  pub written-good : write_fault cat cells ≡ 0 → length (image_of cat cells) ≤ room → written cat cells room ≡ Length (length (image_of cat cells))
  unfolding written length_fault
  written-good e h = rw (e, le-ltb room (length (image_of cat cells)) h)

  -- A length that is given is a short image's.
  pub written-few : (n : ℕ) → written cat cells room ≡ Length n → n ≤ 9 * (3 + 2 * most_tables + most_cells)
  written-few n e =
      elim (ℕ_discrete (write_fault cat cells) 0) [
        | no f ↦ let q = written-fault (write_fault cat cells) refl f in let z : ◌≡◌ {A = ℕ} 0 1 = cc in absurd (omega arith)
        | yes f ↦
            elim (dec_lt room (length (image_of cat cells))) [
              | yes h ↦ let q = written-short f h in let z : ◌≡◌ {A = ℕ} 0 1 = cc in absurd (omega arith)
              | no h ↦
                  let q = written-good f (omega arith) in
                  let z : n ≡ length (image_of cat cells) = cc in
                  omega (arith, image-few cat cells f)
            ]
      ]
