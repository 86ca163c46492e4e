-- The text of a table, one law for each way that code goes, and how long it is at most. Assumes nothing.
use Prim.Native.Nat.{ℕ, zero, suc, ◌+◌, ◌-◌, ◌*◌, ◌/◌, ◌%◌, ◌^◌, ◌≤◌, ◌<◌}
use native.Mathlib.Nat.{suc-mul, mul-le-mul_left, mul_left_comm, min-le_left, add-div_left, div-eq_of_lt, div-div-eq-div-mul, pow-suc}
use native.Mathlib.Numerals.{add-one, sub-one}
use native.Mathlib.Omega.{arith}
use mathlib.Core.Path.{◌≡◌, refl, sym, ap, ◌∙◌}
use mathlib.Core.List.{List, [], ◌∷◌, ◌++◌}
use lib.ListN.{length, take, drop, get_or, length-append, length-take, drop_of_length-le}
use lib.Seq.{drop-cons, take_at, drop_at}
use lib.Dec.{eqb}
use borrow.Author.Tests.{eq-eqb, ne_eqb}
use Rattle.std.specs.Int.Bits.{bit_and}
use Rattle.std.proofs.lemmas.Nat.{and_mask}
use Rattle.std.specs.List.{sum_by}
use Rattle.std.proofs.lemmas.List.Sums.{sum_by-cons}
use Rattle.lines.specs.Decimals.{most_digits, decimal}
use Rattle.lines.proofs.DecimalLaws.{decimal-few}
use Rattle.text.specs.Lines.{comma, cr, lf}
use Rattle.text.specs.Writing.{cell_text, rest_text, line_text, lines_text, code_if, attribute_codes, cut}

-- ---- cells

pub cell-null : (x : ℕ) → x ≡ 0 → cell_text x ≡ []
unfolding cell_text
cell-null x e = rw e

pub cell-some : (x : ℕ) → (x ≡ 0 → ⊥) → cell_text x ≡ decimal (x - 1)
unfolding cell_text
cell-some zero f = absurd (f refl)
cell-some (suc x) f = rw (sub-one (suc x))

pub cell-few : (x : ℕ) → length (cell_text x) ≤ most_digits
unfolding cell_text
cell-few zero = omega arith
cell-few (suc x) = decimal-few x

-- ---- a line

-- The fields behind the first, from the i-th of them on.
pub rest-none : (codes : List ℕ) (i : ℕ) → length codes ≤ i → rest_text (drop i codes) ≡ cr ∷ lf ∷ []
unfolding rest_text
rest-none codes i z = rw (drop_of_length-le codes {i = i} z)

pub rest_more : (codes : List ℕ) (i : ℕ) → i < length codes → rest_text (drop i codes) ≡ (comma ∷ cell_text (get_or codes i 0)) ++ rest_text (drop (i + 1) codes)
unfolding rest_text
rest_more codes i h = rw (add-one i, drop-cons codes i 0 h)

pub line-more : (row : List ℕ) → 0 < length row → line_text row ≡ cell_text (get_or row 0 0) ++ rest_text (drop 1 row)
unfolding line_text
line-more [] h = absurd (omega arith)
line-more (c ∷ codes) h = refl

pub rest-length : (codes : List ℕ) (i : ℕ) → i < length codes → length (rest_text (drop i codes)) ≡ 1 + length (cell_text (get_or codes i 0)) + length (rest_text (drop (i + 1) codes))
rest-length codes i h = ap length (rest_more codes i h) ∙ length-append (comma ∷ cell_text (get_or codes i 0)) (rest_text (drop (i + 1) codes)) ∙ omega arith

pub line-length : (row : List ℕ) → 0 < length row → length (line_text row) ≡ length (cell_text (get_or row 0 0)) + length (rest_text (drop 1 row))
line-length row h = ap length (line-more row h) ∙ length-append (cell_text (get_or row 0 0)) (rest_text (drop 1 row))

-- How long.
rest-sum : (codes : List ℕ) → length (rest_text codes) ≡ sum_by (λ c. length (cell_text c)) codes + length codes + 2
unfolding rest_text
rest-sum [] = refl
rest-sum (c ∷ codes) = omega (arith, length-append (cell_text c) (rest_text codes), rest-sum codes, sum_by-cons (λ c. length (cell_text c)) c codes)

pub line-sum : (row : List ℕ) → 0 < length row → length (line_text row) ≡ sum_by (λ c. length (cell_text c)) row + length row + 1
unfolding line_text
line-sum [] h = absurd (omega arith)
line-sum (c ∷ codes) h = omega (arith, length-append (cell_text c) (rest_text codes), rest-sum codes, sum_by-cons (λ c. length (cell_text c)) c codes)

pub fields-few : (codes : List ℕ) → sum_by (λ c. length (cell_text c)) codes ≤ most_digits * length codes
fields-few [] = omega arith
fields-few (c ∷ codes) = omega (arith, cell-few c, fields-few codes, sum_by-cons (λ c. length (cell_text c)) c codes)

-- ---- lines, as the rows are gone through

module _ (w : ℕ) where
  abbrev pub lines_in : List ℕ → List ℕ
  lines_in cells = lines_text (cut (length cells / w) w cells)

  pub lines-come : (row rest : List ℕ) → 0 < w → length row ≡ w → lines_in (row ++ rest) ≡ line_text row ++ lines_in rest
  unfolding lines_text cut
  lines-come row rest z e =
      let more : length (row ++ rest) / w ≡ suc (length rest / w) = rw (length-append row rest, e, add-div_left (length rest) z) (add-one _) in
      rw (more, take_at row rest w e, drop_at row rest w e)

  pub lines-length : (row rest : List ℕ) → 0 < w → length row ≡ w → length (lines_in (row ++ rest)) ≡ length (line_text row) + length (lines_in rest)
  lines-length row rest z e = ap length (lines-come row rest z e) ∙ length-append (line_text row) (lines_in rest)

  pub lines-end : (rest : List ℕ) → length rest < w → lines_in rest ≡ []
  unfolding lines_text cut
  lines-end rest l = rw (div-eq_of_lt l)

pub line-few : (row : List ℕ) → length (line_text row) ≤ 21 * length row + 2
unfolding line_text
line-few [] = omega arith
line-few (c ∷ codes) = omega (arith, line-sum (c ∷ codes) (omega arith), fields-few (c ∷ codes))

pub lines-few : (k w : ℕ) (cells : List ℕ) → length (lines_text (cut k w cells)) ≤ k * (21 * w + 2)
unfolding lines_text cut
lines-few zero w cells = omega arith
lines-few (suc k) w cells =
    omega (arith, length-append (line_text (take w cells)) (lines_text (cut k w (drop w cells))), line-few (take w cells), length-take w cells, min-le_left w (length cells), lines-few k w (drop w cells), suc-mul k (21 * w + 2))

-- A row has a cell, so its line takes at most 23 bytes a cell.
pub lines-by_cell : (k w : ℕ) (cells : List ℕ) → 0 < w → length (lines_text (cut k w cells)) ≤ 23 * (k * w)
lines-by_cell k w cells z =
    let each : 21 * w + 2 ≤ 23 * w = omega arith in
    omega (arith, lines-few k w cells, mul-le-mul_left k each, mul_left_comm 23 k w)

-- ---- the header's codes

attributes-step : (k a x : ℕ) → attribute_codes (suc k) a x ≡ code_if (eqb (x % 2) 1) (a + 1) (attribute_codes k (a + 1) (x / 2))
unfolding attribute_codes
attributes-step k a x = refl

module _ (m a x : ℕ) (h : a < m) where
  next : attribute_codes (m - a) a (x / 2 ^ a) ≡ code_if (eqb (x / 2 ^ a % 2) 1) (a + 1) (attribute_codes (m - (a + 1)) (a + 1) (x / 2 ^ (a + 1)))
  next =
      let k : m - a ≡ suc (m - (a + 1)) = omega arith in
      let half : x / 2 ^ a / 2 ≡ x / 2 ^ (a + 1) = rw (add-one a, pow-suc 2 a) (div-div-eq-div-mul x (2 ^ a) 2) in
      rw (k, attributes-step (m - (a + 1)) a (x / 2 ^ a), half)

  -- An attribute of the scheme is in front of those that are left; another is not there.
  pub attribute-set : bit_and (x / 2 ^ a) 1 ≡ 1 → attribute_codes (m - a) a (x / 2 ^ a) ≡ (a + 1) ∷ attribute_codes (m - (a + 1)) (a + 1) (x / 2 ^ (a + 1))
  attribute-set e = next ∙ rw (eq-eqb (x / 2 ^ a % 2) 1 (sym (and_mask (x / 2 ^ a) 1) ∙ e))

  pub attribute-clear : (bit_and (x / 2 ^ a) 1 ≡ 1 → ⊥) → attribute_codes (m - a) a (x / 2 ^ a) ≡ attribute_codes (m - (a + 1)) (a + 1) (x / 2 ^ (a + 1))
  attribute-clear n = next ∙ rw (ne_eqb (x / 2 ^ a % 2) 1 (λ e. n (and_mask (x / 2 ^ a) 1 ∙ e)))

pub attributes-none : (k a x : ℕ) → k ≤ 0 → attribute_codes k a x ≡ []
unfolding attribute_codes
attributes-none zero a x h = refl
attributes-none (suc k) a x h = absurd (omega arith)
