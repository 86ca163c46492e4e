-- What is written is read: a cell's digits give its code again, so the lines of a written text are its rows. Assumes nothing.
use Prim.Native.Nat.{ℕ, zero, suc, ◌+◌, ◌*◌, ◌/◌, ◌%◌, ◌^◌, ◌≤◌, ◌<◌}
use native.Mathlib.Nat.{pow-suc}
use native.Mathlib.Decide.{dec_lt}
use native.Mathlib.Omega.{arith}
use mathlib.Core.Path.{◌≡◌, refl, ◌∙◌}
use mathlib.Core.List.{List, [], ◌∷◌, ◌++◌, append_assoc}
use lib.ListN.{length}
use Rattle.text.specs.Lines.{comma, cr, lf, digit_zero, no_code, kind_of, code_on, act, Lines, done, line, lines_from}
use Rattle.text.specs.declared.Form.{Form}
use Rattle.text.specs.declared.Form.TheVariants.{AtStart, InPlain}
use Rattle.text.specs.declared.Act.TheVariants.{Takes}
use Rattle.lines.specs.Decimals.{decimal}
use Rattle.lines.proofs.DecimalLaws.{decimal-last, decimal-more}
use Rattle.text.specs.Writing.{cell_text, rest_text, line_text, lines_text}
use Rattle.text.proofs.LineLaws.{kind-text, digit-is, code-first, code-next, lines-on, MayEnd, comma-ends, crlf-ends}

-- ---- a digit

digit-act : (f : Form) (d : ℕ) → d < 10 → act f (kind_of (digit_zero + d)) ≡ act f Rattle.text.specs.declared.Kind.TheVariants.TextByte
digit-act f d h = rw (kind-text (digit_zero + d) (omega arith) (omega arith) (omega arith) (omega arith))

first-digit : (d : ℕ) (t row : List ℕ) → d < 10 → lines_from ((digit_zero + d) ∷ t) AtStart 0 row ≡ lines_from t InPlain (d + 1) row
first-digit d t row h =
    let e : code_on 0 (digit_zero + d) ≡ d + 1 = code-first (digit_zero + d) (digit-is (digit_zero + d) (omega arith) (omega arith)) ∙ omega arith in
    lines-on (digit_zero + d) t AtStart 0 row (Takes InPlain) (digit-act AtStart d h) ∙ rw e

next-digit : (v d : ℕ) (t row : List ℕ) → 0 < v → d < 10 → 10 * v + d + 1 ≤ no_code
    → lines_from ((digit_zero + d) ∷ t) InPlain (v + 1) row ≡ lines_from t InPlain (10 * v + d + 1) row
next-digit v d t row z h l =
    let e : code_on (v + 1) (digit_zero + d) ≡ 10 * v + d + 1
    = code-next (v + 1) (digit_zero + d) (digit-is (digit_zero + d) (omega arith) (omega arith)) (omega arith) ∙ omega arith in
    lines-on (digit_zero + d) t InPlain (v + 1) row (Takes InPlain) (digit-act InPlain d h) ∙ rw e

-- ---- a number

digits-read : (k v : ℕ) (t row : List ℕ) → v < 10 ^ suc k → v < no_code → lines_from (decimal v ++ t) AtStart 0 row ≡ lines_from t InPlain (v + 1) row
digits-read zero v t row h l = rw (decimal-last v (omega arith)) (first-digit v t row (omega arith))
digits-read (suc k) v t row h l =
    elim (dec_lt v 10) [
      | yes f ↦ rw (decimal-last v f) (first-digit v t row f)
      | no f ↦
          let e : 10 * (v / 10) + v % 10 + 1 ≡ v + 1 = omega arith in
          rw (decimal-more v (omega arith) (omega arith), append_assoc)
          (digits-read k (v / 10) ((digit_zero + v % 10) ∷ t) row (omega (arith, pow-suc 10 (suc k))) (omega arith)
          ∙ next-digit (v / 10) (v % 10) t row (omega arith) (omega arith) (omega arith) ∙ rw e)
    ]

-- ---- a cell, and what ends it

-- A written cell is a plain field, empty or not, of its code.
cell-read : (c : ℕ) (t row : List ℕ) → c < no_code → (f : Form) × MayEnd f × (lines_from (cell_text c ++ t) AtStart 0 row ≡ lines_from t f c row)
unfolding cell_text
cell-read zero t row h = (AtStart, tt, refl)
cell-read (suc v) t row h = let e : v + 1 ≡ suc v = omega arith in (InPlain, tt, digits-read 18 v t row (omega arith) (omega arith) ∙ rw e)

cell-comma : (c : ℕ) (t row : List ℕ) → c < no_code → lines_from (cell_text c ++ (comma ∷ t)) AtStart 0 row ≡ lines_from t AtStart 0 (row ++ (c ∷ []))
cell-comma c t row h = let (f, m, e) = cell-read c (comma ∷ t) row h in e ∙ comma-ends f c t row m

cell-end : (c : ℕ) (t row : List ℕ) → c < no_code → lines_from (cell_text c ++ (cr ∷ lf ∷ t)) AtStart 0 row ≡ line (row ++ (c ∷ [])) (lines_from t AtStart 0 [])
cell-end c t row h = let (f, m, e) = cell-read c (cr ∷ lf ∷ t) row h in e ∙ crlf-ends f c t row m

-- ---- a line

-- Every code of a row is one.
pub data Codes : List ℕ → Type 0 where
  none : Codes []
  more : {c : ℕ} {codes : List ℕ} → c < no_code → Codes codes → Codes (c ∷ codes)

fields_read : (c : ℕ) (codes t row : List ℕ) → c < no_code → Codes codes
    → lines_from (cell_text c ++ rest_text codes ++ t) AtStart 0 row ≡ line (row ++ (c ∷ codes)) (lines_from t AtStart 0 [])
unfolding rest_text
fields_read c [] t row h none = rw append_assoc (cell-end c t row h)
fields_read c (d ∷ codes) t row h (more l ds) =
    rw (append_assoc (cell_text c) (comma ∷ (cell_text d ++ rest_text codes)) t)
    (cell-comma c (cell_text d ++ rest_text codes ++ t) row h ∙ fields_read d codes t (row ++ (c ∷ [])) l ds ∙ rw (append_assoc row (c ∷ []) (d ∷ codes)))

pub line_read : (codes t : List ℕ) → 0 < length codes → Codes codes → lines_from (line_text codes ++ t) AtStart 0 [] ≡ line codes (lines_from t AtStart 0 [])
unfolding line_text
line_read [] t z none = absurd (omega arith)
line_read (c ∷ codes) t z (more l ds) = fields_read c codes t [] l ds

-- ---- lines

-- Lines that are rows and nothing else.
unfoldable pub as_lines : List (List ℕ) → Lines
as_lines [] = done
as_lines (r ∷ rows) = line r (as_lines rows)

-- Rows of w codes each.
pub data Rows (w : ℕ) : List (List ℕ) → Type 0 where
  none : Rows w []
  more : {r : List ℕ} {rows : List (List ℕ)} → length r ≡ w → Codes r → Rows w rows → Rows w (r ∷ rows)

pub lines-read : (w : ℕ) (rows : List (List ℕ)) → 0 < w → Rows w rows → lines_from (lines_text rows) AtStart 0 [] ≡ as_lines rows
unfolding lines_text as_lines lines_from
lines-read w [] z none = refl
lines-read w (r ∷ rows) z (more l c rs) = line_read r (lines_text rows) (omega arith) c ∙ rw (lines-read w rows z rs)
