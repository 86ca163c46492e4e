-- The answer of a whole write from its parts. Assumes nothing.
use Prim.Native.Nat.{ℕ, zero, suc, ◌+◌, ◌*◌, ◌^◌, ◌≤◌, ◌<◌}
use native.Mathlib.Nat.{mul-one, suc-mul, mul-div_cancel}
use native.Mathlib.Omega.{arith}
use mathlib.Core.Path.{◌≡◌, refl, sym, ap, ◌∙◌}
use mathlib.Core.Logic.{◌⊎◌, inl, inr}
use mathlib.Core.List.{List, ◌++◌}
use lib.ListN.{length, take, drop, length-append}
use lib.Seq.{length-take-le}
use lib.Count.{ones, ones-le}
use borrow.Author.Tests.{lt-ltb, le-ltb}
use Rattle.std.proofs.lemmas.List.{drop-take, take-take}
use Rattle.laws.specs.Lists.{put}
use Rattle.tables.specs.Sizes.{most_attributes}
use Rattle.tables.specs.Checks.{first_met}
use Rattle.text.specs.Reading.{scheme_from}
use Rattle.text.specs.Writing.{attribute_codes, line_text, text_of, cut, table_fault, all_fault, write_fault, wrote, unwritten, write_of}
use Rattle.text.specs.Refusals.{TablePasses, TableMeets}
use Rattle.text.proofs.WriteExactly.{table-says, table-some, table-ways}
use Rattle.text.proofs.Headers.{header-scheme, header-width}
use Rattle.text.proofs.RoundTrip.{some-code}
use Rattle.exporter.specs.TextWritten.{Length, Refused}
use Rattle.exporter.specs.Promise.{text_in, WritesText}
use Rattle.exporter.proofs.TextLaws.{lines_in}

-- ---- what a table without fault is

pub no-fault : (m x count lent : ℕ) → table_fault m x count lent ≡ 0 → TablePasses m x count lent
no-fault m x count lent e = by (table-ways m x count lent)
  where
    by : TablePasses m x count lent ⊎ ((k : ℕ) × TableMeets m x count lent k) → TablePasses m x count lent
    by (inl p) = p
    by (inr (k, t)) = absurd (omega (arith, table-some m x count lent t, table-says m x count lent t))

first-none : (a b : ℕ) → first_met a b ≡ 0 → a ≡ 0
first-none zero b e = refl
first-none (suc a) b e = absurd (omega arith)

pub good-table : (m x count : ℕ) (cells : List ℕ) → write_fault m x count cells ≡ 0 → TablePasses m x count (length cells)
unfolding write_fault
good-table m x count cells e = no-fault m x count (length cells) (first-none (table_fault m x count (length cells)) (all_fault (cut count (ones x) cells)) e)

-- A scheme that is not 0 has an attribute.
pub ones-some : (m x : ℕ) → 0 < x → x < 2 ^ m → 0 < ones x
ones-some m x h l =
    let e : scheme_from (attribute_codes m 0 x) ≡ x = header-scheme m 0 x l ∙ mul-one x in
    omega (arith, some-code (attribute_codes m 0 x) (omega arith), header-width m 0 x l)

-- A header has a code, and not many.
pub codes-some : (m x : ℕ) → 0 < x → x < 2 ^ m → 0 < length (attribute_codes m 0 x)
codes-some m x h l = omega (arith, ones-some m x h l, header-width m 0 x l)

pub codes-few : (m x : ℕ) → m ≤ most_attributes → x < 2 ^ m → length (attribute_codes m 0 x) ≤ 63
codes-few m x h l = omega (arith, header-width m 0 x l, ones-le m x l)

-- ---- the text

module _ (m x : ℕ) (cells : List ℕ) where
  pub text-is : text_in m x cells ≡ line_text (attribute_codes m 0 x) ++ lines_in (ones x) cells
  unfolding text_of
  text-is = refl

  pub text-length : length (text_in m x cells) ≡ length (line_text (attribute_codes m 0 x)) + length (lines_in (ones x) cells)
  text-length = ap length text-is ∙ length-append (line_text (attribute_codes m 0 x)) (lines_in (ones x) cells)

-- The rows are cut from the table's own cells as from all that are lent.
cut-front : (k w : ℕ) (cells : List ℕ) → cut k w (take (k * w) cells) ≡ cut k w cells
unfolding cut
cut-front zero w cells = refl
cut-front (suc k) w cells =
    let wide : suc k * w ≡ w + k * w = omega (arith, suc-mul k w) in
    rw (wide, take-take w (w + k * w) cells (omega arith), drop-take w (k * w) cells, cut-front k w (drop w cells))

module _ (m x count : ℕ) (cells : List ℕ) where
  abbrev pub text : List ℕ
  text = text_of m x (cut count (ones x) cells)

  -- The text of a table alone is the text of the table that is lent.
  pub text-alone : write_fault m x count cells ≡ 0 → text_in m x (take (count * ones x) cells) ≡ text
  text-alone e =
      let p = good-table m x count cells e in
      let n = length-take-le (count * ones x) cells p.fits in
      rw (n, mul-div_cancel count (ones-some m x p.scheme-some p.scheme-low), cut-front count (ones x) cells)

  -- ---- the write

  module _ (lent : List ℕ) where
    refused-is : (k : ℕ) → (k ≡ 0 → ⊥) → write_fault m x count cells ≡ k → write_of m x count cells (length lent) ≡ unwritten k
    unfolding write_of
    refused-is zero h e = absurd (h refl)
    refused-is (suc k) h e = rw e

    short-is : write_fault m x count cells ≡ 0 → length lent < length text → write_of m x count cells (length lent) ≡ unwritten 11
    unfolding write_of
    short-is e h = rw (e, lt-ltb (length lent) (length text) h)

    good-is : write_fault m x count cells ≡ 0 → length text ≤ length lent → write_of m x count cells (length lent) ≡ wrote text
    unfolding write_of
    good-is e h = rw (e, le-ltb (length lent) (length text) h)

    pub writes-refused : (k : ℕ) → (k ≡ 0 → ⊥) → k ≡ write_fault m x count cells → WritesText m x count cells lent (Refused k) lent
    writes-refused k h e = let q = refused-is k h (sym e) in record { answer = rw q; bytes = rw q }

    pub writes_short : write_fault m x count cells ≡ 0 → length lent < length text → WritesText m x count cells lent (Refused 11) lent
    writes_short e h = let q = short-is e h in record { answer = rw q; bytes = rw q }

    pub writes-text : (n : ℕ) (after : List ℕ) → write_fault m x count cells ≡ 0 → length text ≤ length lent → n ≡ length text
        → after ≡ put text lent → WritesText m x count cells lent (Length n) after
    writes-text n after e h k b =
        let q = good-is e h in record { answer = rw (q, k); bytes = rw q b }
