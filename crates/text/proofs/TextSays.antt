-- What the reader says where a reading meets a fault or comes to the end: from what is due to what is due next its answer stays the same. Assumes nothing.
use Prim.Native.Nat.{ℕ, suc, ◌+◌, ◌*◌, ◌≤◌, ◌<◌, min}
use native.Mathlib.Omega.{arith}
use mathlib.Core.Path.{◌≡◌, refl, sym, ap, ◌∙◌}
use mathlib.Core.Logic.{◌⊎◌, inl, inr}
use mathlib.Core.Bool.{Bool, true, false, cond, ◌||◌}
use mathlib.Core.List.Memᴰ
use mathlib.Core.List.{List, [], ◌∷◌, ◌++◌, Memᴰ}
use lib.ListN.{length, length-append}
use lib.Dec.{ltb}
use borrow.Author.Tests.{lt-ltb, le-ltb, eq-eqb, ne_eqb}
use Rattle.tables.specs.Sizes.{most_attributes, most_rows, most_cells}
use Rattle.text.specs.Lines.{kind_of, code_on, act, Lines, done, broken, line, on_act, lines_from}
use Rattle.text.specs.declared.Form.{Form}
use Rattle.text.specs.declared.Form.TheVariants.{AtStart, InPlain, InQuotes, AfterQuote, AfterCr}
use Rattle.text.specs.declared.Act.{Act}
use Rattle.text.specs.declared.Act.TheVariants.{Takes, Marks, NextField, NextLine, Breaks}
use Rattle.text.specs.Reading.{header_fault, scheme_from, cell_fault, insert, Told, table, refused, counted, or_else, rows_from, headed, read_of}
use Rattle.text.specs.Order.{InOrder, ordered}
use Rattle.text.specs.Grammar.{LineAt, FieldsTo, OutsideAt}
use Rattle.text.specs.Refusals.{Due, header, a_line, Passes, header_is, row_is, Meets, header-outside, header-bad, line-outside, surplus, missing, cell-bad, many-rows, many-cells, Reaches, start, on, FirstFault, m-out, fault, ReadWhole}
use Rattle.text.proofs.LineLaws.{lines-on}
use Rattle.text.proofs.GrammarLaws.{codes_of, length-codes, line_at, fields-to, outside-stuck}
use Rattle.text.proofs.MeaningLaws.{cells-codes, cells-pass, cells-fail, header_codes, header-pass, header-fail}
use Rattle.text.proofs.OrderLaws.{Wide, in_order_lem, order-unique}

-- ---- a line that is outside the grammar

pub outside-at : (s : List ℕ) (j : ℕ) → OutsideAt s j → lines_from s AtStart 0 [] ≡ broken (j + 1)
outside-at s j (u, r, o) = let (codes, l, e) = fields-to r [] in e ∙ outside-stuck u o 0 codes ∙ rw l

-- ---- the header

-- An empty text is a header with one empty field.
pub empty-codes : {t : List ℕ} {fields : List (List ℕ)} → LineAt [] fields t → codes_of fields ≡ 0 ∷ []
unfolding lines_from
empty-codes {t} {fields} r = one-tail (codes_of fields) (lines_from t AtStart 0 []) (line_at r (0 ∷ []) (inr (omega arith)))
  where
    one-tail : (codes : List ℕ) (rest : Lines) → line (0 ∷ 0 ∷ []) done ≡ line (0 ∷ codes) rest → codes ≡ 0 ∷ []
    one-tail codes rest e = cc

module _ (m room : ℕ) where
  header-line : (s : List ℕ) {t : List ℕ} {fields : List (List ℕ)} → LineAt s fields t
      → headed m room (lines_from s AtStart 0 []) ≡ or_else (header_fault m 1 0 (codes_of fields)) (λ k. refused 23 1 k)
      (rows_from room (scheme_from (codes_of fields)) (length (codes_of fields)) 2 [] (lines_from t AtStart 0 []))
  unfolding headed header_fault lines_from
  header-line [] r = rw (empty-codes r)
  header-line (b ∷ s) r = rw (line_at r [] (inl (omega arith)))

-- ---- a row's line

module _ (room x w l : ℕ) (rows : List (List ℕ)) where
  row_line : (s t : List ℕ) (fields : List (List ℕ)) → LineAt s fields t → 0 < length s → length fields ≡ w
      → rows_from room x w l rows (lines_from s AtStart 0 []) ≡ or_else (cell_fault 1 (codes_of fields)) (λ k. refused 24 l k)
      (rows_from room x w (l + 1) (insert (codes_of fields) rows) (lines_from t AtStart 0 []))
  unfolding rows_from
  row_line s t fields r h e = rw (line_at r [] (inl h), eq-eqb (length (codes_of fields)) w (length-codes fields ∙ e))

  pub row-wrong : (codes : List ℕ) (rest : Lines) → (length codes ≡ w → ⊥) → rows_from room x w l rows (line codes rest) ≡ refused 22 l (min (length codes) w + 1)
  unfolding rows_from
  row-wrong codes rest h = rw (ne_eqb (length codes) w h)

  pub row-broken : (k : ℕ) → rows_from room x w l rows (broken k) ≡ refused 22 l (min k (w + 1))
  unfolding rows_from
  row-broken k = refl

  -- Behind w fields and a comma nothing helps any more.
  abbrev pub Late : Lines → Type 0
  Late o = rows_from room x w l rows o ≡ refused 22 l (w + 1)

  late-line : (codes : List ℕ) (rest : Lines) → w < length codes → Late (line codes rest)
  late-line codes rest h = let e : min (length codes) w + 1 ≡ w + 1 = omega arith in row-wrong codes rest (omega arith) ∙ rw e

  late-broken : (k : ℕ) → w < k → Late (broken k)
  late-broken k h = let e : min k (w + 1) ≡ w + 1 = omega arith in row-broken k ∙ rw e

  late-end : (f : Form) (c : ℕ) (row : List ℕ) → 0 < length row → w ≤ length row → Late (lines_from [] f c row)
  unfolding lines_from
  late-end AtStart c [] z h = absurd (omega arith)
  late-end AtStart c (y ∷ row) z h = late-line ((y ∷ row) ++ (c ∷ [])) done (rw (length-append (y ∷ row) (c ∷ [])) (omega arith))
  late-end InPlain c row z h = late-line (row ++ (c ∷ [])) done (rw (length-append row (c ∷ [])) (omega arith))
  late-end AfterQuote c row z h = late-line (row ++ (c ∷ [])) done (rw (length-append row (c ∷ [])) (omega arith))
  late-end InQuotes c row z h = late-broken (length row + 1) (omega arith)
  late-end AfterCr c row z h = late-broken (length row + 1) (omega arith)

  pub late : (s : List ℕ) (f : Form) (c : ℕ) (row : List ℕ) → 0 < length row → w ≤ length row → Late (lines_from s f c row)
  late [] f c row z h = late-end f c row z h
  late (b ∷ s) f c row z h =
      rw (lines-on b s f c row (act f (kind_of b)) refl) (by (act f (kind_of b)) (λ g d r p q. late s g d r p q))
    where
      by : (a : Act) → ((g : Form) (d : ℕ) (r : List ℕ) → 0 < length r → w ≤ length r → Late (lines_from s g d r))
          → Late (on_act a b c row (λ g d r. lines_from s g d r))
      by (Takes g) ih = ih g (code_on c b) row z h
      by (Marks g) ih = ih g c row z h
      by NextField ih =
          let e = length-append row (c ∷ []) in
          ih AtStart 0 (row ++ (c ∷ [])) (omega arith) (omega arith)
      by NextLine ih = late-line (row ++ (c ∷ [])) (lines_from s AtStart 0 []) (rw (length-append row (c ∷ [])) (omega arith))
      by Breaks ih = late-broken (length row + 1) (omega arith)

  pub surplus-says : (s u : List ℕ) → 0 < w → FieldsTo s w u → Late (lines_from s AtStart 0 [])
  surplus-says s u z r = let (codes, e, q) = fields-to r [] in rw q (late u AtStart 0 codes (omega arith) (omega arith))

-- ---- what is said of what is due

ordered-snoc : (kept rows : List (List ℕ)) (r : List ℕ) → ordered kept (rows ++ (r ∷ [])) ≡ insert r (ordered kept rows)
unfolding ordered
ordered-snoc kept [] r = refl
ordered-snoc kept (x ∷ rows) r = ordered-snoc (insert x kept) rows r

wide-snoc : (w : ℕ) (rows : List (List ℕ)) (r : List ℕ) → Wide w rows → length r ≡ w → Wide w (rows ++ (r ∷ []))
wide-snoc w rows r h e y m = by (Memᴰ.append_cases rows m)
  where
    by : Memᴰ y rows ⊎ Memᴰ y (r ∷ []) → length y ≡ w
    by (inl k) = h y k
    by (inr k) = rw (Memᴰ.eq_of_singleton k) e

line-some : {s t : List ℕ} {fields : List (List ℕ)} → LineAt s fields t → 0 < length fields
line-some (LineAt.ended w) = omega arith
line-some (LineAt.unended w) = omega arith
line-some (LineAt.more w r) = omega arith

module _ (m room : ℕ) (small : m ≤ most_attributes) where
  -- The rest of the answer.
  abbrev pub told : Due → List ℕ → Told
  told header t = headed m room (lines_from t AtStart 0 [])
  told (a_line l x w rows) t = rows_from room x w l (ordered [] rows) (lines_from t AtStart 0 [])

  -- What is known of a line that is due.
  abbrev pub Sound : Due → Type 0
  Sound header = Unit
  Sound (a_line l x w rows) = (0 < w) × Wide w rows

  passes_on : {d e : Due} {s t : List ℕ} → Passes m d s e t → Sound d → (told d s ≡ told e t) × Sound e
  unfolding ordered
  passes_on (header_is {s} {t} {codes} {fields} r hs) k =
      let e = header_codes m small hs in
      (header-line m room s r ∙ rw (e, header-pass m small 1 hs), (omega (arith, line-some r, length-codes fields, ap length e), λ y q. absurd (Memᴰ.not-nil q)))
  passes_on (row_is {l} {x} {w} {s} {t} {codes} {rows} {fields} h r n ws) (z, wide) =
      let e = cells-codes ws in (
        row_line room x w l (ordered [] rows) s t fields r h n ∙ rw (e, cells-pass 1 ws, ordered-snoc [] rows codes),
        (z, wide-snoc w rows codes wide (sym (ap length e) ∙ length-codes fields ∙ n)),
      )

  pub reaches-says : {s : List ℕ} {d : Due} {t : List ℕ} → Reaches m s d t → (headed m room (lines_from s AtStart 0 []) ≡ told d t) × Sound d
  reaches-says start = (refl, tt)
  reaches-says (on r p) =
      let (e, k) = reaches-says r in
      let (f, n) = passes_on p k in
      (e ∙ f, n)

  -- ---- a fault, and the end

  row-end : (l x w : ℕ) (rows : List (List ℕ)) → told (a_line l x w rows) [] ≡ counted room x w (ordered [] rows)
  unfolding rows_from lines_from
  row-end l x w rows = refl

  sorted-is : (w : ℕ) (rows sorted : List (List ℕ)) → Wide w rows → InOrder rows sorted → ordered [] rows ≡ sorted
  sorted-is w rows sorted h o = order-unique rows (ordered [] rows) sorted (in_order_lem w rows h) o

  count-rows : (x w : ℕ) (rows : List (List ℕ)) → most_rows < length rows → counted room x w rows ≡ refused 6 0 0
  unfolding counted
  count-rows x w rows h = rw (lt-ltb most_rows (length rows) h)

  count-cells : (x w : ℕ) (rows : List (List ℕ)) → length rows ≤ most_rows → (most_cells < length rows * w) ⊎ (room < length rows * w)
      → counted room x w rows ≡ refused 8 0 0
  unfolding counted
  count-cells x w rows h (inl a) = rw (le-ltb most_rows (length rows) h, lt-ltb most_cells (length rows * w) a)
  count-cells x w rows h (inr a) = rw (le-ltb most_rows (length rows) h, lt-ltb room (length rows * w) a) (by (ltb most_cells (length rows * w)))
    where
      by : (t : Bool) → cond (t || true) (refused 8 0 0) (table x rows) ≡ refused 8 0 0
      by true = refl
      by false = refl

  pub count-good : (x w : ℕ) (rows : List (List ℕ)) → length rows ≤ most_rows → length rows * w ≤ most_cells → length rows * w ≤ room
      → counted room x w rows ≡ table x rows
  unfolding counted
  count-good x w rows h a b = rw (le-ltb most_rows (length rows) h, le-ltb most_cells (length rows * w) a, le-ltb room (length rows * w) b)

  or-else : (k j : ℕ) (refuse : ℕ → Told) (go : Told) → k ≡ 1 + j → or_else k refuse go ≡ refuse (j + 1)
  or-else k j refuse go e = let q : k ≡ suc j = omega arith in let p : j + 1 ≡ suc j = omega arith in rw (q, p)

  header-broken : (k : ℕ) → headed m room (broken k) ≡ refused 22 1 k
  unfolding headed
  header-broken k = refl

  meets-says : {d : Due} {s : List ℕ} {k l f : ℕ} → Meets m room d s k l f → Sound d → told d s ≡ refused k l f
  meets-says (header-outside {j} {s} o) n = rw (outside-at s j o) (header-broken (j + 1))
  meets-says (header-bad {j} {s} {t} {fields} r b) n = header-line m room s r ∙ or-else (header_fault m 1 0 (codes_of fields)) j (λ k. refused 23 1 k) (rows_from room (scheme_from (codes_of fields)) (length (codes_of fields)) 2 [] (lines_from t AtStart 0 [])) (header-fail m small 1 b)
  meets-says (line-outside {l} {x} {w} {j} {s} {rows} o h) n =
      let e : min (j + 1) (w + 1) ≡ j + 1 = omega arith in
      rw (outside-at s j o) (row-broken room x w l (ordered [] rows) (j + 1) ∙ rw e)
  meets-says (surplus {l} {x} {w} {s} {u} {rows} r) (z, wide) = surplus-says room x w l (ordered [] rows) s u z r
  meets-says (missing {l} {x} {w} {s} {t} {rows} {fields} h r q) n =
      let c = length-codes fields in
      let e : min (length (codes_of fields)) w + 1 ≡ length fields + 1 = omega arith in
      rw (line_at r [] (inl h)) (row-wrong room x w l (ordered [] rows) (codes_of fields) (lines_from t AtStart 0 []) (omega arith) ∙ rw e)
  meets-says (cell-bad {l} {x} {w} {j} {s} {t} {rows} {fields} h r q b) n =
      row_line room x w l (ordered [] rows) s t fields r h q
      ∙ or-else (cell_fault 1 (codes_of fields)) j (λ k. refused 24 l k) (rows_from room x w (l + 1) (insert (codes_of fields) (ordered [] rows)) (lines_from t AtStart 0 [])) (cells-fail 1 b)
  meets-says (many-rows {l} {x} {w} {rows} {sorted} o h) (z, wide) =
      row-end l x w rows ∙ rw (sorted-is w rows sorted wide o) (count-rows x w sorted h)
  meets-says (many-cells {l} {x} {w} {rows} {sorted} o h a) (z, wide) =
      row-end l x w rows ∙ rw (sorted-is w rows sorted wide o) (count-cells x w sorted h a)

-- ---- the whole answer

pub in-range : (m room : ℕ) (s : List ℕ) → 1 ≤ m → m ≤ most_attributes → read_of m room s ≡ headed m room (lines_from s AtStart 0 [])
unfolding read_of
in-range m room s l h = rw (le-ltb m 1 l, le-ltb most_attributes m h)

out_of_range : (m room : ℕ) (s : List ℕ) → (m < 1) ⊎ (most_attributes < m) → read_of m room s ≡ refused 4 0 0
unfolding read_of
out_of_range m room s (inl h) = rw (lt-ltb m 1 h)
out_of_range m room s (inr h) = rw (le-ltb m 1 (omega arith), lt-ltb most_attributes m h)

pub fault-refused : {m room k l f : ℕ} {s : List ℕ} → FirstFault m room s k l f → read_of m room s ≡ refused k l f
fault-refused {m} {room} {s = s} (m-out h) = out_of_range m room s h
fault-refused {m} {room} {s = s} (fault a b r w) =
    let (e, n) = reaches-says m room b r in
    in-range m room s a b ∙ e ∙ meets-says m room b w n

pub whole-table : {m room x : ℕ} {s : List ℕ} {sorted : List (List ℕ)} → ReadWhole m room s x sorted → read_of m room s ≡ table x sorted
whole-table {m} {room} {x} {s} {sorted} h =
    let (e, n) = reaches-says m room h.attributes h.reaches in
    in-range m room s h.some h.attributes ∙ e ∙ row-end m room h.attributes h.l x h.w h.rows
    ∙ rw (sorted-is m room h.attributes h.w h.rows sorted n.1 h.order) (count-good m room h.attributes x h.w sorted h.few h.most h.fits)
