-- Each refusal of the reader exactly when, and each table. Whatever is due is at fault or leads to the next line, and lines come to an end: so every
-- reading meets a fault or comes to the end, and TextSays has what the reader says then. Assumes nothing.
use Prim.Native.Nat.{ℕ, zero, suc, ◌+◌, ◌*◌, ◌≤◌, ◌<◌}
use native.Mathlib.Decide.{dec_lt}
use native.Mathlib.Omega.{arith}
use mathlib.Core.Path.{◌≡◌, refl, sym, ◌∙◌}
use mathlib.Core.Logic.{◌⊎◌, inl, inr}
use mathlib.Core.List.{List, [], ◌∷◌, ◌++◌, append_assoc, append-nil}
use lib.ListN.{length}
use Rattle.tables.specs.Sizes.{most_attributes, most_rows, most_cells}
use Rattle.text.specs.Lines.{Lines, done, broken, line, lines_from}
use Rattle.text.specs.declared.Form.TheVariants.{AtStart}
use Rattle.text.specs.Reading.{header_fault, scheme_from, Told, table, refused, read_of}
use Rattle.text.specs.Order.{InOrder, ordered, lines_rows, text_rows}
use Rattle.text.specs.Grammar.{LineAt, FieldsTo, Cells, BadCell, Header}
use Rattle.text.specs.Refusals.{Due, header, a_line, Passes, header_is, row_is, Meets, header-outside, header-bad, line-outside, surplus, missing, cell-bad, many-rows, many-cells, Reaches, start, on, FirstFault, m-out, fault, ReadWhole, TextExact}
use Rattle.text.proofs.GrammarLaws.{codes_of, LineWays, line-ways, line_at}
use Rattle.text.proofs.MeaningLaws.{cells-ways, cells-codes, HeaderWays, header-ways, header_codes, header-pass}
use Rattle.text.proofs.OrderLaws.{in_order_lem}
use Rattle.text.proofs.TextSays.{empty-codes, reaches-says, fault-refused, whole-table}

-- ---- a surplus field

pub line-fields-to : {s t : List ℕ} {fields : List (List ℕ)} (w : ℕ) → LineAt s fields t → w < length fields → (u : List ℕ) × FieldsTo s w u
line-fields-to {s} zero r h = (s, FieldsTo.none)
line-fields-to (suc w) (LineAt.ended q) h = absurd (omega arith)
line-fields-to (suc w) (LineAt.unended q) h = absurd (omega arith)
line-fields-to (suc w) (LineAt.more q r) h = let (u, p) = line-fields-to w r (omega arith) in (u, FieldsTo.more q p)

pub fewer-fields : {s t : List ℕ} {j : ℕ} (w : ℕ) → FieldsTo s j t → w ≤ j → (u : List ℕ) × FieldsTo s w u
fewer-fields {s} zero r h = (s, FieldsTo.none)
fewer-fields (suc w) FieldsTo.none h = absurd (omega arith)
fewer-fields (suc w) (FieldsTo.more q r) h = let (u, p) = fewer-fields w r (omega arith) in (u, FieldsTo.more q p)

-- ---- every reading ends

line-done : {A : Type 0} (codes : List ℕ) (rest : Lines) → line codes rest ≡ done → A
line-done codes rest e = absurd (let z : ◌≡◌ {A = ℕ} 0 1 = cc in omega arith)

line-broken : {A : Type 0} (codes : List ℕ) (rest : Lines) (k : ℕ) → line codes rest ≡ broken k → A
line-broken codes rest k e = absurd (let z : ◌≡◌ {A = ℕ} 0 1 = cc in omega arith)

line-rest : (a b : List ℕ) (r q : Lines) → line a r ≡ line b q → r ≡ q
line-rest a b r q e = cc

module _ (m room : ℕ) (s : List ℕ) where
  abbrev Ended : Type 0
  Ended = ((k : ℕ) × (l : ℕ) × (f : ℕ) × FirstFault m room s k l f) ⊎ ((x : ℕ) × (rows : List (List ℕ)) × ReadWhole m room s x rows)

  module _ (some : 1 ≤ m) (small : m ≤ most_attributes) where
    met : {d : Due} {t : List ℕ} {k l f : ℕ} → Reaches m s d t → Meets m room d t k l f → Ended
    met {k = k} {l} {f} r h = inl (k, l, f, fault some small r h)

    -- All lines are read.
    at-end : (l x w : ℕ) (rows : List (List ℕ)) → Reaches m s (a_line l x w rows) [] → Ended
    at-end l x w rows r = by (in_order_lem w rows (reaches-says m room small r).1.1)
      where
        by : InOrder rows (ordered [] rows) → Ended
        by o =
            elim (dec_lt most_rows (length (ordered [] rows))) [
              | yes h ↦ met r (many-rows o h)
              | no h ↦ elim (dec_lt most_cells (length (ordered [] rows) * w)) [
                | yes a ↦ met r (many-cells o (omega arith) (inl a))
                | no a ↦ elim (dec_lt room (length (ordered [] rows) * w)) [
                  | yes b ↦ met r (many-cells o (omega arith) (inr b))
                  | no b ↦
                      inr (
                        x,
                        ordered [] rows,
                        record { some = some; attributes = small; l = l; w = w; rows = rows; reaches = r; order = o; few = omega arith; most = omega arith; fits = omega arith },
                      )
                ]
              ]
            ]

    -- One line that is there, and the lines behind it.
    one_line : (l x w : ℕ) (rows : List (List ℕ)) (t : List ℕ) → 0 < length t → Reaches m s (a_line l x w rows) t
        → ((u codes : List ℕ) → lines_from t AtStart 0 [] ≡ line codes (lines_from u AtStart 0 []) → (rs : List (List ℕ)) → Reaches m s (a_line (l + 1) x w rs) u → Ended) → Ended
    one_line l x w rows t h r go = by (line-ways t)
      where
        as_wide : (fields : List (List ℕ)) (u : List ℕ) → LineAt t fields u → length fields ≡ w → ((codes : List ℕ) × Cells fields codes) ⊎ ((j : ℕ) × BadCell fields j) → Ended
        as_wide fields u q e (inl (codes, ws)) = go u (codes_of fields) (line_at q [] (inl h)) (rows ++ (codes ∷ [])) (on r (row_is h q e ws))
        as_wide fields u q e (inr (j, b)) = met r (cell-bad h q e b)

        by : LineWays t → Ended
        by (inr (j, (u, q, o))) =
            elim (dec_lt j w) [
              | yes k ↦ met r (line-outside (u, q, o) k)
              | no k ↦ met r (surplus (fewer-fields w q (omega arith)).1)
            ]
        by (inl (fields, u, q)) =
            elim (dec_lt (length fields) w) [
              | yes k ↦ met r (missing h q k)
              | no k ↦ elim (dec_lt w (length fields)) [
                | yes g ↦ met r (surplus (line-fields-to w q g).1)
                | no g ↦ as_wide fields u q (omega arith) (cells-ways fields)
              ]
            ]

    line-or-end : (l x w : ℕ) (rows : List (List ℕ)) (t : List ℕ) → Reaches m s (a_line l x w rows) t
        → ((u codes : List ℕ) → lines_from t AtStart 0 [] ≡ line codes (lines_from u AtStart 0 []) → (rs : List (List ℕ)) → Reaches m s (a_line (l + 1) x w rs) u → Ended) → Ended
    line-or-end l x w rows [] r go = at-end l x w rows r
    line-or-end l x w rows (b ∷ t) r go = one_line l x w rows (b ∷ t) (omega arith) r go

    through-lines : (o : Lines) (l x w : ℕ) (rows : List (List ℕ)) (t : List ℕ) → lines_from t AtStart 0 [] ≡ o → Reaches m s (a_line l x w rows) t → Ended
    through-lines done l x w rows t e r = line-or-end l x w rows t r (λ u codes q rs n. line-done codes (lines_from u AtStart 0 []) (sym q ∙ e))
    through-lines (broken k) l x w rows t e r = line-or-end l x w rows t r (λ u codes q rs n. line-broken codes (lines_from u AtStart 0 []) k (sym q ∙ e))
    through-lines (line cs rest) l x w rows t e r =
        line-or-end l x w rows t r
        (λ u codes q rs n. through-lines rest (l + 1) x w rs u (line-rest codes cs (lines_from u AtStart 0 []) rest (sym q ∙ e)) n)

    through-header : LineWays s → Ended
    through-header (inr (j, o)) = met start (header-outside o)
    through-header (inl (fields, u, q)) = by (header-ways m small 0 fields)
      where
        by : HeaderWays m small 0 fields → Ended
        by (inl (codes, hs)) = through-lines (lines_from u AtStart 0 []) 2 (scheme_from codes) (length codes) [] u refl (on start (header_is q hs))
        by (inr (j, b)) = met start (header-bad q b)

  ended : Ended
  ended =
      elim (dec_lt m 1) [
        | yes h ↦ inl (4, 0, 0, m-out (inl h))
        | no h ↦ elim (dec_lt most_attributes m) [
          | yes g ↦ inl (4, 0, 0, m-out (inr g))
          | no g ↦ through-header (omega arith) (omega arith) (line-ways s)
        ]
      ]

  -- ---- so each is told exactly when

  one-refusal : (o : Told) (k l f a b c : ℕ) → o ≡ refused k l f → o ≡ refused a b c → (a ≡ k) × (b ≡ l) × (c ≡ f)
  one-refusal o k l f a b c p q = (cc, cc, cc)

  one_table : (o : Told) (x y : ℕ) (rows rs : List (List ℕ)) → o ≡ table x rows → o ≡ table y rs → (y ≡ x) × (rs ≡ rows)
  one_table o x y rows rs p q = (cc, cc)

  not-both : {A : Type 0} (o : Told) (k l f x : ℕ) (rows : List (List ℕ)) → o ≡ refused k l f → o ≡ table x rows → A
  not-both o k l f x rows p q = absurd (let z : ◌≡◌ {A = ℕ} 0 1 = cc in omega arith)

  refused-fault : (k l f : ℕ) → read_of m room s ≡ refused k l f → Ended → FirstFault m room s k l f
  refused-fault k l f e (inr (x, rows, w)) = not-both (read_of m room s) k l f x rows e (whole-table w)
  refused-fault k l f e (inl (a, b, c, h)) =
      let (p, q, r) = one-refusal (read_of m room s) k l f a b c e (fault-refused h) in
      rw (← p, ← q, ← r) h

  table-whole : (x : ℕ) (rows : List (List ℕ)) → read_of m room s ≡ table x rows → Ended → ReadWhole m room s x rows
  table-whole x rows e (inl (a, b, c, h)) = not-both (read_of m room s) a b c x rows (fault-refused h) e
  table-whole x rows e (inr (y, rs, w)) =
      let (p, q) = one_table (read_of m room s) x y rows rs e (whole-table w) in
      rw (← p, ← q) w

  pub text-exact : TextExact m room s
  text-exact = record { refuses = λ k l f. (λ e. refused-fault k l f e ended, fault-refused); accepts = λ x rows. (λ e. table-whole x rows e ended, whole-table) }

-- ---- the rows of a table that is read

-- An empty text has no header.
no_header : (m : ℕ) → m ≤ most_attributes → {u codes : List ℕ} {fields : List (List ℕ)} → LineAt [] fields u → Header m 0 fields codes → ⊥
unfolding header_fault
no_header m small r hs =
    let e : header_fault m 1 0 (0 ∷ []) ≡ 0 = rw (sym (header_codes m small hs) ∙ empty-codes r) at (header-pass m small 1 hs) in
    omega arith

-- "Rows come out in order, repeats once": they rise strictly and are the rows of the text's lines, no more and no fewer.
module _ (m : ℕ) (small : m ≤ most_attributes) (s : List ℕ) where
  -- What is left of the rows, from what is due on.
  abbrev Left : Due → List ℕ → Type 0
  Left header t = s ≡ t
  Left (a_line l x w rows) t = text_rows (lines_from s AtStart 0 []) ≡ rows ++ lines_rows (lines_from t AtStart 0 [])

  left-on : {d e : Due} {t u : List ℕ} → Passes m d t e u → Left d t → Left e u
  unfolding text_rows lines_rows
  left-on (header_is {s = t} {t = u} {codes} {fields} r hs) q = rw q (by t r)
    where
      by : (v : List ℕ) → LineAt v fields u → text_rows (lines_from v AtStart 0 []) ≡ lines_rows (lines_from u AtStart 0 [])
      by [] k = absurd (no_header m small k hs)
      by (b ∷ v) k = rw (line_at k [] (inl (omega arith)))
  left-on (row_is {t = u} {codes = codes} {rows = rows} h r e ws) q =
      q ∙ rw (line_at r [] (inl h), cells-codes ws) (sym (append_assoc rows (codes ∷ []) (lines_rows (lines_from u AtStart 0 []))))

  left : {d : Due} {t : List ℕ} → Reaches m s d t → Left d t
  left start = refl
  left (on r p) = left-on p (left r)

pub table-in-order : (m room : ℕ) (s : List ℕ) (x : ℕ) (rows : List (List ℕ)) → read_of m room s ≡ table x rows → InOrder (text_rows (lines_from s AtStart 0 [])) rows
unfolding lines_rows lines_from
table-in-order m room s x rows e =
    let h = ((text-exact m room s).accepts x rows).0 e in
    let q : text_rows (lines_from s AtStart 0 []) ≡ h.rows = left m h.attributes s h.reaches ∙ append-nil h.rows in
    rw q h.order
