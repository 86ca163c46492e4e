-- The lines that are read are those of the grammar: from field to field by FieldLaws. Assumes nothing.
use Prim.Native.Nat.{ℕ, zero, suc, ◌+◌, ◌<◌}
use native.Mathlib.Omega.{arith}
use mathlib.Core.Path.{◌≡◌, refl, sym, ap, ◌∙◌}
use mathlib.Core.Logic.{◌⊎◌, inl, inr}
use mathlib.Core.List.{List, [], ◌∷◌, ◌++◌, append_assoc, append-nil}
use lib.ListN.{length, length-append}
use Rattle.text.specs.Lines.{comma, cr, lf, kind_of, code_on, code_from, act, Lines, done, broken, line, on_act, lines_from}
use Rattle.text.specs.declared.Form.{Form}
use Rattle.text.specs.declared.Form.TheVariants.{AtStart, InPlain, InQuotes, AfterQuote, AfterCr}
use Rattle.text.specs.declared.Act.{Act}
use Rattle.text.specs.declared.Act.TheVariants.{Takes, Marks, NextField, NextLine, Breaks}
use Rattle.text.specs.Grammar.{FieldThen, LineAt, ended, unended, FieldsTo, Outside, OutsideAt}
use Rattle.text.proofs.LineLaws.{lines-on, MayEnd, comma-ends, crlf-ends}
use Rattle.text.proofs.FieldLaws.{Over, over_none, over_plain, over_closed, field-read, ToComma, ToLine, to_end, Stuck, FieldWays, field-ways}

-- Something stands before the end of the line: a byte, or a field.
abbrev pub Some : List ℕ → List ℕ → Type 0
Some s row = (0 < length s) ⊎ (0 < length row)

line-broken : {A : Type 0} (o : Lines) (codes : List ℕ) (rest : Lines) (k : ℕ) → o ≡ line codes rest → o ≡ broken k → A
line-broken o codes rest k a b = absurd (let z : ◌≡◌ {A = ℕ} 0 1 = cc in omega arith)

-- ---- a field, by what follows it

may-end : {x : List ℕ} {f : Form} → Over x f → MayEnd f
may-end over_none = tt
may-end over_plain = tt
may-end over_closed = tt

pub field-comma : (s k t row : List ℕ) → FieldThen s k (comma ∷ t) → lines_from s AtStart 0 row ≡ lines_from t AtStart 0 (row ++ (code_from 0 k ∷ []))
field-comma s k t row (x, w, e) = let (f, o, h) = field-read w in rw e (h (comma ∷ t) row ∙ comma-ends f (code_from 0 k) t row (may-end o))

pub field-line : (s k t row : List ℕ) → FieldThen s k (cr ∷ lf ∷ t)
    → lines_from s AtStart 0 row ≡ line (row ++ (code_from 0 k ∷ [])) (lines_from t AtStart 0 [])
field-line s k t row (x, w, e) = let (f, o, h) = field-read w in rw e (h (cr ∷ lf ∷ t) row ∙ crlf-ends f (code_from 0 k) t row (may-end o))

end-over : {x : List ℕ} {f : Form} (c : ℕ) (row : List ℕ) → Over x f → Some x row → lines_from [] f c row ≡ line (row ++ (c ∷ [])) done
unfolding lines_from
end-over c [] over_none (inl h) = absurd (omega arith)
end-over c [] over_none (inr h) = absurd (omega arith)
end-over c (y ∷ row) over_none h = refl
end-over c row over_plain h = refl
end-over c row over_closed h = refl

pub field_end_lem : (s k row : List ℕ) → FieldThen s k [] → Some s row → lines_from s AtStart 0 row ≡ line (row ++ (code_from 0 k ∷ [])) done
field_end_lem s k row (x, w, e) h =
    let (f, o, r) = field-read w in
    let q : s ≡ x = e ∙ append-nil x in
    rw e (r [] row) ∙ end-over (code_from 0 k) row o (rw q at h)

-- ---- lines

-- The codes of a line's fields.
unfoldable pub codes_of : List (List ℕ) → List ℕ
codes_of [] = []
codes_of (c ∷ fields) = code_from 0 c ∷ codes_of fields

pub length-codes : (fields : List (List ℕ)) → length (codes_of fields) ≡ length fields
unfolding codes_of
length-codes [] = refl
length-codes (c ∷ fields) = ap suc (length-codes fields)

at-end : lines_from [] AtStart 0 [] ≡ done
unfolding lines_from
at-end = refl

snoc-some : (row : List ℕ) (c : ℕ) → 0 < length (row ++ (c ∷ []))
snoc-some row c = rw (length-append row (c ∷ [])) (omega arith)

pub line_at : {s t : List ℕ} {fields : List (List ℕ)} → LineAt s fields t → (row : List ℕ) → Some s row
    → lines_from s AtStart 0 row ≡ line (row ++ codes_of fields) (lines_from t AtStart 0 [])
unfolding codes_of
line_at (ended {s} {c} {t} w) row h = field-line s c t row w
line_at (unended {s} {c} w) row h = field_end_lem s c row w h ∙ rw at-end
line_at (LineAt.more {s} {c} {u} {t} {fields} w r) row h =
    field-comma s c u row w ∙ line_at r (row ++ (code_from 0 c ∷ [])) (inr (snoc-some row (code_from 0 c)))
    ∙ rw (append_assoc row (code_from 0 c ∷ []) (codes_of fields))

pub fields-to : {s u : List ℕ} {k : ℕ} → FieldsTo s k u → (row : List ℕ)
    → (codes : List ℕ) × (length codes ≡ k) × (lines_from s AtStart 0 row ≡ lines_from u AtStart 0 (row ++ codes))
fields-to (FieldsTo.none {s}) row = ([], refl, rw (append-nil row))
fields-to (FieldsTo.more {s} {c} {u} w r) row =
    let (codes, l, e) = fields-to r (row ++ (code_from 0 c ∷ [])) in
    (code_from 0 c ∷ codes, ap suc l, field-comma s c u row w ∙ e ∙ rw (append_assoc row (code_from 0 c ∷ []) codes))

-- ---- what is broken

one_field : (k l : ℕ) → broken k ≡ broken l → k ≡ l
one_field k l e = cc

done-broken : {A : Type 0} (k : ℕ) → done ≡ broken k → A
done-broken k e = absurd (let z : ◌≡◌ {A = ℕ} 0 1 = cc in omega arith)

end_later : (f : Form) (c : ℕ) (row : List ℕ) (k : ℕ) → lines_from [] f c row ≡ broken k → length row < k
unfolding lines_from
end_later AtStart c [] k e = done-broken k e
end_later AtStart c (x ∷ row) k e = line-broken (line ((x ∷ row) ++ (c ∷ [])) done) ((x ∷ row) ++ (c ∷ [])) done k refl e
end_later InPlain c row k e = line-broken (line (row ++ (c ∷ [])) done) (row ++ (c ∷ [])) done k refl e
end_later InQuotes c row k e = omega (arith, one_field (length row + 1) k e)
end_later AfterQuote c row k e = line-broken (line (row ++ (c ∷ [])) done) (row ++ (c ∷ [])) done k refl e
end_later AfterCr c row k e = omega (arith, one_field (length row + 1) k e)

pub broken-later : (s : List ℕ) (f : Form) (c : ℕ) (row : List ℕ) (k : ℕ) → lines_from s f c row ≡ broken k → length row < k
broken-later [] f c row k e = end_later f c row k e
broken-later (b ∷ s) f c row k e =
    by (act f (kind_of b)) (sym (lines-on b s f c row (act f (kind_of b)) refl) ∙ e) (λ g d r q. broken-later s g d r k q)
  where
    by : (a : Act) → on_act a b c row (λ g d r. lines_from s g d r) ≡ broken k → ((g : Form) (d : ℕ) (r : List ℕ) → lines_from s g d r ≡ broken k → length r < k)
        → length row < k
    by (Takes g) q ih = ih g (code_on c b) row q
    by (Marks g) q ih = ih g c row q
    by NextField q ih = omega (arith, length-append row (c ∷ []), ih AtStart 0 (row ++ (c ∷ [])) q)
    by NextLine q ih = line-broken (line (row ++ (c ∷ [])) (lines_from s AtStart 0 [])) (row ++ (c ∷ [])) (lines_from s AtStart 0 []) k refl q
    by Breaks q ih = omega (arith, one_field (length row + 1) k q)

pub stuck-outside : (s : List ℕ) → Stuck s AtStart → Outside s
stuck-outside s h c t = (
  λ w. absurd (omega (arith, broken-later t AtStart 0 (code_from 0 c ∷ []) 1 (sym (field-comma s c t [] w) ∙ h 0 []))),
  λ w. line-broken (lines_from s AtStart 0 []) (code_from 0 c ∷ []) (lines_from t AtStart 0 []) 1 (field-line s c t [] w) (h 0 []),
  λ w. line-broken (lines_from s AtStart 0 (0 ∷ [])) (0 ∷ code_from 0 c ∷ []) done 2 (field_end_lem s c (0 ∷ []) w (inr (omega arith))) (h 0 (0 ∷ [])),
)

pub outside-stuck : (s : List ℕ) → Outside s → Stuck s AtStart
outside-stuck s o = by (field-ways s)
  where
    by : FieldWays s → Stuck s AtStart
    by (inl (k, ToComma t, w)) = absurd ((o k t).0 w)
    by (inl (k, ToLine t, w)) = absurd ((o k t).1 w)
    by (inl (k, to_end, w)) = absurd ((o k []).2 w)
    by (inr h) = h

-- ---- every line is one of the grammar, or outside it at a field

abbrev pub LineWays : List ℕ → Type 0
LineWays s = ((fields : List (List ℕ)) × (t : List ℕ) × LineAt s fields t) ⊎ ((j : ℕ) × OutsideAt s j)

shorter : (s k t : List ℕ) → FieldThen s k (comma ∷ t) → length t < length s
shorter s k t (x, w, e) = rw (e, length-append x (comma ∷ t)) (omega arith)

line-ways-in : (n : ℕ) (s : List ℕ) → length s < n → LineWays s
line-ways-in zero s l = absurd (omega arith)
line-ways-in (suc n) s l = by (field-ways s) (λ t h. line-ways-in n t h)
  where
    on-comma : (k t : List ℕ) → FieldThen s k (comma ∷ t) → LineWays t → LineWays s
    on-comma k t w (inl (fields, u, r)) = inl (k ∷ fields, u, LineAt.more w r)
    on-comma k t w (inr (j, (u, r, o))) = inr (suc j, (u, FieldsTo.more w r, o))

    by : FieldWays s → ((t : List ℕ) → length t < n → LineWays t) → LineWays s
    by (inl (k, ToComma t, w)) ih = on-comma k t w (ih t (omega (arith, shorter s k t w)))
    by (inl (k, ToLine t, w)) ih = inl (k ∷ [], t, ended w)
    by (inl (k, to_end, w)) ih = inl (k ∷ [], [], unended w)
    by (inr h) ih = inr (0, (s, FieldsTo.none, stuck-outside s h))

pub line-ways : (s : List ℕ) → LineWays s
line-ways s = line-ways-in (suc (length s)) s (omega arith)
