-- A row's line from field to field: what is known of it so far, one law for each way that its next field goes. Assumes nothing.
use Prim.Native.Nat.{ℕ, zero, suc, ◌+◌, ◌-◌, ◌≤◌, ◌<◌, min}
use native.Mathlib.Decide.{ℕ_discrete}
use native.Mathlib.Omega.{arith}
use mathlib.Core.Path.{◌≡◌, refl, sym, ap, ◌∙◌}
use mathlib.Core.Bool.{Bool, true, false, cond}
use mathlib.Core.List.{List, [], ◌∷◌, ◌++◌, append_assoc}
use lib.ListN.{length, drop, length-append}
use lib.Dec.{ltb, eqb}
use borrow.Author.Tests.{eq-eqb, ne_eqb, lt-ltb, le-ltb}
use Rattle.tables.specs.Checks.{first_met}
use Rattle.text.specs.declared.Form.TheVariants.{AtStart}
use Rattle.text.specs.declared.Fielded.TheVariants.{ToComma, ToLine, Nothing, OutsideHere}
use Rattle.text.specs.Lines.{no_code, Lines, done, line, last_line, lines_from}
use Rattle.text.specs.Reading.{cell_fault, insert, refused, or_else, rows_from}
use Rattle.text.specs.Fields.{field_at, code_of, next_of, codes_at}
use Rattle.text.proofs.TextSays.{late, row-wrong, row-broken}
use Rattle.text.proofs.Fieldwise.{comma-next, line-next, lines-field, codes-none, codes-next}
use Rattle.importer.specs.Answers.{Line, BadLine, End, Row}
use Rattle.std.specs.Prelude.{Result, Ok, Err}
use Rattle.std.specs.Result.{result_and}
use Rattle.refusals.specs.declared.Refusal.TheVariants.{BadCell}
use Rattle.refusals.specs.Refusals.{number}
use Rattle.importer.specs.declared.answers.LineFault.{LineFault}
use Rattle.importer.specs.Steps.{cells_bad, cells_or, line_or, ended_of, Ends, line_told, LineSizes, LineSays}

-- ---- one field more

pub length-snoc : (row : List ℕ) (c : ℕ) → length (row ++ (c ∷ [])) ≡ length row + 1
length-snoc row c = length-append row (c ∷ [])

cells-snoc : (k : ℕ) (row : List ℕ) (c : ℕ) → cell_fault (suc k) (row ++ (c ∷ [])) ≡ first_met (cell_fault (suc k) row) (cond (ltb c no_code) 0 (suc k + length row))
unfolding cell_fault
cells-snoc k [] c = let e : suc k + 0 ≡ suc k = omega arith in rw e
cells-snoc k (x ∷ row) c = by (ltb x no_code) (cells-snoc (suc k) row c)
  where
    by : (t : Bool) → cell_fault (suc (suc k)) (row ++ (c ∷ [])) ≡ first_met (cell_fault (suc (suc k)) row) (cond (ltb c no_code) 0 (suc (suc k) + length row))
        → cond t (cell_fault (suc k + 1) (row ++ (c ∷ []))) (suc k) ≡ first_met (cond t (cell_fault (suc k + 1) row) (suc k)) (cond (ltb c no_code) 0 (suc k + suc (length row)))
    by true ih =
        let p : suc k + 1 ≡ suc (suc k) = omega arith in
        let q : suc k + suc (length row) ≡ suc (suc k) + length row = omega arith in
        rw (p, q) ih
    by false ih = refl

cells-next : (row : List ℕ) (c : ℕ) → cell_fault 1 (row ++ (c ∷ [])) ≡ cells_bad (cell_fault 1 row) (length row + 1) c
unfolding cells_bad
cells-next row c = let e : 1 + length row ≡ length row + 1 = omega arith in rw (← e) (cells-snoc 0 row c)

-- The text ends where a field begins: behind a comma that field is empty and the last, and at a line's front there is no line.
pub last-behind : (row : List ℕ) (c : ℕ) → 0 < length row → last_line row c ≡ line (row ++ (c ∷ [])) done
last-behind [] c h = absurd (omega arith)
last-behind (x ∷ row) c h = refl

pub last_none : (row : List ℕ) (c : ℕ) → length row ≡ 0 → last_line row c ≡ done
last_none [] c h = refl
last_none (x ∷ row) c h = absurd (omega arith)

-- One law for each way that code goes.
pub bad-before : (bad field c : ℕ) → 0 < bad → cells_bad bad field c ≡ bad
unfolding cells_bad
bad-before zero field c h = absurd (omega arith)
bad-before (suc k) field c h = refl

pub bad-none : (bad field c : ℕ) → bad ≡ 0 → c < no_code → cells_bad bad field c ≡ 0
unfolding cells_bad
bad-none bad field c e h = rw (e, lt-ltb c no_code h)

pub bad-here : (bad field c : ℕ) → bad ≡ 0 → no_code ≤ c → cells_bad bad field c ≡ field
unfolding cells_bad
bad-here bad field c e h = rw (e, le-ltb c no_code h)

pub ended-missing : (w field bad n : ℕ) → field < w → ended_of w field bad n ≡ BadLine 22 (field + 1)
unfolding ended_of
ended-missing w field bad n h = rw (ne_eqb field w (omega arith))

pub ended-bad : (w field bad n : ℕ) → field ≡ w → 0 < bad → ended_of w field bad n ≡ BadLine 24 bad
unfolding ended_of line_or
ended-bad w field zero n e h = absurd (omega arith)
ended-bad w field (suc k) n e h = rw (eq-eqb field w e)

pub ended-row : (w field bad n : ℕ) → field ≡ w → bad ≡ 0 → ended_of w field bad n ≡ Row n
unfolding ended_of line_or
ended-row w field bad n e z = rw (eq-eqb field w e, z)

-- ---- whether all cells so far are good, as the code holds it

or-good : (bad : ℕ) → bad ≡ 0 → cells_or bad ≡ Ok tt
unfolding cells_or
or-good bad e = rw e

or-fault : (bad : ℕ) → 0 < bad → cells_or bad ≡ Err (record { refusal = BadCell; field = bad })
unfolding cells_or
or-fault zero h = absurd (omega arith)
or-fault (suc k) h = refl

held-bad : (r : Result Unit LineFault) (f : LineFault) (bad : ℕ) → r ≡ Err f → r ≡ cells_or bad → (0 < bad) × (f ≡ record { refusal = BadCell; field = bad })
unfolding cells_or
held-bad r f zero p e = absurd (let z : ◌≡◌ {A = Result Unit LineFault} (Err f) (Ok tt) = sym p ∙ e in cc)
held-bad r f (suc k) p e =
    (omega arith, let z : ◌≡◌ {A = Result Unit LineFault} (Err f) (Err (record { refusal = BadCell; field = suc k })) = sym p ∙ e in cc)

held-good : (r : Result Unit LineFault) (u : Unit) (bad : ℕ) → r ≡ Ok u → r ≡ cells_or bad → bad ≡ 0
unfolding cells_or
held-good r u zero p e = refl
held-good r u (suc k) p e = absurd (let z : ◌≡◌ {A = Result Unit LineFault} (Ok u) (cells_or (suc k)) = sym p ∙ e in cc)

-- One field's cell.
pub cell-good : (field c : ℕ) → c < no_code → cells_or (cells_bad 0 field c) ≡ Ok tt
cell-good field c h = or-good (cells_bad 0 field c) (bad-none 0 field c refl h)

pub cell-bad : (field c : ℕ) → 0 < field → no_code ≤ c → cells_or (cells_bad 0 field c) ≡ Err (record { refusal = BadCell; field = field })
cell-bad field c z h = rw (bad-here 0 field c refl h) (or-fault field z)

-- The line ends, in one of three ways.
pub ends-short : (w field n : ℕ) (r : Result Unit LineFault) → field < w → Ends w field r n (BadLine 22 (field + 1))
ends-short w field n r h bad e = sym (ended-missing w field bad n h)

pub ends-bad : (w field n : ℕ) (r : Result Unit LineFault) (f : LineFault) → field ≡ w → r ≡ Err f → Ends w field r n (BadLine (number f.refusal) f.field)
ends-bad w field n r f h p bad e = let (z, q) = held-bad r f bad p e in rw q (sym (ended-bad w field bad n h z))

pub ends-row : (w field n : ℕ) (r : Result Unit LineFault) (u : Unit) → field ≡ w → r ≡ Ok u → Ends w field r n (Row n)
ends-row w field n r u h p bad e = sym (ended-row w field bad n h (held-good r u bad p e))

-- ---- what is known so far

-- The line at a place was read to i, through so many fields.
pub record LineSoFar (w : ℕ) (s : List ℕ) (at i field bad : ℕ) : Type 0 where
  pub row : List ℕ
  pub fields : length row ≡ field
  pub lines : lines_from (drop at s) AtStart 0 [] ≡ lines_from (drop i s) AtStart 0 row
  pub fault : bad ≡ cell_fault 1 row
  pub codes : row ++ codes_at (w - field) s i ≡ codes_at w s at
  pub far : at + field ≤ i
  pub most : i ≤ length s

-- The same, where the code holds whether all cells are good.
pub record LineHeld (w : ℕ) (s : List ℕ) (at i field : ℕ) (r : Result Unit LineFault) : Type 0 where
  pub bad : ℕ
  pub so : LineSoFar w s at i field bad
  pub held : r ≡ cells_or bad

so-far-start : (w : ℕ) (s : List ℕ) (at : ℕ) → at ≤ length s → LineSoFar w s at at 0 0
unfolding cell_fault
so-far-start w s at h = let e : w - 0 ≡ w = omega arith in record { row = []; fields = refl; lines = refl; fault = refl; codes = rw e; far = omega arith; most = h }

-- The codes from a field of this code on.
codes-from : (k : ℕ) (s : List ℕ) (i c n : ℕ) → 0 < k → code_of (field_at s i) ≡ c → next_of i (field_at s i) ≡ n → codes_at k s i ≡ c ∷ codes_at (k - 1) s n
codes-from k s i c n h p q = codes-next k s i h ∙ rw (p, q)

module _ (w : ℕ) (s : List ℕ) (at i field bad : ℕ) (so : LineSoFar w s at i field bad) (more : field < w) where
  -- A comma ends the field.
  so-far-on : (c n : ℕ) → field_at s i ≡ ToComma c n → LineSoFar w s at n (field + 1) (cells_bad bad (field + 1) c)
  unfolding code_of next_of
  so-far-on c n e =
      let k : w - field - 1 ≡ w - (field + 1) = omega arith in
      let (p, q) = comma-next s i c n so.most e in
      record {
        row = so.row ++ (c ∷ []);
        fields = length-snoc so.row c ∙ omega (arith, so.fields);
        lines = so.lines ∙ lines-field s so.row i (ToComma c n) e;
        fault = rw (so.fault, ← so.fields) (sym (cells-next so.row c));
        codes = rw (append_assoc so.row (c ∷ []) (codes_at (w - (field + 1)) s n), ← k)
            (ap (λ (t : List ℕ). so.row ++ t) (sym (codes-from (w - field) s i c n (omega arith) (ap code_of e) (ap (next_of i) e))) ∙ so.codes);
        far = omega (arith, so.far);
        most = q;
      }

  -- ---- the line ends

  -- Its codes are the row's.
  whole_row : (c n : ℕ) → code_of (field_at s i) ≡ c → field + 1 ≡ w → so.row ++ (c ∷ []) ≡ codes_at w s at
  whole_row c n p e =
      ap (λ (t : List ℕ). so.row ++ t) (sym (codes-from (w - field) s i c (next_of i (field_at s i)) (omega arith) p refl ∙ rw (codes-none (w - field - 1) s (next_of i (field_at s i)) (omega arith)))) ∙ so.codes

  module _ (room x l : ℕ) (kept : List (List ℕ)) where
    row-good : (codes : List ℕ) (rest : Lines) → length codes ≡ w
        → rows_from room x w l kept (line codes rest) ≡ or_else (cell_fault 1 codes) (λ k. refused 24 l k) (rows_from room x w (l + 1) (insert codes kept) rest)
    unfolding rows_from
    row-good codes rest e = rw (eq-eqb (length codes) w e)

    or-told : (b n : ℕ) → or_else b (λ k. refused 24 l k) (rows_from room x w (l + 1) (insert (codes_at w s at) kept) (lines_from (drop n s) AtStart 0 []))
        ≡ line_told room x w l kept s at (line_or b n)
    unfolding line_or
    or-told zero n = refl
    or-told (suc k) n = refl

    line-told : (c n : ℕ) → code_of (field_at s i) ≡ c
        → rows_from room x w l kept (line (so.row ++ (c ∷ [])) (lines_from (drop n s) AtStart 0 []))
        ≡ line_told room x w l kept s at (ended_of w (field + 1) (cells_bad bad (field + 1) c) n)
    unfolding ended_of
    line-told c n p =
        let j = length-snoc so.row c in
        elim (ℕ_discrete (field + 1) w) [
          | yes e ↦
              let b : cell_fault 1 (codes_at w s at) ≡ cells_bad bad (field + 1) c =
              rw (← whole_row c n p e, so.fault, ← so.fields) (cells-next so.row c) in
              rw (eq-eqb (field + 1) w e)
              (row-good (so.row ++ (c ∷ [])) (lines_from (drop n s) AtStart 0 []) (j ∙ omega (arith, so.fields))
              ∙ rw (whole_row c n p e, b) (or-told (cells_bad bad (field + 1) c) n))
          | no e ↦
              let q : min (length (so.row ++ (c ∷ []))) w + 1 ≡ field + 1 + 1 = omega (arith, so.fields) in
              rw (ne_eqb (field + 1) w e) (row-wrong room x w l kept (so.row ++ (c ∷ [])) (lines_from (drop n s) AtStart 0 []) (omega (arith, so.fields)) ∙ rw q)
        ]

  ended-sizes : (b n : ℕ) → at < n → n ≤ length s → LineSizes at (length s) (ended_of w (field + 1) b n)
  unfolding ended_of line_or
  ended-sizes b n p q = by (eqb (field + 1) w) b
    where
      by : (t : Bool) (b : ℕ) → LineSizes at (length s) (cond t (line_or b n) (BadLine 22 (field + 1 + 1)))
      by true zero = (p, q)
      by true (suc k) = tt
      by false b = tt

  ends : (c n : ℕ) → code_of (field_at s i) ≡ c → at < n → n ≤ length s
      → lines_from (drop i s) AtStart 0 so.row ≡ line (so.row ++ (c ∷ [])) (lines_from (drop n s) AtStart 0 [])
      → LineSays w s at (ended_of w (field + 1) (cells_bad bad (field + 1) c) n)
  ends c n p h q e =
      record {
        told = λ room x l kept. ap (rows_from room x w l kept) (so.lines ∙ e) ∙ line-told room x l kept c n p;
        sizes = ended-sizes (cells_bad bad (field + 1) c) n h q;
      }

  line-ends : (c n : ℕ) → field_at s i ≡ ToLine c n → LineSays w s at (ended_of w (field + 1) (cells_bad bad (field + 1) c) n)
  unfolding code_of
  line-ends c n e =
      let (p, q) = line-next s i c n so.most e in
      ends c n (ap code_of e) (omega (arith, so.far)) q (lines-field s so.row i (ToLine c n) e)

  -- The text ends behind a comma: an empty field, and the last.
  line-last : (c : ℕ) → 0 < field → field_at s i ≡ Nothing c → LineSays w s at (ended_of w (field + 1) (cells_bad bad (field + 1) c) i)
  unfolding code_of
  line-last c z e =
      ends c i (ap code_of e) (omega (arith, so.far)) so.most
      (lines-field s so.row i (Nothing c) e ∙ last-behind so.row c (omega (arith, so.fields)) ∙ ap (line (so.row ++ (c ∷ []))) (sym (lines-field s [] i (Nothing c) e)))

  -- The text ends where the line begins: "nothing after the last CRLF is no row".
  pub line-none : (c : ℕ) → field ≡ 0 → field_at s i ≡ Nothing c → LineSays w s at End
  unfolding rows_from
  line-none c z e =
      record { told = λ room x l kept. ap (rows_from room x w l kept) (so.lines ∙ lines-field s so.row i (Nothing c) e ∙ last_none so.row c (so.fields ∙ z)); sizes = tt }

  -- No field stands here.
  pub line-outside : field_at s i ≡ OutsideHere → LineSays w s at (BadLine 22 (field + 1))
  line-outside e =
      let q : min (length so.row + 1) (w + 1) ≡ field + 1 = omega (arith, so.fields) in
      record {
        told = λ room x l kept. ap (rows_from room x w l kept) (so.lines ∙ lines-field s so.row i OutsideHere e) ∙ row-broken room x w l kept (length so.row + 1) ∙ rw q;
        sizes = tt;
      }

-- A comma stands behind the last field that the row has.
pub line-surplus : (w : ℕ) (s : List ℕ) (at i field bad : ℕ) → LineSoFar w s at i field bad → 0 < w → field ≡ w → LineSays w s at (BadLine 22 (w + 1))
line-surplus w s at i field bad so z e =
    record {
      told = λ room x l kept. ap (rows_from room x w l kept) so.lines ∙ late room x w l kept (drop i s) AtStart 0 so.row (omega (arith, so.fields)) (omega (arith, so.fields));
      sizes = tt;
    }

pub held-start : (w : ℕ) (s : List ℕ) (at : ℕ) → at ≤ length s → LineHeld w s at at 0 (Ok tt)
unfolding cells_or
held-start w s at h = record { bad = 0; so = so-far-start w s at h; held = refl }

-- Whether the cells are good once one more is known.
and-cell : (bad field c : ℕ) → result_and (cells_or bad) (cells_or (cells_bad 0 field c)) ≡ cells_or (cells_bad bad field c)
unfolding cells_or cells_bad
and-cell zero field c = refl
and-cell (suc k) field c = refl

module _ (w : ℕ) (s : List ℕ) (at i field : ℕ) (r : Result Unit LineFault) (so : LineHeld w s at i field r) (more : field < w)
    (c : ℕ) (next : Result Unit LineFault) (joined : next ≡ result_and r (cells_or (cells_bad 0 (field + 1) c))) where
  abbrev bad : ℕ
  bad = cells_bad so.bad (field + 1) c

  held-next : next ≡ cells_or bad
  held-next = joined ∙ rw so.held (and-cell so.bad (field + 1) c)

  pub held-on : (n : ℕ) → field_at s i ≡ ToComma c n → LineHeld w s at n (field + 1) next
  held-on n e = record { bad = bad; so = so-far-on w s at i field so.bad so.so more c n e; held = held-next }

  pub held-ends : (n : ℕ) (a : Line) → field_at s i ≡ ToLine c n → Ends w (field + 1) next n a → LineSays w s at a
  held-ends n a e g = rw (g bad held-next) (line-ends w s at i field so.bad so.so more c n e)

  pub held-last : (a : Line) → 0 < field → field_at s i ≡ Nothing c → Ends w (field + 1) next i a → LineSays w s at a
  held-last a z e g = rw (g bad held-next) (line-last w s at i field so.bad so.so more c z e)
