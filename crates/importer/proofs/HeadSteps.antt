-- The header from field to field: what is known of it so far, one law for each way that its next field goes. Assumes nothing.
use Prim.Native.Nat.{ℕ, zero, suc, ◌+◌, ◌-◌, ◌^◌, ◌≤◌, ◌<◌}
use native.Mathlib.Decide.{ℕ_discrete, dec_lt}
use native.Mathlib.Nat.{pow-suc}
use native.Mathlib.Omega.{arith}
use mathlib.Core.Path.{◌≡◌, refl, sym, ap, ◌∙◌}
use mathlib.Core.Logic.{◌⊎◌, inl, inr}
use mathlib.Core.Bool.{Bool, true, false, cond, ◌&&◌}
use mathlib.Core.List.{List, [], ◌∷◌, ◌++◌}
use lib.ListN.{length, drop}
use lib.Dec.{ltb, leb}
use lib.Pow.{pow_mono}
use borrow.Author.Tests.{lt-ltb, le-ltb, le-leb, lt-leb, ltb-true, leb-true}
use Rattle.tables.specs.Checks.{first_met}
use Rattle.text.specs.declared.Form.TheVariants.{AtStart}
use Rattle.text.specs.declared.Fielded.TheVariants.{ToComma, ToLine, Nothing, OutsideHere}
use Rattle.text.specs.Lines.{Lines, line, lines_from}
use Rattle.text.specs.Reading.{header_fault, scheme_from, refused, or_else, rows_from, headed}
use Rattle.text.specs.Fields.{field_at}
use Rattle.text.proofs.Fieldwise.{comma-next, line-next, lines-field}
use Rattle.importer.specs.Answers.{BadHead, Rows}
use Rattle.std.specs.Prelude.{Result, Ok, Err, IfOk}
use Rattle.refusals.specs.declared.Refusal.TheVariants.{BadHeader}
use Rattle.refusals.specs.Refusals.{number}
use Rattle.importer.specs.declared.answers.LineFault.{LineFault}
use Rattle.importer.specs.Steps.{head_bad, scheme_on, scheme_or, Grows, head_or, head_told, HeadSizes, HeadSays}
use Rattle.importer.proofs.LineSteps.{length-snoc, last-behind, last_none}

-- ---- one field more

-- The last code of a line, or b before the first.
unfoldable pub last_from : ℕ → List ℕ → ℕ
last_from b [] = b
last_from b (c ∷ row) = last_from c row

last_snoc : (b : ℕ) (row : List ℕ) (c : ℕ) → last_from b (row ++ (c ∷ [])) ≡ c
unfolding last_from
last_snoc b [] c = refl
last_snoc b (x ∷ row) c = last_snoc x row c

scheme-snoc : (row : List ℕ) (c : ℕ) → scheme_from (row ++ (c ∷ [])) ≡ scheme_from row + 2 ^ (c - 1)
unfolding scheme_from
scheme-snoc [] c = omega arith
scheme-snoc (x ∷ row) c = omega (arith, scheme-snoc row c)

module _ (m : ℕ) where
  header-snoc : (k b : ℕ) (row : List ℕ) (c : ℕ)
      → header_fault m (suc k) b (row ++ (c ∷ [])) ≡ first_met (header_fault m (suc k) b row) (cond (ltb (last_from b row) c && leb c m) 0 (suc k + length row))
  unfolding header_fault last_from
  header-snoc k b [] c = let e : suc k + 0 ≡ suc k = omega arith in rw e
  header-snoc k b (x ∷ row) c = by (ltb b x && leb x m) (header-snoc (suc k) x row c)
    where
      by : (t : Bool)
          → header_fault m (suc (suc k)) x (row ++ (c ∷ [])) ≡ first_met (header_fault m (suc (suc k)) x row) (cond (ltb (last_from x row) c && leb c m) 0 (suc (suc k) + length row))
          → cond t (header_fault m (suc k + 1) x (row ++ (c ∷ []))) (suc k)
          ≡ first_met (cond t (header_fault m (suc k + 1) x row) (suc k)) (cond (ltb (last_from x row) c && leb c m) 0 (suc k + suc (length row)))
      by true ih =
          let p : suc k + 1 ≡ suc (suc k) = omega arith in
          let q : suc k + suc (length row) ≡ suc (suc k) + length row = omega arith in
          rw (p, q) ih
      by false ih = refl

  header-next : (row : List ℕ) (c : ℕ) → header_fault m 1 0 (row ++ (c ∷ [])) ≡ head_bad m (header_fault m 1 0 row) (length row + 1) (last_from 0 row) c
  unfolding head_bad
  header-next row c = let e : 1 + length row ≡ length row + 1 = omega arith in rw (← e) (header-snoc 0 0 row c)

-- One law for each way that code goes.
pub bad-before : (m bad field before c : ℕ) → 0 < bad → head_bad m bad field before c ≡ bad
unfolding head_bad
bad-before m zero field before c h = absurd (omega arith)
bad-before m (suc k) field before c h = refl

pub bad-falls : (m bad field before c : ℕ) → bad ≡ 0 → c ≤ before → head_bad m bad field before c ≡ field
unfolding head_bad
bad-falls m bad field before c e h = rw (e, le-ltb before c h)

pub bad-high : (m bad field before c : ℕ) → bad ≡ 0 → before < c → m < c → head_bad m bad field before c ≡ field
unfolding head_bad
bad-high m bad field before c e h k = rw (e, lt-ltb before c h, lt-leb c m k)

pub bad-none : (m bad field before c : ℕ) → bad ≡ 0 → before < c → c ≤ m → head_bad m bad field before c ≡ 0
unfolding head_bad
bad-none m bad field before c e h k = rw (e, lt-ltb before c h, le-leb c m k)

-- And what it says that there is none.
pub none-bad : (m bad field before c : ℕ) → 0 < field → head_bad m bad field before c ≡ 0 → (bad ≡ 0) × (before < c) × (c ≤ m)
unfolding head_bad
none-bad m (suc k) field before c z e = absurd (omega arith)
none-bad m zero field before c z e = by (ltb before c) refl (leb c m) refl e
  where
    by : (t : Bool) → ltb before c ≡ t → (u : Bool) → leb c m ≡ u → cond (t && u) 0 field ≡ 0 → (zero ≡ 0) × (before < c) × (c ≤ m)
    by true p true q e = (refl, ltb-true before c p, leb-true c m q)
    by true p false q e = absurd (omega arith)
    by false p u q e = absurd (omega arith)

pub scheme-bad : (bad x c : ℕ) → 0 < bad → scheme_on bad x c ≡ x
unfolding scheme_on
scheme-bad zero x c h = absurd (omega arith)
scheme-bad (suc k) x c h = refl

pub scheme-good : (bad x c : ℕ) → bad ≡ 0 → scheme_on bad x c ≡ x + 2 ^ (c - 1)
unfolding scheme_on
scheme-good bad x c e = rw e

pub head-bad : (bad x w n : ℕ) → 0 < bad → head_or bad x w n ≡ BadHead 23 bad
unfolding head_or
head-bad zero x w n h = absurd (omega arith)
head-bad (suc k) x w n h = refl

pub head_rows : (bad x w n : ℕ) → bad ≡ 0 → head_or bad x w n ≡ Rows x w n
unfolding head_or
head_rows bad x w n e = rw e

-- ---- the scheme so far, as the code holds it

held-bad : (r : Result ℕ LineFault) (f : LineFault) (bad x : ℕ) → r ≡ Err f → r ≡ scheme_or bad x → 0 < bad
unfolding scheme_or
held-bad r f zero x p e = absurd (let z : ◌≡◌ {A = Result ℕ LineFault} (Err f) (Ok x) = sym p ∙ e in cc)
held-bad r f (suc k) x p e = omega arith

held-ok : (r : Result ℕ LineFault) (y bad x : ℕ) → r ≡ Ok y → r ≡ scheme_or bad x → (bad ≡ 0) × (y ≡ x)
unfolding scheme_or
held-ok r y zero x p e = (refl, let z : ◌≡◌ {A = Result ℕ LineFault} (Ok y) (Ok x) = sym p ∙ e in cc)
held-ok r y (suc k) x p e = absurd (let z : ◌≡◌ {A = Result ℕ LineFault} (Ok y) (scheme_or (suc k) x) = sym p ∙ e in cc)

or-any : (bad x y : ℕ) → 0 < bad → scheme_or bad x ≡ scheme_or bad y
unfolding scheme_or
or-any zero x y h = absurd (omega arith)
or-any (suc k) x y h = refl

or-fault : (bad x : ℕ) → 0 < bad → scheme_or bad x ≡ Err (record { refusal = BadHeader; field = bad })
unfolding scheme_or
or-fault zero x h = absurd (omega arith)
or-fault (suc k) x h = refl

or-scheme : (bad x : ℕ) → bad ≡ 0 → scheme_or bad x ≡ Ok x
unfolding scheme_or
or-scheme bad x e = rw e

-- One field more: what was at fault stays, this field is at fault, or its attribute is one of the scheme's.
module _ (m field before c : ℕ) (r : Result ℕ LineFault) where
  pub grows-bad : (f : LineFault) → r ≡ Err f → Grows m field before c r r
  grows-bad f p bad x e =
      let h = held-bad r f bad x p e in
      rw (bad-before m bad field before c h) (e ∙ or-any bad x (scheme_on bad x c) h)

  pub grows-fault : (y : ℕ) → r ≡ Ok y → 0 < field → (c ≤ before) ⊎ (m < c) → Grows m field before c r (Err (record { refusal = BadHeader; field = field }))
  grows-fault y p h g bad x e =
      let z = (held-ok r y bad x p e).0 in
      let b : head_bad m bad field before c ≡ field = at g z (dec_lt before c) in
      rw b (sym (or-fault field (scheme_on field x c) h))
    where
      at : (c ≤ before) ⊎ (m < c) → bad ≡ 0 → Dec (before < c) → head_bad m bad field before c ≡ field
      at (inl l) z d = bad-falls m bad field before c z l
      at (inr l) z (yes k) = bad-high m bad field before c z k l
      at (inr l) z (no k) = bad-falls m bad field before c z (omega arith)

  pub grows-ok : (y : ℕ) → r ≡ Ok y → before < c → c ≤ m → Grows m field before c r (Ok (y + 2 ^ (c - 1)))
  grows-ok y p h l bad x e =
      let (z, q) = held-ok r y bad x p e in
      let b = bad-none m bad field before c z h l in
      rw (b, q) (ap Ok (sym (scheme-good 0 x c refl)) ∙ sym (or-scheme 0 (scheme_on 0 x c) refl))

-- The header ends as the scheme is.
pub ends-ok : (r : Result ℕ LineFault) (y bad x w n : ℕ) → r ≡ Ok y → r ≡ scheme_or bad x → head_or bad x w n ≡ Rows y w n
ends-ok r y bad x w n p e = let (z, q) = held-ok r y bad x p e in rw q (head_rows bad x w n z)

pub ends-bad : (r : Result ℕ LineFault) (f : LineFault) (bad x w n : ℕ) → r ≡ Err f → r ≡ scheme_or bad x → head_or bad x w n ≡ BadHead (number f.refusal) f.field
ends-bad r f bad x w n p e =
    let h = held-bad r f bad x p e in
    let q : f ≡ record { refusal = BadHeader; field = bad } = (let z : ◌≡◌ {A = Result ℕ LineFault} (Err f) (Err (record { refusal = BadHeader; field = bad })) = sym p ∙ e ∙ or-fault bad x h in cc) in
    rw q (head-bad bad x w n h)

-- ---- what is known so far

-- The scheme of a header that is not bad, and how far its attributes go.
pub record Mask (m : ℕ) (row : List ℕ) (field before x : ℕ) : Type 0 where
  pub scheme : x ≡ scheme_from row
  pub width : field ≤ before
  pub below : before ≤ m
  pub low : x < 2 ^ before

-- The header was read to i, through so many fields.
pub record HeadSoFar (m : ℕ) (s : List ℕ) (i field before bad x : ℕ) : Type 0 where
  pub row : List ℕ
  pub fields : length row ≡ field
  pub lines : lines_from s AtStart 0 [] ≡ lines_from (drop i s) AtStart 0 row
  pub last : before ≡ last_from 0 row
  pub fault : bad ≡ header_fault m 1 0 row
  pub mask : bad ≡ 0 → Mask m row field before x
  pub far : field ≤ i
  pub most : i ≤ length s

-- The same, where the code holds the scheme so far.
pub record HeadHeld (m : ℕ) (s : List ℕ) (i field before : ℕ) (r : Result ℕ LineFault) : Type 0 where
  pub bad : ℕ
  pub x : ℕ
  pub so : HeadSoFar m s i field before bad x
  pub held : r ≡ scheme_or bad x

so-far-start : (m : ℕ) (s : List ℕ) → HeadSoFar m s 0 0 0 0 0
unfolding last_from header_fault scheme_from
so-far-start m s =
    record {
      row = [];
      fields = refl;
      lines = refl;
      last = refl;
      fault = refl;
      mask = λ e. record { scheme = refl; width = omega arith; below = omega arith; low = omega arith };
      far = omega arith;
      most = omega arith;
    }

-- One attribute more makes at most twice the scheme's bound.
doubled : (x before c : ℕ) → before < c → x < 2 ^ before → x < 2 ^ (c - 1)
doubled x before c h l =
    let k : before ≤ c - 1 = omega arith in
    let p : 2 ^ before ≤ 2 ^ (c - 1) = pow_mono k in
    omega arith

power : (c : ℕ) → 0 < c → 2 ^ c ≡ 2 ^ (c - 1) + 2 ^ (c - 1)
power zero h = absurd (omega arith)
power (suc k) h = let e : suc k - 1 ≡ k = omega arith in rw e (omega (arith, pow-suc 2 k))

-- A header's line.
head-line : (m room : ℕ) (codes : List ℕ) (rest : Lines)
    → headed m room (line codes rest) ≡ or_else (header_fault m 1 0 codes) (λ k. refused 23 1 k) (rows_from room (scheme_from codes) (length codes) 2 [] rest)
unfolding headed
head-line m room codes rest = refl

-- It is bad, or it is not and the rows follow.
or-bad : (room : ℕ) (s : List ℕ) (b x w y v n : ℕ) → 0 < b
    → or_else b (λ k. refused 23 1 k) (rows_from room y v 2 [] (lines_from (drop n s) AtStart 0 [])) ≡ head_told room s (head_or b x w n)
unfolding head_or
or-bad room s zero x w y v n h = absurd (omega arith)
or-bad room s (suc k) x w y v n h = refl

or-rows : (room : ℕ) (s : List ℕ) (b x w y v n : ℕ) → b ≡ 0 → y ≡ x → v ≡ w
    → or_else b (λ k. refused 23 1 k) (rows_from room y v 2 [] (lines_from (drop n s) AtStart 0 [])) ≡ head_told room s (head_or b x w n)
unfolding head_or
or-rows room s b x w y v n e p q = rw (e, p, q)

or-sizes : (m end b x w n : ℕ) → 1 ≤ n → n ≤ end → 1 ≤ w → (b ≡ 0 → w ≤ m) → HeadSizes m end (head_or b x w n)
unfolding head_or
or-sizes m end zero x w n p q o k = (o, k refl, p, q)
or-sizes m end (suc b) x w n p q o k = tt

module _ (m : ℕ) (s : List ℕ) (i field before bad x : ℕ) (so : HeadSoFar m s i field before bad x) (c : ℕ) where
  -- The field at fault once this one has ended.
  abbrev now-bad : ℕ
  now-bad = head_bad m bad (field + 1) before c

  fault-next : now-bad ≡ header_fault m 1 0 (so.row ++ (c ∷ []))
  fault-next = rw (so.fault, so.last, ← so.fields) (sym (header-next m so.row c))

  mask_next : now-bad ≡ 0 → Mask m (so.row ++ (c ∷ [])) (field + 1) c (scheme_on now-bad x c)
  mask_next e =
      let (z, p, q) = none-bad m bad (field + 1) before c (omega arith) e in
      let k = so.mask z in
      let g = scheme-good now-bad x c e in
      record {
        scheme = g ∙ rw k.scheme (sym (scheme-snoc so.row c));
        width = omega (arith, k.width);
        below = q;
        low = rw g (omega (arith, doubled x before c p k.low, power c (omega arith)));
      }

  so-far-on : (n : ℕ) → field_at s i ≡ ToComma c n → HeadSoFar m s n (field + 1) c now-bad (scheme_on now-bad x c)
  so-far-on n e =
      let (p, q) = comma-next s i c n so.most e in
      record {
        row = so.row ++ (c ∷ []);
        fields = length-snoc so.row c ∙ omega (arith, so.fields);
        lines = so.lines ∙ lines-field s so.row i (ToComma c n) e;
        last = sym (last_snoc 0 so.row c);
        fault = fault-next;
        mask = mask_next;
        far = omega (arith, so.far);
        most = q;
      }

  -- ---- the header ends

  told : (n room : ℕ) → headed m room (line (so.row ++ (c ∷ [])) (lines_from (drop n s) AtStart 0 []))
      ≡ head_told room s (head_or now-bad (scheme_on now-bad x c) (field + 1) n)
  told n room =
      head-line m room (so.row ++ (c ∷ [])) (lines_from (drop n s) AtStart 0 [])
      ∙ rw (← fault-next)
      (elim (ℕ_discrete now-bad 0) [
        | yes z ↦ or-rows room s now-bad _ _ _ _ n z (sym (mask_next z).scheme) (length-snoc so.row c ∙ omega (arith, so.fields))
        | no z ↦ or-bad room s now-bad _ _ _ _ n (omega arith)
      ])

  ends : (n : ℕ) → 1 ≤ n → n ≤ length s
      → lines_from (drop i s) AtStart 0 so.row ≡ line (so.row ++ (c ∷ [])) (lines_from (drop n s) AtStart 0 [])
      → HeadSays m s (head_or now-bad (scheme_on now-bad x c) (field + 1) n)
  ends n p q e =
      record {
        told = λ room. ap (headed m room) (so.lines ∙ e) ∙ told n room;
        sizes = or-sizes m (length s) now-bad (scheme_on now-bad x c) (field + 1) n p q (omega arith) (λ z. let k = mask_next z in omega (arith, k.width, k.below));
      }

  head-ends : (n : ℕ) → field_at s i ≡ ToLine c n → HeadSays m s (head_or now-bad (scheme_on now-bad x c) (field + 1) n)
  head-ends n e =
      let (p, q) = line-next s i c n so.most e in
      ends n (omega arith) q (lines-field s so.row i (ToLine c n) e)

  -- The text ends behind a comma: an empty field, and the last.
  head-last : 0 < field → field_at s i ≡ Nothing c → HeadSays m s (head_or now-bad (scheme_on now-bad x c) (field + 1) i)
  head-last z e =
      ends i (omega (arith, so.far)) so.most
      (lines-field s so.row i (Nothing c) e ∙ last-behind so.row c (omega (arith, so.fields)) ∙ ap (line (so.row ++ (c ∷ []))) (sym (lines-field s [] i (Nothing c) e)))

  -- "empty text or an empty first line is 23 at 1, 1": here the text.
  pub head-none : field ≡ 0 → field_at s i ≡ Nothing c → HeadSays m s (BadHead 23 1)
  unfolding headed
  head-none z e =
      record { told = λ room. ap (headed m room) (so.lines ∙ lines-field s so.row i (Nothing c) e ∙ last_none so.row c (so.fields ∙ z)); sizes = tt }

-- No field stands here.
pub head-outside : (m : ℕ) (s : List ℕ) (i field before bad x : ℕ) → HeadSoFar m s i field before bad x → field_at s i ≡ OutsideHere → HeadSays m s (BadHead 22 (field + 1))
unfolding headed
head-outside m s i field before bad x so e =
    let q : length so.row + 1 ≡ field + 1 = omega (arith, so.fields) in
    record { told = λ room. ap (headed m room) (so.lines ∙ lines-field s so.row i OutsideHere e) ∙ rw q; sizes = tt }

pub held-start : (m : ℕ) (s : List ℕ) → HeadHeld m s 0 0 0 (Ok 0)
unfolding scheme_or
held-start m s = record { bad = 0; x = 0; so = so-far-start m s; held = refl }

-- The header ends with the field here: with the line, or with the text behind a comma.
abbrev pub Ended : (s : List ℕ) (i field c n : ℕ) → Type 0
Ended s i field c n = (field_at s i ≡ ToLine c n) ⊎ ((0 < field) × (n ≡ i) × (field_at s i ≡ Nothing c))

module _ (m : ℕ) (s : List ℕ) (i field before : ℕ) (r : Result ℕ LineFault) (so : HeadHeld m s i field before r) where
  -- An attribute behind the last fits the scheme.
  pub held-fits : IfOk r (λ x. x < 2 ^ before)
  held-fits = at r refl
    where
      at : (q : Result ℕ LineFault) → r ≡ q → IfOk q (λ x. x < 2 ^ before)
      at (Ok y) e = let (z, p) = held-ok r y so.bad so.x e so.held in rw p ((so.so.mask z).low)
      at (Err f) e = tt

  module _ (c : ℕ) (next : Result ℕ LineFault) (grows : Grows m (field + 1) before c r next) where
    abbrev bad : ℕ
    bad = head_bad m so.bad (field + 1) before c

    abbrev x : ℕ
    x = scheme_on bad so.x c

    pub held-on : (n : ℕ) → field_at s i ≡ ToComma c n → HeadHeld m s n (field + 1) c next
    held-on n e =
        record { bad = bad; x = x; so = so-far-on m s i field before so.bad so.x so.so c n e; held = grows so.bad so.x so.held }

    ended : (n : ℕ) → Ended s i field c n → HeadSays m s (head_or bad x (field + 1) n)
    ended n (inl e) = head-ends m s i field before so.bad so.x so.so c n e
    ended n (inr (h, p, e)) = rw p (head-last m s i field before so.bad so.x so.so c h e)

    pub held-rows : (n y : ℕ) → Ended s i field c n → next ≡ Ok y → HeadSays m s (Rows y (field + 1) n)
    held-rows n y e p = rw (ends-ok next y bad x (field + 1) n p (grows so.bad so.x so.held)) at (ended n e)

    pub held-fault : (n : ℕ) (f : LineFault) → Ended s i field c n → next ≡ Err f → HeadSays m s (BadHead (number f.refusal) f.field)
    held-fault n f e p = rw (ends-bad next f bad x (field + 1) n p (grows so.bad so.x so.held)) at (ended n e)
