-- Each refusal of the text writer exactly when: the tests in their order, each with what it says both ways, and one of them always decides. Assumes nothing.
use Prim.Native.Nat.{ℕ, zero, suc, ◌*◌, ◌^◌, ◌≤◌, ◌<◌}
use native.Mathlib.Decide.{dec_lt}
use native.Mathlib.Omega.{arith}
use mathlib.Core.Path.{◌≡◌, refl, sym, ap, ◌∙◌}
use mathlib.Core.Logic.{◌⊎◌, inl, inr}
use mathlib.Core.Bool.{Bool, true, false, cond, ◌||◌}
use mathlib.Core.List.Memᴰ
use mathlib.Core.List.{List, [], ◌∷◌, Memᴰ}
use lib.ListN.{length}
use lib.Count.{ones}
use lib.Dec.{ltb, leb, eqb}
use borrow.Author.Tests.{lt-ltb, le-ltb, le-leb, lt-leb, eq-eqb, ne_eqb, leb-true}
use Rattle.tables.specs.Sizes.{most_attributes, most_rows, most_cells}
use Rattle.tables.specs.Rows.{below}
use Rattle.tables.specs.Checks.{first_met, bad_scheme}
use Rattle.laws.proofs.TestLaws.{clash}
use Rattle.text.specs.Lines.{no_code}
use Rattle.text.specs.Order.{Rising}
use Rattle.text.specs.Writing.{cut, too_high, rows_fault, all_fault, table_fault, write_fault, text_of, Wrote, wrote, unwritten, wrote_of, write_of}
use Rattle.text.specs.Refusals.{HighCode, RowsMeet, AllMeet, RowsPass, TableMeets, m-bad, scheme-bad, rows-many, cells-many, TablePasses, WriteFault, table_at, rows_at, short, TextWriteExact}

-- ---- a row's codes

pub high-true : (r : List ℕ) → HighCode r → too_high r ≡ true
unfolding too_high
high-true [] (x, m, h) = absurd (Memᴰ.not-nil m)
high-true (c ∷ r) (x, m, h) = by (Memᴰ.cases_cons m) (λ k. high-true r (x, k, h))
  where
    other : (t : Bool) → (t || true) ≡ true
    other true = refl
    other false = refl

    by : (x ≡ c) ⊎ Memᴰ x r → (Memᴰ x r → too_high r ≡ true) → (leb no_code c || too_high r) ≡ true
    by (inl e) ih = rw (le-leb no_code c (omega arith))
    by (inr k) ih = rw (ih k) (other (leb no_code c))

pub true-high : (r : List ℕ) → too_high r ≡ true → HighCode r
unfolding too_high
true-high [] e = absurd (clash e refl)
true-high (c ∷ r) e = by (leb no_code c) refl e (true-high r)
  where
    by : (t : Bool) → leb no_code c ≡ t → (t || too_high r) ≡ true → (too_high r ≡ true → HighCode r) → HighCode (c ∷ r)
    by true a q ih = (c, Memᴰ.head refl, leb-true no_code c a)
    by false a q ih = let (x, m, h) = ih q in (x, Memᴰ.tail m, h)

pub low-false : (r : List ℕ) → (HighCode r → ⊥) → too_high r ≡ false
low-false r h = by (too_high r) refl
  where
    by : (t : Bool) → too_high r ≡ t → too_high r ≡ false
    by true e = absurd (h (true-high r e))
    by false e = e

false-low : (r : List ℕ) → too_high r ≡ false → HighCode r → ⊥
false-low r e h = clash (high-true r h) e

-- ---- rows

rows-say : {p : List ℕ} {rows : List (List ℕ)} {k : ℕ} → RowsMeet p rows k → rows_fault p rows ≡ k
unfolding rows_fault
rows-say (RowsMeet.high {r = r} h) = rw (high-true r h)
rows-say (RowsMeet.falls {r = r} h b) = rw (low-false r h, b)
rows-say (RowsMeet.later {r = r} h b m) = rw (low-false r h, b) (rows-say m)

all_say : {rows : List (List ℕ)} {k : ℕ} → AllMeet rows k → all_fault rows ≡ k
unfolding all_fault
all_say (AllMeet.high {r = r} h) = rw (high-true r h)
all_say (AllMeet.later {r = r} h m) = rw (low-false r h) (rows-say m)

-- The rows behind p rise above it and are low.
abbrev Fine : List ℕ → List (List ℕ) → Type 0
Fine p rows = Rising (p ∷ rows) × ((r : List ℕ) → Memᴰ r rows → HighCode r → ⊥)

low-cons : (r : List ℕ) (rows : List (List ℕ)) → (HighCode r → ⊥) → ((y : List ℕ) → Memᴰ y rows → HighCode y → ⊥)
    → (y : List ℕ) → Memᴰ y (r ∷ rows) → HighCode y → ⊥
low-cons r rows h g y m k = by (Memᴰ.cases_cons m)
  where
    by : (y ≡ r) ⊎ Memᴰ y rows → ⊥
    by (inl e) = h (rw e at k)
    by (inr q) = g y q k

rows-ways : (p : List ℕ) (rows : List (List ℕ)) → (Fine p rows × (rows_fault p rows ≡ 0)) ⊎ ((k : ℕ) × RowsMeet p rows k)
unfolding rows_fault
rows-ways p [] = inl ((Rising.one, λ r m. absurd (Memᴰ.not-nil m)), refl)
rows-ways p (r ∷ rows) = by (too_high r) refl (below p r) refl (rows-ways r rows)
  where
    by : (a : Bool) → too_high r ≡ a → (b : Bool) → below p r ≡ b → (Fine r rows × (rows_fault r rows ≡ 0)) ⊎ ((k : ℕ) × RowsMeet r rows k)
        → (Fine p (r ∷ rows) × (cond a 10 (cond b (rows_fault r rows) 7) ≡ 0)) ⊎ ((k : ℕ) × RowsMeet p (r ∷ rows) k)
    by true e b f ih = inr (10, RowsMeet.high (true-high r e))
    by false e false f ih = inr (7, RowsMeet.falls (false-low r e) f)
    by false e true f (inl ((rise, low), z)) = inl ((Rising.more f rise, low-cons r rows (false-low r e) low), z)
    by false e true f (inr (k, m)) = inr (k, RowsMeet.later (false-low r e) f m)

all_ways : (rows : List (List ℕ)) → (RowsPass rows × (all_fault rows ≡ 0)) ⊎ ((k : ℕ) × AllMeet rows k)
unfolding all_fault
all_ways [] = inl (record { rising = Rising.none; low = λ r m. absurd (Memᴰ.not-nil m) }, refl)
all_ways (r ∷ rows) = by (too_high r) refl (rows-ways r rows)
  where
    by : (a : Bool) → too_high r ≡ a → (Fine r rows × (rows_fault r rows ≡ 0)) ⊎ ((k : ℕ) × RowsMeet r rows k)
        → (RowsPass (r ∷ rows) × (cond a 10 (rows_fault r rows) ≡ 0)) ⊎ ((k : ℕ) × AllMeet (r ∷ rows) k)
    by true e ih = inr (10, AllMeet.high (true-high r e))
    by false e (inl ((rise, low), z)) = inl (record { rising = rise; low = low-cons r rows (false-low r e) low }, z)
    by false e (inr (k, m)) = inr (k, AllMeet.later (false-low r e) m)

-- No refusal is 0.
rows-some : {p : List ℕ} {rows : List (List ℕ)} {k : ℕ} → RowsMeet p rows k → 0 < k
rows-some (RowsMeet.high h) = omega arith
rows-some (RowsMeet.falls h b) = omega arith
rows-some (RowsMeet.later h b m) = rows-some m

all-some : {rows : List (List ℕ)} {k : ℕ} → AllMeet rows k → 0 < k
all-some (AllMeet.high h) = omega arith
all-some (AllMeet.later h m) = rows-some m

-- A list that meets a refusal does not pass, and what passes has no fault.
pub rows_pass : (rows : List (List ℕ)) → RowsPass rows → all_fault rows ≡ 0
rows_pass rows p = by (all_ways rows)
  where
    behind : {q : List ℕ} {rs : List (List ℕ)} {k : ℕ} → RowsMeet q rs k → Rising (q ∷ rs) → ((r : List ℕ) → Memᴰ r rs → HighCode r → ⊥) → ⊥
    behind (RowsMeet.high {r = r} h) rise low = low r (Memᴰ.head refl) h
    behind (RowsMeet.falls {p = q} {r = r} h b) (Rising.more c rise) low = clash c b
    behind (RowsMeet.later h b m) (Rising.more c rise) low = behind m rise (λ y k. low y (Memᴰ.tail k))

    none : {rs : List (List ℕ)} {k : ℕ} → AllMeet rs k → Rising rs → ((r : List ℕ) → Memᴰ r rs → HighCode r → ⊥) → ⊥
    none (AllMeet.high {r = r} h) rise low = low r (Memᴰ.head refl) h
    none (AllMeet.later h m) rise low = behind m rise (λ y k. low y (Memᴰ.tail k))

    by : (RowsPass rows × (all_fault rows ≡ 0)) ⊎ ((k : ℕ) × AllMeet rows k) → all_fault rows ≡ 0
    by (inl (q, e)) = e
    by (inr (k, m)) = absurd (none m p.rising p.low)

-- ---- the table

module _ (m x count lent : ℕ) where
  either : (a : Bool) → (a || true) ≡ true
  either true = refl
  either false = refl

  pub table-says : {k : ℕ} → TableMeets m x count lent k → table_fault m x count lent ≡ k
  unfolding table_fault bad_scheme
  table-says (m-bad (inl h)) = rw (lt-ltb m 1 h)
  table-says (m-bad (inr h)) = rw (lt-ltb most_attributes m h, either (ltb m 1))
  table-says (scheme-bad a b (inl h)) = rw (le-ltb m 1 a, le-ltb most_attributes m b, eq-eqb x 0 h)
  table-says (scheme-bad a b (inr h)) = rw (le-ltb m 1 a, le-ltb most_attributes m b, le-leb (2 ^ m) x h, either (eqb x 0))
  table-says (rows-many a b c d h) = rw (le-ltb m 1 a, le-ltb most_attributes m b, ne_eqb x 0 (omega arith), lt-leb (2 ^ m) x d, lt-ltb most_rows count h)
  table-says (cells-many a b c d e (inl h)) =
      rw (le-ltb m 1 a, le-ltb most_attributes m b, ne_eqb x 0 (omega arith), lt-leb (2 ^ m) x d, le-ltb most_rows count e, lt-ltb most_cells (count * ones x) h)
  table-says (cells-many a b c d e (inr h)) =
      rw (le-ltb m 1 a, le-ltb most_attributes m b, ne_eqb x 0 (omega arith), lt-leb (2 ^ m) x d, le-ltb most_rows count e, lt-ltb lent (count * ones x) h, either (ltb most_cells (count * ones x)))

  pub table-passes : TablePasses m x count lent → table_fault m x count lent ≡ 0
  unfolding table_fault bad_scheme
  table-passes p =
      let z : x ≡ 0 → ⊥ = omega arith in
      rw (le-ltb m 1 p.some, le-ltb most_attributes m p.attributes, ne_eqb x 0 z, lt-leb (2 ^ m) x p.scheme-low, le-ltb most_rows count p.rows, le-ltb most_cells (count * ones x) p.most, le-ltb lent (count * ones x) p.fits)

  pub table-some : {k : ℕ} → TableMeets m x count lent k → 0 < k
  table-some (m-bad h) = omega arith
  table-some (scheme-bad a b h) = omega arith
  table-some (rows-many a b c d h) = omega arith
  table-some (cells-many a b c d e h) = omega arith

  pub table-ways : TablePasses m x count lent ⊎ ((k : ℕ) × TableMeets m x count lent k)
  table-ways =
      elim (dec_lt m 1) [
        | yes a ↦ inr (4, m-bad (inl a))
        | no a ↦ elim (dec_lt most_attributes m) [
          | yes b ↦ inr (4, m-bad (inr b))
          | no b ↦ elim (dec_lt 0 x) [
            | no c ↦ inr (5, scheme-bad (omega arith) (omega arith) (inl (omega arith)))
            | yes c ↦ elim (dec_lt x (2 ^ m)) [
              | no d ↦ inr (5, scheme-bad (omega arith) (omega arith) (inr (omega arith)))
              | yes d ↦ elim (dec_lt most_rows count) [
                | yes e ↦ inr (6, rows-many (omega arith) (omega arith) c d e)
                | no e ↦ elim (dec_lt most_cells (count * ones x)) [
                  | yes f ↦ inr (8, cells-many (omega arith) (omega arith) c d (omega arith) (inl f))
                  | no f ↦ elim (dec_lt lent (count * ones x)) [
                    | yes g ↦ inr (8, cells-many (omega arith) (omega arith) c d (omega arith) (inr g))
                    | no g ↦
                        inl (record { some = omega arith; attributes = omega arith; scheme-some = c; scheme-low = d; rows = omega arith; most = omega arith; fits = omega arith })
                  ]
                ]
              ]
            ]
          ]
        ]
      ]

-- ---- the write

module _ (m x count : ℕ) (cells : List ℕ) (room : ℕ) where
  abbrev text : List ℕ
  text = text_of m x (cut count (ones x) cells)

  written : (k : ℕ) → first_met (write_fault m x count cells) (cond (ltb room (length text)) 11 0) ≡ k → write_of m x count cells room ≡ wrote_of k text
  unfolding write_of
  written k e = ap (λ (n : ℕ). wrote_of n text) e

  not-nought : (k : ℕ) → 0 < k → wrote_of k text ≡ unwritten k
  not-nought zero h = absurd (omega arith)
  not-nought (suc k) h = refl

  first-is : (a b k : ℕ) → 0 < k → a ≡ k → first_met a b ≡ k
  first-is a b zero h e = absurd (omega arith)
  first-is a b (suc k) h e = rw e

  passes-through : (a b : ℕ) → a ≡ 0 → first_met a b ≡ b
  passes-through a b e = rw e

  fault-says : {k : ℕ} → WriteFault m x count cells room k → write_of m x count cells room ≡ unwritten k
  unfolding write_fault
  fault-says {k} (table_at t) =
      let z = table-some m x count (length cells) t in
      written k (first-is (write_fault m x count cells) (cond (ltb room (length text)) 11 0) k z
      (first-is (table_fault m x count (length cells)) (all_fault (cut count (ones x) cells)) k z (table-says m x count (length cells) t)))
      ∙ not-nought k z
  fault-says {k} (rows_at p a) =
      let z = all-some a in
      written k (first-is (write_fault m x count cells) (cond (ltb room (length text)) 11 0) k z
      (passes-through (table_fault m x count (length cells)) (all_fault (cut count (ones x) cells)) (table-passes m x count (length cells) p) ∙ all_say a))
      ∙ not-nought k z
  fault-says (short p q h) =
      written 11 (passes-through (write_fault m x count cells) (cond (ltb room (length text)) 11 0) (no-fault p q) ∙ rw (lt-ltb room (length text) h))
    where
      no-fault : TablePasses m x count (length cells) → RowsPass (cut count (ones x) cells) → write_fault m x count cells ≡ 0
      no-fault p q = passes-through (table_fault m x count (length cells)) (all_fault (cut count (ones x) cells)) (table-passes m x count (length cells) p) ∙ rows_pass (cut count (ones x) cells) q

  abbrev Passing : Type 0
  Passing = TablePasses m x count (length cells) × RowsPass (cut count (ones x) cells) × (length text ≤ room)

  pass-says : Passing → write_of m x count cells room ≡ wrote text
  unfolding write_fault
  pass-says (p, q, h) =
      written 0 (passes-through (write_fault m x count cells) (cond (ltb room (length text)) 11 0)
      (passes-through (table_fault m x count (length cells)) (all_fault (cut count (ones x) cells)) (table-passes m x count (length cells) p) ∙ rows_pass (cut count (ones x) cells) q)
      ∙ rw (le-ltb room (length text) h))

  ways : Passing ⊎ ((k : ℕ) × WriteFault m x count cells room k)
  ways = by (table-ways m x count (length cells)) (all_ways (cut count (ones x) cells))
    where
      by : TablePasses m x count (length cells) ⊎ ((k : ℕ) × TableMeets m x count (length cells) k)
          → (RowsPass (cut count (ones x) cells) × (all_fault (cut count (ones x) cells) ≡ 0)) ⊎ ((k : ℕ) × AllMeet (cut count (ones x) cells) k)
          → Passing ⊎ ((k : ℕ) × WriteFault m x count cells room k)
      by (inr (k, t)) r = inr (k, table_at t)
      by (inl p) (inr (k, a)) = inr (k, rows_at p a)
      by (inl p) (inl (q, e)) =
          elim (dec_lt room (length text)) [
            | yes h ↦ inr (11, short p q h)
            | no h ↦ inl (p, q, omega arith)
          ]

  one_number : (o : Wrote) (k l : ℕ) → o ≡ unwritten k → o ≡ unwritten l → l ≡ k
  one_number o k l p q = cc

  one-text : (o : Wrote) (s t : List ℕ) → o ≡ wrote s → o ≡ wrote t → s ≡ t
  one-text o s t p q = cc

  not-both : {A : Type 0} (o : Wrote) (k : ℕ) (s : List ℕ) → o ≡ unwritten k → o ≡ wrote s → A
  not-both o k s p q = absurd (let z : ◌≡◌ {A = ℕ} 0 1 = cc in omega arith)

  refused-fault : (k : ℕ) → write_of m x count cells room ≡ unwritten k → Passing ⊎ ((k : ℕ) × WriteFault m x count cells room k) → WriteFault m x count cells room k
  refused-fault k e (inl p) = not-both (write_of m x count cells room) k text e (pass-says p)
  refused-fault k e (inr (l, h)) = rw (← one_number (write_of m x count cells room) k l e (fault-says h)) h

  wrote-passing : (s : List ℕ) → write_of m x count cells room ≡ wrote s → Passing ⊎ ((k : ℕ) × WriteFault m x count cells room k)
      → TablePasses m x count (length cells) × RowsPass (cut count (ones x) cells) × (length text ≤ room) × (s ≡ text)
  wrote-passing s e (inl (p, q, h)) = (p, q, h, one-text (write_of m x count cells room) s text e (pass-says (p, q, h)))
  wrote-passing s e (inr (l, h)) = not-both (write_of m x count cells room) l s (fault-says h) e

  pub write-exact : TextWriteExact m x count cells room
  write-exact =
      record {
        refuses = λ k. (λ e. refused-fault k e ways, fault-says);
        accepts = λ s. (λ e. wrote-passing s e ways, λ (p, q, h, t). pass-says (p, q, h) ∙ ap wrote (sym t));
      }
