-- What is still to be said of an image from a thing due: it stays the same as the reading comes to what is due next, and a fault decides it.
-- So a load refuses by the first fault, and accepts what is read whole. Cited: the equations of the load. Assumes nothing.
use Prim.Native.Nat.{ℕ, zero, suc, ◌+◌, ◌*◌, ◌^◌, ◌≤◌, ◌<◌}
use native.Mathlib.Decide.{dec_lt, ℕ_discrete}
use native.Mathlib.Omega.{arith}
use native.Mathlib.Numerals.{add-one}
use mathlib.Core.Path.{◌≡◌, refl, ap, ◌∙◌}
use mathlib.Core.Logic.{◌⊎◌, inl, inr}
use mathlib.Core.Bool.{Bool, true, false, not, cond, ◌&&◌, ◌||◌}
use mathlib.Core.List.{List}
use lib.ListN.{length, get_or, set, replicate, length-set}
use lib.Seq.{get_or-set_same, get_or-set_other}
use lib.Count.{ones}
use lib.Dec.{ltb, eqb}
use lib.Pow.{pow_pos}
use borrow.Author.Tests.{lt-ltb, le-ltb, eq-eqb, ne_eqb}
use Rattle.laws.specs.Tests.{any}
use Rattle.numbers.specs.Readings.{Number, NumberFault}
use Rattle.numbers.specs.Numbers.{decode}
use Rattle.tables.specs.Sizes.{most_attributes, most_tables, most_rows_one, most_cells, version_one, version_two}
use Rattle.tables.specs.Versions.{some_long, most_rows_in, needless, blank}
use Rattle.tables.proofs.VersionLaws.{blank-other, blank-two}
use Rattle.tables.specs.Rows as order
use Rattle.tables.specs.Checks.{outside, count_fault}
use Rattle.tables.proofs.CheckLaws.{inside, below, above, scheme-zero, scheme-high, scheme-good, count-many, count_most, count-lent, count-good}
use Rattle.loader.specs.Faults.{Fault, Walk, To, WalkFault, Field, Value, FieldFault, Entry, Table, TableFault, Verdict, Good, Refused, Loaded}
use Rattle.loader.specs.Reading.{refusal_at, on_walk, run_end, codes, rows_from}
use Rattle.tables.specs.Catalogues.{filled, given}
use Rattle.loader.specs.Load.{refused, field_at, on_field, entry_of, count_at, table_at, on_entry, tables_end, tables_from, scan_of}
use Rattle.loader.proofs.LoadLaws.{count-bad, count-fault, count-rows, table-bad, table-scheme, table-count, field-bad, field_out, field_in, good-field}
use Rattle.claims.proofs.Alike.{any-ext}
use Rattle.claims.specs.LoadRefusals.{Before, none, row_at, Due, the_version, attributes, tables, table, row_count, rows, cells, longer, NumberDue, Rises, Valued, Passes, version-is, m-is, n-is, scheme-is, count-is, row-begins, cell-is, row-rises, rows_end, Meets, number, other-version, m-out, n-out, bad-scheme, many-rows, many-cells, all-null, not-rising, surplus, no-need, Reaches, start, on, FirstFault, ReadWhole}

-- ---- what is still to be said

abbrev field_says : Field → (ℕ → ℕ → Verdict) → Verdict
field_says (Value x n) go = go x n
field_says (FieldFault f) go = Refused f

abbrev is_first : Before → Bool
is_first none = true
is_first (row_at q) = false

abbrev place_of : Before → ℕ
place_of none = 0
place_of (row_at q) = q

module _ (s : List ℕ) (room : ℕ) where
  -- k tables from place i on
  unfoldable tables_say : ℕ → ℕ → ℕ → ℕ → Bool → ℕ → Verdict
  tables_say zero v m u l i = cond (ltb i (length s)) (Refused (refusal_at 9 i 0)) (cond (eqb v version_two && not l) (Refused (refusal_at 20 0 0)) Good)
  tables_say (suc k) v m u l i = on_entry (table_at s v room m u i) (λ x c w e. tables_say k v m w (longer c l) e) Refused

  -- a table that came to this, with k tables behind it
  abbrev entry_says : ℕ → ℕ → ℕ → Bool → Entry → Verdict
  entry_says v m k l o = on_entry o (λ x c w e. tables_say k v m w (longer c l) e) Refused

  -- rows that came to this, with u cells so far and k tables behind them
  abbrev walk_says : ℕ → ℕ → ℕ → ℕ → Bool → Walk → Verdict
  walk_says v m k u l (To n) = tables_say k v m u l n
  walk_says v m k u l (WalkFault f) = Refused f

  abbrev rises_at : ℕ → Before → ℕ → Bool
  rises_at w b p = is_first b || order.below (codes w s (place_of b)) (codes w s p)

  -- the cells of the row at place p that came to this, with c rows behind it
  abbrev row_walk : ℕ → ℕ → ℕ → Before → ℕ → Walk → Walk
  row_walk v w c b p r =
      on_walk r (λ n.
      cond (blank v (codes w s p)) (WalkFault (refusal_at 21 p 0))
      (cond (rises_at w b p) (rows_from c w s v false p n)
      (WalkFault (refusal_at 7 p 0))))

  abbrev size_says : ℕ → ℕ → ℕ → Verdict
  size_says v m i = field_says (field_at s i 1 most_tables 4) (λ n j. tables_say n v m 0 false j)

  abbrev head_says : ℕ → ℕ → Verdict
  head_says v i = field_says (field_at s i 1 most_attributes 4) (λ m j. size_says v m j)

  unfoldable says : Due → ℕ → Verdict
  says the_version i = field_says (field_at s i version_one version_two 3) (λ v j. head_says v j)
  says (attributes v) i = head_says v i
  says (tables v m) i = size_says v m i
  says (table v m k u l) i = tables_say k v m u l i
  says (row_count v m k u l x) i = entry_says v m k l (count_at s v room x u i)
  says (rows v m k u l x c b) i = walk_says v m k u l (rows_from c (ones x) s v (is_first b) (place_of b) i)
  says (cells v m k u l x c b p w) i = walk_says v m k u l (row_walk v (ones x) c b p (run_end w s i))

  -- ---- at the start it is the load's answer

  -- Whether a table passes 255 rows, read off the row counts so far: the one of table t joins those before it.
  long-next : (cs : List ℕ) (t c : ℕ) → t < length cs
      → any (t + 1) (λ j. ltb most_rows_one (get_or (set cs t c) j 0)) ≡ longer c (any t (λ j. ltb most_rows_one (get_or cs j 0)))
  unfolding any
  long-next cs t c h =
      let before = any-ext t (λ j. ltb most_rows_one (get_or (set cs t c) j 0)) (λ j. ltb most_rows_one (get_or cs j 0))
      (λ j b. ap (ltb most_rows_one) (get_or-set_other cs t j c 0 (λ z. omega arith))) in
      rw (add-one, get_or-set_same cs t c 0 h, before) refl

  end-says : (v m n t : ℕ) (xs cs : List ℕ) (i : ℕ) (l : Bool) → t ≡ n → any t (λ j. ltb most_rows_one (get_or cs j 0)) ≡ l
      → (tables_end s v (given m n xs cs) i).verdict ≡ tables_say 0 v m 0 l i
  unfolding tables_end tables_say needless some_long
  end-says v m n t xs cs i l e h = rw (← e, h) (by (ltb i (length s)) (eqb v version_two && not l))
    where
      by : (b d : Bool)
          → (cond b (refused (refusal_at 9 i 0)) (cond d (refused (refusal_at 20 0 0)) (record { verdict = Good; catalogue = filled (given m t xs cs) }))).verdict
          ≡ cond b (Refused (refusal_at 9 i 0)) (cond d (Refused (refusal_at 20 0 0)) Good)
      by true d = refl
      by false true = refl
      by false false = refl

  tables-say : (k v m n t u : ℕ) (xs cs : List ℕ) (i : ℕ) (l : Bool) → t + k ≡ n → n ≤ length cs → any t (λ j. ltb most_rows_one (get_or cs j 0)) ≡ l
      → (tables_from k s v room m n t u xs cs i).verdict ≡ tables_say k v m u l i
  unfolding tables_from tables_say
  tables-say zero v m n t u xs cs i l e b h = end-says v m n t xs cs i l (omega arith) h
  tables-say (suc k) v m n t u xs cs i l e b h =
      by (table_at s v room m u i)
      (λ x c w j. tables-say k v m n (t + 1) w (set xs t x) (set cs t c) j (longer c l) (omega arith) (rw (length-set cs t c) b)
      (long-next cs t c (omega arith) ∙ ap (longer c) h))
    where
      by : (o : Entry) → ((x c w j : ℕ) → (tables_from k s v room m n (t + 1) w (set xs t x) (set cs t c) j).verdict ≡ tables_say k v m w (longer c l) j)
          → (on_entry o (λ x c w j. tables_from k s v room m n (t + 1) w (set xs t x) (set cs t c) j) refused).verdict ≡ entry_says v m k l o
      by (Table x c w j) ih = ih x c w j
      by (TableFault f) ih = refl

  field-says : (o : Field) (go : ℕ → ℕ → Loaded) (say : ℕ → ℕ → Verdict) → ((x n : ℕ) → o ≡ Value x n → (go x n).verdict ≡ say x n)
      → (on_field o go).verdict ≡ field_says o say
  field-says (Value x n) go say h = h x n refl
  field-says (FieldFault f) go say h = refl

  abbrev size_loaded : ℕ → ℕ → ℕ → Loaded
  size_loaded v m j = on_field (field_at s j 1 most_tables 4) (λ n k. tables_from n s v room m n 0 0 (replicate 8 0) (replicate 8 0) k)

  abbrev head_loaded : ℕ → ℕ → Loaded
  head_loaded v i = on_field (field_at s i 1 most_attributes 4) (λ m j. size_loaded v m j)

  size-says : (v m j : ℕ) → (size_loaded v m j).verdict ≡ size_says v m j
  unfolding any
  size-says v m j =
      field-says (field_at s j 1 most_tables 4) (λ n k. tables_from n s v room m n 0 0 (replicate 8 0) (replicate 8 0) k) (λ n k. tables_say n v m 0 false k)
      (λ n k e. tables-say n v m n 0 0 (replicate 8 0) (replicate 8 0) k false (omega arith) (good-field s j 1 most_tables 4 n k e).high-bound refl)

  head-says : (v i : ℕ) → (head_loaded v i).verdict ≡ head_says v i
  head-says v i = field-says (field_at s i 1 most_attributes 4) (λ m j. size_loaded v m j) (λ m j. size_says v m j) (λ m j e. size-says v m j)

  scan-says : (scan_of s room).verdict ≡ says the_version 0
  unfolding scan_of says
  scan-says = field-says (field_at s 0 version_one version_two 3) (λ v i. head_loaded v i) (λ v i. head_says v i) (λ v i e. head-says v i)

  -- ---- a field

  module _ (i low high f : ℕ) (go : ℕ → ℕ → Verdict) where
    field-passes : (x j : ℕ) → decode s i ≡ Number x j → low ≤ x → x ≤ high → field_says (field_at s i low high f) go ≡ go x j
    field-passes x j e l h = rw (field_in s i low high f x j e (inside low high x l h))

    out : (x : ℕ) → (x < low) ⊎ (high < x) → outside low high x ≡ true
    out x (inl h) = below low high x h
    out x (inr h) =
        elim (dec_lt x low) [
          | yes l ↦ below low high x l
          | no l ↦ above low high x (omega arith) h
        ]

    field-meets : (x j : ℕ) → decode s i ≡ Number x j → (x < low) ⊎ (high < x) → field_says (field_at s i low high f) go ≡ Refused (refusal_at f i 0)
    field-meets x j e h = rw (field_out s i low high f x j e (out x h))

    field-faulty : (k c : ℕ) → decode s i ≡ NumberFault k c → field_says (field_at s i low high f) go ≡ Refused (refusal_at k i c)
    field-faulty k c e = rw (field-bad s i low high f k c e)

  -- ---- a table

  module _ (v m k u : ℕ) (l : Bool) (i x j : ℕ) (e : decode s i ≡ Number x j) where
    scheme-passes : 0 < x → x < 2 ^ m → tables_say (suc k) v m u l i ≡ entry_says v m k l (count_at s v room x u j)
    unfolding tables_say
    scheme-passes z h = rw (table-count s v room m u i x j e (scheme-good m x (λ q. omega arith) h))

    scheme-meets : (x ≡ 0) ⊎ (2 ^ m ≤ x) → tables_say (suc k) v m u l i ≡ Refused (refusal_at 5 i 0)
    unfolding tables_say
    scheme-meets (inl z) = rw (table-scheme s v room m u i x j e (scheme-zero m x z))
    scheme-meets (inr h) = rw (table-scheme s v room m u i x j e (scheme-high m x (λ q. omega (arith, pow_pos m)) h))

  entry-walk : (v m k u : ℕ) (l : Bool) (x c : ℕ) (r : Walk) → entry_says v m k l (entry_of x c u r) ≡ walk_says v m k u (longer c l) r
  entry-walk v m k u l x c (To n) = refl
  entry-walk v m k u l x c (WalkFault f) = refl

  module _ (v m k u : ℕ) (l : Bool) (x i c j : ℕ) (e : decode s i ≡ Number c j) where
    count-passes : c ≤ most_rows_in v → u + c * ones x ≤ most_cells → u + c * ones x ≤ room
        → entry_says v m k l (count_at s v room x u i) ≡ walk_says v m k (u + c * ones x) (longer c l) (rows_from c (ones x) s v true 0 j)
    count-passes h a b =
        rw (count-rows s v room x u i c j e (count-good (most_rows_in v) room u x c h a b))
        (entry-walk v m k (u + c * ones x) l x c (rows_from c (ones x) s v true 0 j))

    count_meets : (f : ℕ) → count_fault (most_rows_in v) room u x c ≡ suc f → entry_says v m k l (count_at s v room x u i) ≡ Refused (refusal_at (suc f) i 0)
    count_meets f h = rw (count-fault s v room x u i c j e (λ z. omega arith), h)

  many : (most u x c : ℕ) → c ≤ most → (most_cells < u + c * ones x) ⊎ (room < u + c * ones x) → count_fault most room u x c ≡ 8
  many most u x c h (inl a) = count_most most room u x c h a
  many most u x c h (inr a) =
      elim (dec_lt most_cells (u + c * ones x)) [
        | yes l ↦ count_most most room u x c h l
        | no l ↦ count-lent most room u x c h (omega arith) a
      ]

  -- ---- what is not at fault changes nothing

  rises : (w : ℕ) (b : Before) (p : ℕ) → Rises s w b p → rises_at w b p ≡ true
  rises w none p h = refl
  rises w (row_at q) p h = h

  valued : (v w p : ℕ) → Valued s v w p → blank v (codes w s p) ≡ false
  valued v w p h =
      elim (ℕ_discrete v version_two) [
        | yes e ↦ blank-two v (codes w s p) e ∙ h e
        | no e ↦ blank-other v (codes w s p) e
      ]

  one-or-two : (v : ℕ) → (v ≡ version_one) ⊎ (v ≡ version_two) → (version_one ≤ v) × (v ≤ version_two)
  one-or-two v (inl e) = (omega arith, omega arith)
  one-or-two v (inr e) = (omega arith, omega arith)

  keeps : {d e : Due} {i j : ℕ} → Passes s room d i e j → says d i ≡ says e j
  unfolding says run_end rows_from
  keeps (version-is {i = i} {j = j} {v = v} e h) =
      let (a, b) = one-or-two v h in
      field-passes i version_one version_two 3 (λ v n. head_says v n) v j e a b
  keeps (m-is {i = i} {j = j} {v = v} {m = m} e l h) = field-passes i 1 most_attributes 4 (λ x n. size_says v x n) m j e l h
  keeps (n-is {i = i} {j = j} {v = v} {m = m} {n = n} e l h) = field-passes i 1 most_tables 4 (λ x q. tables_say x v m 0 false q) n j e l h
  keeps (scheme-is {i = i} {j = j} {v = v} {m = m} {k = k} {u = u} {x = x} {l = l} e z h) = scheme-passes v m k u l i x j e z h
  keeps (count-is {i = i} {j = j} {v = v} {m = m} {k = k} {u = u} {x = x} {c = c} {l = l} e h a b) = count-passes v m k u l x i c j e h a b
  keeps row-begins = refl
  keeps (cell-is e) = rw e
  keeps (row-rises {v = v} {x = x} {p = p} {b = b} g h) = rw (valued v (ones x) p g, rises (ones x) b p h)
  keeps rows_end = refl

  -- ---- what is at fault decides

  number-decides : (d : Due) (i f l : ℕ) → NumberDue d → decode s i ≡ NumberFault f l → says d i ≡ Refused (refusal_at f i l)
  unfolding says tables_say run_end
  number-decides the_version i f c h e = field-faulty i version_one version_two 3 (λ v n. head_says v n) f c e
  number-decides (attributes v) i f c h e = field-faulty i 1 most_attributes 4 (λ x n. size_says v x n) f c e
  number-decides (tables v m) i f c h e = field-faulty i 1 most_tables 4 (λ x q. tables_say x v m 0 false q) f c e
  number-decides (table v m zero u l) i f c h e = absurd h
  number-decides (table v m (suc k) u l) i f c h e = rw (table-bad s v room m u i f c e)
  number-decides (row_count v m k u l x) i f c h e = rw (count-bad s v room x u i f c e)
  number-decides (rows v m k u l x r b) i f c h e = absurd h
  number-decides (cells v m k u l x r b p zero) i f c h e = absurd h
  number-decides (cells v m k u l x r b p (suc w)) i f c h e = rw e

  neither : (v : ℕ) → (v ≡ version_one → ⊥) → (v ≡ version_two → ⊥) → (v < version_one) ⊎ (version_two < v)
  neither v h g =
      elim (dec_lt v version_one) [
        | yes l ↦ inl l
        | no l ↦ elim (dec_lt version_two v) [
          | yes r ↦ inr r
          | no r ↦ elim (dec_lt version_one v) [
            | yes q ↦ absurd (g (omega arith))
            | no q ↦ absurd (h (omega arith))
          ]
        ]
      ]

  decides : {d : Due} {i : ℕ} {f : Fault} → Meets s room d i f → says d i ≡ Refused f
  unfolding says tables_say run_end
  decides (number {d = d} {i = i} {f = f} {c = c} h e) = number-decides d i f c h e
  decides (other-version {i = i} {j = j} {v = v} e h g) = field-meets i version_one version_two 3 (λ x n. head_says x n) v j e (neither v h g)
  decides (m-out {i = i} {j = j} {v = v} {m = m} e h) = field-meets i 1 most_attributes 4 (λ x n. size_says v x n) m j e h
  decides (n-out {i = i} {j = j} {v = v} {m = m} {n = n} e h) = field-meets i 1 most_tables 4 (λ x q. tables_say x v m 0 false q) n j e h
  decides (bad-scheme {i = i} {j = j} {v = v} {m = m} {k = k} {u = u} {x = x} {l = l} e h) = scheme-meets v m k u l i x j e h
  decides (many-rows {i = i} {j = j} {v = v} {m = m} {k = k} {u = u} {x = x} {c = c} {l = l} e h) =
      count_meets v m k u l x i c j e 5 (count-many (most_rows_in v) room u x c h)
  decides (many-cells {i = i} {j = j} {v = v} {m = m} {k = k} {u = u} {x = x} {c = c} {l = l} e h a) =
      count_meets v m k u l x i c j e 7 (many (most_rows_in v) u x c h a)
  decides (all-null {x = x} {p = p} h) = rw (blank-two version_two (codes (ones x) s p) refl, h)
  decides (not-rising {v = v} {x = x} {p = p} g h) = rw (valued v (ones x) p g, h)
  decides (surplus {i = i} h) = rw (lt-ltb i (length s) h)
  decides (no-need {i = i} h) = rw (le-ltb i (length s) h)

  -- ---- so a load says it

  reached : {d : Due} {i : ℕ} → Reaches s room d i → (scan_of s room).verdict ≡ says d i
  reached start = scan-says
  reached (on r p) = reached r ∙ keeps p

  pub fault-refused : (f : Fault) → FirstFault s room f → (scan_of s room).verdict ≡ Refused f
  fault-refused f (d, i, r, h) = reached r ∙ decides h

  needed : (v : ℕ) (l : Bool) → (v ≡ version_two → l ≡ true) → (eqb v version_two && not l) ≡ false
  needed v l h =
      elim (ℕ_discrete v version_two) [
        | yes e ↦ rw (eq-eqb v version_two e, h e)
        | no e ↦ rw (ne_eqb v version_two e)
      ]

  pub whole-good : ReadWhole s room → (scan_of s room).verdict ≡ Good
  unfolding says tables_say
  whole-good (v, m, u, l, i, r, h, n) = reached r ∙ rw (le-ltb i (length s) h, needed v l n)
