-- Demand 1 of the loader and of the C door: each refusal exactly when. Whatever is due is at fault or leads to what is due next, and there is less to
-- come each time (cells, rows, tables): so every reading meets a fault or comes to the end, and LoadSays has what a load says then. Assumes nothing.
use Prim.Native.Nat.{ℕ, zero, suc, ◌+◌, ◌*◌, ◌^◌, ◌≤◌, ◌<◌}
use native.Mathlib.Decide.{dec_lt, ℕ_discrete}
use native.Mathlib.Omega.{arith}
use mathlib.Core.Path.{◌≡◌, refl, ap, ap₂, subst}
use mathlib.Core.Logic.{◌⊎◌, inl, inr}
use mathlib.Core.Bool.{Bool, true, false}
use mathlib.Core.List.{List}
use lib.ListN.{length}
use lib.Count.{ones}
use Rattle.numbers.specs.Readings.{Reading, Number, NumberFault}
use Rattle.numbers.specs.Numbers.{decode}
use Rattle.tables.specs.Sizes.{most_attributes, most_tables, most_cells, version_one, version_two}
use Rattle.tables.specs.Versions.{most_rows_in}
use Rattle.tables.specs.Rows.{below, all_null}
use Rattle.loader.specs.Faults.{Fault, Verdict, Good, Refused}
use Rattle.loader.specs.Reading.{refusal_at, codes}
use Rattle.loader.specs.Load.{scan_of}
use Rattle.verdicts.specs.Number.{door_number}
use Rattle.door.specs.Door.{check_of}
use Rattle.door.proofs.DoorLaws.{door-tells}
use Rattle.claims.specs.LoadRefusals.{Before, none, row_at, Due, the_version, attributes, tables, table, row_count, rows, cells, longer, NumberDue, Valued, version-is, m-is, n-is, scheme-is, count-is, row-begins, cell-is, row-rises, rows_end, Meets, number, other-version, m-out, n-out, bad-scheme, many-rows, many-cells, all-null, not-rising, surplus, no-need, Reaches, start, on, FirstFault, ReadWhole, LoadExact, CheckExact}
use Rattle.claims.proofs.NumberExactly.{number-exact}
use Rattle.claims.proofs.LoadSays.{fault-refused, whole-good}

module _ (s : List ℕ) (room : ℕ) where
  -- ---- every reading ends

  abbrev Ended : Type 0
  Ended = ((f : Fault) × FirstFault s room f) ⊎ ReadWhole s room

  met : {d : Due} {i : ℕ} {f : Fault} → Reaches s room d i → Meets s room d i f → Ended
  met {d} {i} {f} r h = inl (f, (d, i, r, h))

  -- Where a number is due, its own fault ends the reading; else its meaning decides.
  read : (d : Due) (i : ℕ) → NumberDue d → Reaches s room d i → ((x j : ℕ) → decode s i ≡ Number x j → Ended) → Ended
  read d i n r go = by (decode s i) refl
    where
      by : (o : Reading) → decode s i ≡ o → Ended
      by (Number x j) e = go x j e
      by (NumberFault f c) e = met r (number n e)

  module _ (v m k u : ℕ) (l : Bool) (x : ℕ) where
    through-cells : (c : ℕ) (b : Before) (p w : ℕ) → ((j : ℕ) → Reaches s room (cells v m k u l x c b p 0) j → Ended)
        → (i : ℕ) → Reaches s room (cells v m k u l x c b p w) i → Ended
    through-cells c b p zero go i r = go i r
    through-cells c b p (suc w) go i r =
        read (cells v m k u l x c b p (suc w)) i tt r (λ d j e. through-cells c b p w go j (on r (cell-is e)))

    -- Behind the last cell of a row that has a value, or may be without one.
    row-order : (c : ℕ) (b : Before) (p : ℕ) → Valued s v (ones x) p → ((j : ℕ) → Reaches s room (rows v m k u l x c (row_at p)) j → Ended)
        → (i : ℕ) → Reaches s room (cells v m k u l x c b p 0) i → Ended
    row-order c none p f go i r = go i (on r (row-rises f tt))
    row-order c (row_at q) p f go i r = by (below (codes (ones x) s q) (codes (ones x) s p)) refl
      where
        by : (t : Bool) → below (codes (ones x) s q) (codes (ones x) s p) ≡ t → Ended
        by true h = go i (on r (row-rises f h))
        by false h = met r (not-rising f h)

    row-end : (c : ℕ) (b : Before) (p : ℕ) → ((j : ℕ) → Reaches s room (rows v m k u l x c (row_at p)) j → Ended)
        → (i : ℕ) → Reaches s room (cells v m k u l x c b p 0) i → Ended
    row-end c b p go i r = by (all_null (codes (ones x) s p)) refl (ℕ_discrete v version_two)
      where
        by : (t : Bool) → all_null (codes (ones x) s p) ≡ t → Dec (v ≡ version_two) → Ended
        by false h d = row-order c b p (λ e. h) go i r
        by true h (yes e) = met (subst (λ (w : ℕ). Reaches s room (cells w m k u l x c b p 0) i) e r) (all-null h)
        by true h (no e) = row-order c b p (λ z. absurd (e z)) go i r

    through-rows : (c : ℕ) (b : Before) → ((j : ℕ) → Reaches s room (table v m k u l) j → Ended) → (i : ℕ) → Reaches s room (rows v m k u l x c b) i → Ended
    through-rows zero b go i r = go i (on r rows_end)
    through-rows (suc c) b go i r =
        through-cells c b i (ones x) (row-end c b i (through-rows c (row_at i) go)) i (on r row-begins)

  through-count : (v m k u : ℕ) (l : Bool) (x c i j : ℕ) → decode s i ≡ Number c j → ((w : ℕ) (g : Bool) (q : ℕ) → Reaches s room (table v m k w g) q → Ended)
      → Reaches s room (row_count v m k u l x) i → Ended
  through-count v m k u l x c i j e go r =
      elim (dec_lt (most_rows_in v) c) [
        | yes h ↦ met r (many-rows e h)
        | no h ↦ elim (dec_lt most_cells (u + c * ones x)) [
          | yes a ↦ met r (many-cells e (omega arith) (inl a))
          | no a ↦ elim (dec_lt room (u + c * ones x)) [
            | yes b ↦ met r (many-cells e (omega arith) (inr b))
            | no b ↦
                through-rows v m k (u + c * ones x) (longer c l) x c none (go (u + c * ones x) (longer c l)) j
                (on r (count-is e (omega arith) (omega arith) (omega arith)))
          ]
        ]
      ]

  through-scheme : (v m k u : ℕ) (l : Bool) (x i j : ℕ) → decode s i ≡ Number x j → ((w : ℕ) (g : Bool) (q : ℕ) → Reaches s room (table v m k w g) q → Ended)
      → Reaches s room (table v m (suc k) u l) i → Ended
  through-scheme v m k u l x i j e go r =
      elim (dec_lt 0 x) [
        | no h ↦ met r (bad-scheme e (inl (omega arith)))
        | yes h ↦ elim (dec_lt x (2 ^ m)) [
          | no b ↦ met r (bad-scheme e (inr (omega arith)))
          | yes b ↦
              let q = on r (scheme-is e h b) in
              read (row_count v m k u l x) j tt q (λ c n f. through-count v m k u l x c j n f go q)
        ]
      ]

  -- Behind the last table, where nothing follows: version 2 has to be needed.
  whole : (v m u : ℕ) (l : Bool) (i : ℕ) → length s ≤ i → Reaches s room (table v m 0 u l) i → Ended
  whole v m u true i h r = inr (v, m, u, true, i, r, h, λ e. refl)
  whole v m u false i h r =
      elim (ℕ_discrete v version_two) [
        | yes e ↦ met (subst (λ (x : ℕ). Reaches s room (table x m 0 u false) i) e r) (no-need h)
        | no e ↦ inr (v, m, u, false, i, r, h, λ z. absurd (e z))
      ]

  through-tables : (v m k u : ℕ) (l : Bool) (i : ℕ) → Reaches s room (table v m k u l) i → Ended
  through-tables v m zero u l i r =
      elim (dec_lt i (length s)) [
        | yes h ↦ met r (surplus h)
        | no h ↦ whole v m u l i (omega arith) r
      ]
  through-tables v m (suc k) u l i r =
      read (table v m (suc k) u l) i tt r (λ x j e. through-scheme v m k u l x i j e (through-tables v m k) r)

  -- A number out of its range, or in it.
  ranged : (low high x : ℕ) → ((x < low) ⊎ (high < x) → Ended) → (low ≤ x → x ≤ high → Ended) → Ended
  ranged low high x out in-range =
      elim (dec_lt x low) [
        | yes h ↦ out (inl h)
        | no h ↦ elim (dec_lt high x) [
          | yes l ↦ out (inr l)
          | no l ↦ in-range (omega arith) (omega arith)
        ]
      ]

  through-size : (v m i : ℕ) → Reaches s room (tables v m) i → Ended
  through-size v m i r =
      read (tables v m) i tt r (λ n j e. ranged 1 most_tables n (λ h. met r (n-out e h)) (λ l h. through-tables v m n 0 false j (on r (n-is e l h))))

  through-head : (v i : ℕ) → Reaches s room (attributes v) i → Ended
  through-head v i r =
      read (attributes v) i tt r (λ m j e. ranged 1 most_attributes m (λ h. met r (m-out e h)) (λ l h. through-size v m j (on r (m-is e l h))))

  ended : Ended
  ended = read the_version 0 tt start (λ v j e. by v j e (ℕ_discrete v version_one) (ℕ_discrete v version_two))
    where
      by : (v j : ℕ) → decode s 0 ≡ Number v j → Dec (v ≡ version_one) → Dec (v ≡ version_two) → Ended
      by v j e (yes h) d = through-head v j (on start (version-is e (inl h)))
      by v j e (no h) (yes g) = through-head v j (on start (version-is e (inr g)))
      by v j e (no h) (no g) = met start (other-version e h g)

  -- ---- so each refusal is given exactly when

  one-refusal : (o : Verdict) (f g : Fault) → o ≡ Refused f → o ≡ Refused g → g ≡ f
  one-refusal o f g a b = cc

  not-both : {A : Type 0} (o : Verdict) (f : Fault) → o ≡ Refused f → o ≡ Good → A
  not-both o f a b = absurd (let z : ◌≡◌ {A = ℕ} 0 1 = cc in omega arith)

  refused-fault : (f : Fault) → (scan_of s room).verdict ≡ Refused f → Ended → FirstFault s room f
  refused-fault f e (inr w) = not-both (scan_of s room).verdict f e (whole-good s room w)
  refused-fault f e (inl (g, h)) = subst (FirstFault s room) (one-refusal (scan_of s room).verdict f g e (fault-refused s room g h)) h

  good-whole : (scan_of s room).verdict ≡ Good → Ended → ReadWhole s room
  good-whole e (inr w) = w
  good-whole e (inl (g, h)) = not-both (scan_of s room).verdict g (fault-refused s room g h) e

  pub load-exact : LoadExact s room
  load-exact =
      record {
        refuses = λ f. (λ e. refused-fault f e ended, fault-refused s room f);
        accepts = (λ e. good-whole e ended, whole-good s room);
      }

-- ---- the C door

-- No refusal is 0, which the door keeps for good.
pub some-refusal : (s : List ℕ) (room : ℕ) {d : Due} {i : ℕ} {f : Fault} → Meets s room d i f → 0 < f.refusal
some-refusal s room (number {i = i} {f = f} {c = c} n e) = by ((number-exact s i).no_other f c e)
  where
    by : (f ≡ 1) ⊎ ((f ≡ 2) ⊎ (f ≡ 17)) → 0 < f
    by (inl h) = omega arith
    by (inr (inl h)) = omega arith
    by (inr (inr h)) = omega arith
some-refusal s room (other-version e h g) = omega arith
some-refusal s room (m-out e h) = omega arith
some-refusal s room (n-out e h) = omega arith
some-refusal s room (bad-scheme e h) = omega arith
some-refusal s room (many-rows e h) = omega arith
some-refusal s room (many-cells e h a) = omega arith
some-refusal s room (all-null h) = omega arith
some-refusal s room (not-rising g h) = omega arith
some-refusal s room (surplus h) = omega arith
some-refusal s room (no-need h) = omega arith

module _ (s : List ℕ) where
  says-door : (v : Verdict) → (scan_of s most_cells).verdict ≡ v → check_of s ≡ door_number v
  unfolding check_of
  says-door v e = rw e

  door-refused : (k p : ℕ) → k < 32 → 0 < k → check_of s ≡ p * 32 + k → (v : Verdict) → (scan_of s most_cells).verdict ≡ v
      → (c : ℕ) × (v ≡ Refused (refusal_at k p c))
  door-refused k p l z q Good e = absurd (omega (arith, says-door Good e))
  door-refused k p l z q (Refused f) e =
      let t = door-tells s f e in
      let b : f.refusal ≡ k = omega arith in
      let d : f.place ≡ p = omega arith in
      (f.looked, ap Refused (ap₂ (λ (x y : ℕ). refusal_at x y f.looked) b d))

  door-good : check_of s ≡ 0 → (v : Verdict) → (scan_of s most_cells).verdict ≡ v → v ≡ Good
  door-good c Good e = refl
  door-good c (Refused f) e =
      let (d, i, r, h) = ((load-exact s most_cells).refuses f).0 e in
      absurd (omega (arith, some-refusal s most_cells h, says-door (Refused f) e))

  pub check-exact : CheckExact s
  check-exact =
      record {
        refuses = λ k p l z. (
          λ q.
              let (c, e) = door-refused k p l z q (scan_of s most_cells).verdict refl in
              (c, ((load-exact s most_cells).refuses (refusal_at k p c)).0 e),
          λ (c, f). says-door (Refused (refusal_at k p c)) (fault-refused s most_cells (refusal_at k p c) f),
        );
        accepts = (λ c. (load-exact s most_cells).accepts.0 (door-good c (scan_of s most_cells).verdict refl), λ w. says-door Good (whole-good s most_cells w));
      }
