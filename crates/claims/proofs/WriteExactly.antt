-- The writer's refusals, each exactly when. What carries the proof: the writer is the catalogue's check, then a scan of the tables' rows, then the room.
-- Assumes nothing.
use Prim.Native.Nat.{ℕ, zero, suc, ◌≤◌, ◌<◌}
use native.Mathlib.Omega.{arith}
use mathlib.Core.Path.{◌≡◌, refl, sym, ap, ◌∙◌}
use mathlib.Core.Logic.Iff
use mathlib.Core.Logic.{◌⊎◌, ◌↔◌, inl, inr, ⊎_elim}
use mathlib.Core.Bool.{Bool, true, false}
use mathlib.Core.List.{List}
use lib.ListN.{length}
use lib.Dec.{ltb, eqb}
use borrow.Author.Tests.{eqb-true, eqb-false}
use Rattle.tables.specs.declared.Catalogue.{Catalogue}
use Rattle.tables.specs.Checks.{first_met, catalogue_fault, Lawful}
use Rattle.tables.proofs.CheckLaws.{first-none, first-clear, fault-lawful, lawful-fault}
use Rattle.writer.specs.Written.{Written, Length, Refused}
use Rattle.writer.specs.Write.{image_of, rows_refusal, cells_fault, write_fault, length_fault, written_of, written}
use Rattle.claims.specs.CatalogueRefusals.{OfCatalogue}
use Rattle.claims.specs.WriteRefusals.{GoodRows, WritesTo, WritesAll, WriteExact}
use Rattle.claims.proofs.ScanLaws.{lt_iff, Where, Case, case-of, last-iff, first-iff, scan, scan-of, meets-iff, meets-none}
use Rattle.claims.proofs.CatalogueExactly.{catalogue-exact, catalogue-not}
use Rattle.claims.proofs.RowsExactly.{Row, which-row, RowsMeet, rows-iff, rows-good}

module _ (cat : Catalogue) (cells : List ℕ) where
  -- ---- the rows of a table

  -- What it is that the rows of table t meet k, or none.
  abbrev Rows : ℕ → ℕ → Type 0
  Rows t k = Case 0 k (GoodRows cat cells t) (RowsMeet cat cells t k)

  table-iff : (t k : ℕ) → (rows_refusal cat cells t ≡ k) ↔ Rows t k
  table-iff t k = by (eqb 0 k) refl
    where
      by : (x : Bool) → eqb 0 k ≡ x → (rows_refusal cat cells t ≡ k) ↔ Where x (GoodRows cat cells t) (RowsMeet cat cells t k)
      by true z = let e = eqb-true 0 k z in (λ x. (rows-good cat cells t).0 (x ∙ sym e), λ G. (rows-good cat cells t).1 G ∙ e)
      by false z = rows-iff cat cells t k (λ e. eqb-false 0 k z (sym e))

  -- ---- the tables

  whole : cells_fault cat.n cat cells 0 ≡ scan (rows_refusal cat cells) cat.n 0
  unfolding cells_fault
  whole = scan-of (rows_refusal cat cells) (λ k t. cells_fault k cat cells t) (λ t. refl) (λ k t. refl) cat.n 0

  -- What it is that a row meets k, the catalogue being without fault.
  abbrev Some : ℕ → Type 0
  Some k = (t : ℕ) × (r : ℕ) × WritesTo cat cells t r × Row cat cells t r k

  rows-met : (k : ℕ) → (k ≡ 0 → ⊥) → Lawful cat (length cells) → (cells_fault cat.n cat cells 0 ≡ k) ↔ Some k
  rows-met k h L =
      let p = meets-iff (rows_refusal cat cells) Rows table-iff cat.n k h in (
        λ e. let (t, l, x, b) = p.0 (sym whole ∙ e) in
            let (r, s, j, y, q) = (rows-iff cat cells t k h).0 ((table-iff t k).1 x) in
            (t, r, record { lawful = L; table = l; tables = b; some = s; there = j; before = q }, y),
        λ (t, r, w, y). whole ∙ p.1 (t, w.table, (table-iff t k).0 ((rows-iff cat cells t k h).1 (r, w.some, w.there, y, w.before)), w.tables),
      )

  -- A fault is the catalogue's, or a row's.
  fault-iff : (k : ℕ) → (k ≡ 0 → ⊥) → (write_fault cat cells ≡ k) ↔ ((catalogue_fault cat (length cells) ≡ k) ⊎ Some k)
  unfolding write_fault
  fault-iff k h =
      let p = first-iff (catalogue_fault cat (length cells)) (cells_fault cat.n cat cells 0) k h in (
        λ e. ⊎_elim inl (λ (x, y). inr ((rows-met k h (fault-lawful cat (length cells) x)).0 y)) (p.0 e),
        λ s. p.1 (⊎_elim inl (λ (t, r, w, y). inr (lawful-fault cat (length cells) w.lawful, (rows-met k h w.lawful).1 (t, r, w, y))) s),
      )

  fault-catalogue : (k : ℕ) → (k ≡ 0 → ⊥) → ((t r : ℕ) → Row cat cells t r k → ⊥) → (write_fault cat cells ≡ k) ↔ (catalogue_fault cat (length cells) ≡ k)
  fault-catalogue k h no_row = (λ e. ⊎_elim (λ x. x) (λ (t, r, w, y). absurd (no_row t r y)) ((fault-iff k h).0 e), λ e. (fault-iff k h).1 (inl e))

  fault-row : (k : ℕ) → (k ≡ 0 → ⊥) → (catalogue_fault cat (length cells) ≡ k → ⊥) → (write_fault cat cells ≡ k) ↔ Some k
  fault-row k h no-head = (λ e. ⊎_elim (λ x. absurd (no-head x)) (λ y. y) ((fault-iff k h).0 e), λ y. (fault-iff k h).1 (inr y))

  fault-none : (write_fault cat cells ≡ 0) ↔ WritesAll cat cells
  unfolding write_fault
  fault-none =
      let p = meets-none (rows_refusal cat cells) Rows table-iff cat.n in (
        λ e. let (x, y) = first-clear (catalogue_fault cat (length cells)) (cells_fault cat.n cat cells 0) e in
            record { lawful = fault-lawful cat (length cells) x; tables = p.0 (sym whole ∙ y) },
        λ A. first-none (catalogue_fault cat (length cells)) (cells_fault cat.n cat cells 0) (lawful-fault cat (length cells) A.lawful)
            ∙ whole ∙ p.1 A.tables,
      )

-- ---- the answer

abbrev tag : Written → ℕ
tag (Length n) = 0
tag (Refused k) = 1

abbrev number : Written → ℕ
number (Length n) = n
number (Refused k) = k

-- A refusal is the fault, which is then not 0; a length is given where there is none.
refused-iff : (f len k : ℕ) → (written_of f len ≡ Refused k) ↔ ((k ≡ 0 → ⊥) × (f ≡ k))
refused-iff zero len k = (λ e. absurd (omega (arith, ap tag e)), λ (h, e). absurd (h (sym e)))
refused-iff (suc f) len k = (λ e. let z : suc f ≡ k = ap number e in (λ y. absurd (omega arith), z), λ (h, e). ap Refused e)

length-iff : (f len n : ℕ) → (written_of f len ≡ Length n) ↔ ((f ≡ 0) × (n ≡ len))
length-iff zero len n = (λ e. (refl, sym (ap number e)), λ (z, e). ap Length (sym e))
length-iff (suc f) len n = (λ e. absurd (omega (arith, ap tag e)), λ (z, e). absurd (omega arith))

module _ (cat : Catalogue) (cells : List ℕ) (room : ℕ) where
  abbrev size : ℕ
  size = length (image_of cat cells)

  -- What it is that the room meets k.
  abbrev Room : ℕ → Type 0
  Room k = Case 11 k (room < size) (Case 0 k (room < size → ⊥) ⊥)

  room-iff : (k : ℕ) → (length_fault cat cells room ≡ k) ↔ Room k
  unfolding length_fault
  room-iff = last-iff (ltb room size) (lt_iff room size) 11 (λ z. absurd (omega arith))

  -- A refusal is met before the room is looked at, or by the room.
  write-iff : (k : ℕ) → (k ≡ 0 → ⊥) → (written cat cells room ≡ Refused k) ↔ ((write_fault cat cells ≡ k) ⊎ (WritesAll cat cells × Room k))
  unfolding written
  write-iff k h =
      let p = refused-iff (first_met (write_fault cat cells) (length_fault cat cells room)) size k in
      let q = first-iff (write_fault cat cells) (length_fault cat cells room) k h in
      let z = fault-none cat cells in (
        λ e. ⊎_elim inl (λ (x, y). inr (z.0 x, (room-iff k).0 y)) (q.0 (p.0 e).1),
        λ s. p.1 (h, q.1 (⊎_elim inl (λ (x, y). inr (z.1 x, (room-iff k).1 y)) s)),
      )

  -- Any but 11 is met before it.
  write-fault : (k : ℕ) → (k ≡ 0 → ⊥) → (Room k → ⊥) → (written cat cells room ≡ Refused k) ↔ (write_fault cat cells ≡ k)
  write-fault k h n = let p = write-iff k h in (λ e. ⊎_elim (λ x. x) (λ (a, r). absurd (n r)) (p.0 e), λ e. p.1 (inl e))

  -- 11 is met last.
  write-eleven : (written cat cells room ≡ Refused 11) ↔ (WritesAll cat cells × (room < size))
  write-eleven =
      let p = write-iff 11 (λ z. absurd (omega arith)) in
      let q = fault-row cat cells 11 (λ z. absurd (omega arith)) (catalogue-not cat (length cells) 11 refl) in (
        λ e. ⊎_elim (λ f. let (t, r, w, x) = q.0 f in absurd x.1.1) (λ s. s) (p.0 e),
        λ s. p.1 (inr s),
      )

  write-length : (n : ℕ) → (written cat cells room ≡ Length n) ↔ (WritesAll cat cells × (size ≤ room) × (n ≡ size))
  unfolding written
  write-length n =
      let p = length-iff (first_met (write_fault cat cells) (length_fault cat cells room)) size n in
      let z = fault-none cat cells in (
        λ e. let (f, d) = p.0 e in
            let (x, y) = first-clear (write_fault cat cells) (length_fault cat cells room) f in
            (z.0 x, omega (arith, (room-iff 0).0 y), d),
        λ (A, l, d). p.1 (first-none (write_fault cat cells) (length_fault cat cells room) (z.1 A) ∙ (room-iff 0).1 (λ h. absurd (omega arith)), d),
      )

  -- ---- no other

  -- The refusals of the writer.
  abbrev Listed : ℕ → Type 0
  Listed k = OfCatalogue k ⊎ (k ≡ 10) ⊎ (k ≡ 21) ⊎ (k ≡ 7) ⊎ (k ≡ 11)

  module _ (k : ℕ) (h : k ≡ 0 → ⊥) where
    listed-row : (k ≡ 0) ⊎ (k ≡ 10) ⊎ (k ≡ 21) ⊎ (k ≡ 7) → Listed k
    listed-row (inl z) = absurd (h z)
    listed-row (inr (inl e)) = inr (inl e)
    listed-row (inr (inr (inl e))) = inr (inr (inl e))
    listed-row (inr (inr (inr e))) = inr (inr (inr (inl e)))

    listed-room : Room k → Listed k
    listed-room r =
        ⊎_elim (λ e. inr (inr (inr (inr e))))
        (λ x. absurd (⊎_elim h (λ n. n) (case-of 0 k (room < size → ⊥) ⊥ x)))
        (case-of 11 k (room < size) _ r)

    listed-fault : write_fault cat cells ≡ k → Listed k
    listed-fault e =
        ⊎_elim (λ x. ⊎_elim (λ z. absurd (h z)) inl ((catalogue-exact cat (length cells)).no_other k x)) (λ (t, r, w, y). listed-row (which-row cat cells t r k y))
        ((fault-iff cat cells k h).0 e)

  write-other : (k : ℕ) → written cat cells room ≡ Refused k → Listed k
  unfolding written
  write-other k e =
      let h = ((refused-iff (first_met (write_fault cat cells) (length_fault cat cells room)) size k).0 e).0 in
      ⊎_elim (listed-fault k h) (λ (A, r). listed-room k h r) ((write-iff k h).0 e)

  -- ---- each

  write-catalogue : {A : Type 0} (k : ℕ) → (k ≡ 0 → ⊥) → (Room k → ⊥) → ((t r : ℕ) → Row cat cells t r k → ⊥) → ((catalogue_fault cat (length cells) ≡ k) ↔ A)
      → (written cat cells room ≡ Refused k) ↔ A
  write-catalogue k h n no_row p = Iff.trans (write-fault k h n) (Iff.trans (fault-catalogue cat cells k h no_row) p)

  write-row : (k : ℕ) → (k ≡ 0 → ⊥) → (Room k → ⊥) → (catalogue_fault cat (length cells) ≡ k → ⊥) → (written cat cells room ≡ Refused k) ↔ Some cat cells k
  write-row k h n no-head = Iff.trans (write-fault k h n) (fault-row cat cells k h no-head)

  pub write-exact : WriteExact cat cells room
  write-exact =
      let c = catalogue-exact cat (length cells) in
      record {
        refusal-4 = write-catalogue 4 (λ z. absurd (omega arith)) (λ r. r) (λ t r x. x.1.1) c.refusal-4;
        refusal-5 = write-catalogue 5 (λ z. absurd (omega arith)) (λ r. r) (λ t r x. x.1.1) c.refusal-5;
        refusal-6 = write-catalogue 6 (λ z. absurd (omega arith)) (λ r. r) (λ t r x. x.1.1) c.refusal-6;
        refusal-8 = write-catalogue 8 (λ z. absurd (omega arith)) (λ r. r) (λ t r x. x.1.1) c.refusal-8;
        refusal-16 = write-catalogue 16 (λ z. absurd (omega arith)) (λ r. r) (λ t r x. x.1.1) c.refusal-16;
        refusal-10 = write-row 10 (λ z. absurd (omega arith)) (λ r. r) (catalogue-not cat (length cells) 10 refl);
        refusal-21 =
            let p = write-row 21 (λ z. absurd (omega arith)) (λ r. r) (catalogue-not cat (length cells) 21 refl) in
            (λ e. let (t, r, w, (h, x)) = p.0 e in (t, r, w, h, x), λ (t, r, w, h, x). p.1 (t, r, w, (h, x)));
        refusal-7 =
            let p = write-row 7 (λ z. absurd (omega arith)) (λ r. r) (catalogue-not cat (length cells) 7 refl) in
            (λ e. let (t, r, w, (h, (g, x))) = p.0 e in (t, r, w, h, g, x), λ (t, r, w, h, g, x). p.1 (t, r, w, (h, (g, x))));
        refusal-11 = write-eleven;
        accepts = write-length;
        no_other = write-other;
      }
