-- What a yes of each test says, and that it is said only then. The laws of `any` and `all` carry them. Assumes nothing.
use Prim.Native.Nat.{ℕ}
use native.Mathlib.Omega.{arith}
use native.Mathlib.Nat.{eq-zero-or-pos}
use mathlib.Core.Path.{◌≡◌}
use mathlib.Core.Logic.{◌⊎◌, inl, inr, ⊎_elim, ◌↔◌}
use mathlib.Core.Bool.{true, false, ◌&&◌, ◌||◌}
use mathlib.Core.List.{List}
use lib.ListN.{length}
use borrow.Author.Tests.{ltb-true, lt-ltb, eqb-true, eq-eqb}
use Rattle.laws.proofs.TestLaws.{clash, not_yes, and_split, and-join, or_case, or_left, or_right, any_some, any_of, all-each, all_of}
use Rattle.disjunction.specs.Sets.{Tables, at, Member, Within}
use Rattle.disjunction.specs.Rule.{Place, member, absent, near, Near, agrees, Agrees, row_test, Addable, joins, Joinable}
use Rattle.disjunction.proofs.RowSets.{member-table}

pub member-iff : (T : List ℕ) (t : ℕ) → (member T t ≡ true) ↔ Member T t
unfolding member
member-iff T t = (ltb-true 0 (at T t), lt-ltb 0 (at T t))

pub absent-iff : (T : List ℕ) (t : ℕ) → (absent T t ≡ true) ↔ (at T t ≡ 0)
unfolding absent
absent-iff T t = (eqb-true (at T t) 0, eq-eqb (at T t) 0)

module _ (W : Tables) where
  module _ (T : List ℕ) (p : Place) (long : length T ≡ W.n) where
    pub near-iff : (near W T p ≡ true) ↔ Near W T p
    unfolding near
    near-iff = (
      λ h.
          let x = any_some W.n (λ u. member T u && W.touches u p.table) h in
          let y = and_split (member T x.0) (W.touches x.0 p.table) x.2 in
          (x.0, (member-iff T x.0).0 y.0, y.1),
      λ x. any_of W.n (λ u. member T u && W.touches u p.table) x.0 (member-table W T long x.0 x.1) (and-join ((member-iff T x.0).1 x.1) x.2),
    )

    pub agrees-iff : (agrees W T p ≡ true) ↔ Agrees W T p
    unfolding agrees
    agrees-iff = (
      λ h u m.
          ⊎_elim
          (λ e. let z = (absent-iff T u).0 e in absurd (omega arith))
          (λ e. e)
          (or_case (absent T u) (W.fits u (at T u) p.table p.row)
          (all-each W.n (λ u. absent T u || W.fits u (at T u) p.table p.row) h u (member-table W T long u m))),
      λ h.
          all_of W.n (λ u. absent T u || W.fits u (at T u) p.table p.row)
          (λ u l.
          ⊎_elim
          (λ z. or_left (W.fits u (at T u) p.table p.row) ((absent-iff T u).1 z))
          (λ m. or_right (absent T u) (h u m))
          (eq-zero-or-pos (at T u))),
    )

    pub row_test-iff : (row_test W T p ≡ true) ↔ Addable W T p
    unfolding row_test
    row_test-iff = (
      λ h.
          let x = and_split (absent T p.table && near W T p) (agrees W T p) h in
          let y = and_split (absent T p.table) (near W T p) x.0 in
          record { absent = (absent-iff T p.table).0 y.0; near = near-iff.0 y.1; agrees = agrees-iff.0 x.1 },
      λ a. and-join (and-join ((absent-iff T p.table).1 a.absent) (near-iff.1 a.near)) (agrees-iff.1 a.agrees),
    )

    pub joins-iff : (joins W T p ≡ true) ↔ Joinable W T p
    unfolding joins
    joins-iff = (
      λ h.
          let x = and_split (absent T p.table) (near W T p) h in
          record { absent = (absent-iff T p.table).0 x.0; near = near-iff.0 x.1 },
      λ a. and-join ((absent-iff T p.table).1 a.absent) (near-iff.1 a.near),
    )

  -- The first part of a row test's yes, of a list of any length.
  pub row_test-absent : (T : List ℕ) (p : Place) → row_test W T p ≡ true → at T p.table ≡ 0
  unfolding row_test
  row_test-absent T p h =
      let x = and_split (absent T p.table && near W T p) (agrees W T p) h in
      (absent-iff T p.table).0 (and_split (absent T p.table) (near W T p) x.0).0

  -- ---- a row that is out of the question

  -- The row's table is present, or the row is not consistent with every member: no row test admits it, on T or on any set that contains T.
  abbrev pub Lost : List ℕ → Place → Type 0
  Lost T p = Member T p.table ⊎ (agrees W T p ≡ false)

  module _ (T : List ℕ) (p : Place) (long : length T ≡ W.n) where
    pub lost-test : Lost T p → row_test W T p ≡ false
    lost-test l =
        not_yes (row_test W T p)
        (λ y.
        let a = (row_test-iff T p long).0 y in
        ⊎_elim (λ m. absurd (omega (arith, a.absent))) (λ e. clash ((agrees-iff T p long).1 a.agrees) e) l)

    -- A row that shares an attribute with a member and gets no yes.
    pub test-lost : near W T p ≡ true → row_test W T p ≡ false → Lost T p
    test-lost n e =
        ⊎_elim
        (λ z. inr (not_yes (agrees W T p) (λ y. clash ((row_test-iff T p long).1 (record { absent = z; near = (near-iff T p long).0 n; agrees = (agrees-iff T p long).0 y })) e)))
        (λ m. inl m)
        (eq-zero-or-pos (at T p.table))

    pub lost-within : (U : List ℕ) → length U ≡ W.n → Within T U → Lost T p → Lost U p
    lost-within U long' w l =
        ⊎_elim
        (λ m. inl (rw (w p.table m) m))
        (λ e.
        inr
        (not_yes (agrees W U p)
        (λ y. clash ((agrees-iff T p long).1 (λ u m. rw (w u m) at ((agrees-iff U p long').0 y u (rw (w u m) m)))) e)))
        l
