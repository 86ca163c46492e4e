-- The extension of a JCC set is maximal. Its rounds keep the set JCC (`jcc-add`), and a JCC set on which no row test says yes is maximal, since a
-- larger one would leave it by a row whose test says yes (`crossing-yes`). Assumes nothing.
use Prim.Native.Nat.{ℕ, suc, ◌*◌, ◌≤◌, ◌<◌}
use native.Mathlib.Omega.{arith}
use native.Mathlib.Nat.{eq-zero-or-pos}
use mathlib.Core.Path.{◌≡◌, sym, ap, ◌∙◌}
use mathlib.Core.Logic.{◌⊎◌, inl, inr, ⊎_elim}
use mathlib.Core.Bool.{true, false}
use mathlib.Core.List.{List, Memᴰ}
use lib.ListN.{length}
use lib.Seq.{get_or-set_same}
use Rattle.laws.proofs.TestLaws.{clash, not_yes}
use Rattle.disjunction.specs.Sets.{Tables, Symmetric, at, Member, size, Within, Row, Valid, Consistent, JCC, Maximal}
use Rattle.disjunction.specs.Rule.{Place, row_in, add_row, rows, Agrees, row_test, Addable, walk, Grown, after, grow, extension, alone}
use Rattle.disjunction.proofs.RowSets.{sets-equal, size-pos, within-member, add-cases, add-within, member-row, valid-add, alone-long, alone_at, alone-here, alone-only}
use Rattle.disjunction.proofs.RowTests.{row_test-iff, row_test-absent}
use Rattle.disjunction.proofs.RowOrder.{in_rows, rows_all}
use Rattle.disjunction.proofs.Ways.{Crossing, cross, alone-connected, connected-add}
use Rattle.disjunction.proofs.Growing.{New, Settled, grown, grow-fuel}

module _ (W : Tables) where
  -- No row can be added to T.
  abbrev pub Closed : List ℕ → Type 0
  Closed T = (p : Place) → Row W p.table p.row → row_test W T p ≡ false

  -- ---- a JCC set on which no row test says yes is maximal

  -- The row with which U leaves T can be added to T.
  pub crossing-yes : (T U : List ℕ) → length T ≡ W.n → Consistent W U → Within T U → (x : Crossing W T U) → row_test W T (row_in U x.outer) ≡ true
  crossing-yes T U l c i x =
      (row_test-iff W T (row_in U x.outer) l).1
      (record {
        absent = x.outside;
        near = (x.inner, x.inside, x.touch);
        agrees = λ u m. rw (← i u m) (c u x.outer (λ e. let z : at T u ≡ 0 = rw e x.outside in omega arith) (within-member T U i u m) x.other);
      })

  pub closed-maximal : (T : List ℕ) → JCC W T → Closed T → Maximal W T
  closed-maximal T j c = record { jcc = j; largest = λ U k i. sets-equal T U (j.valid.long ∙ sym k.valid.long) i (λ t z. go U k i t z (eq-zero-or-pos (at U t))) }
    where
      go : (U : List ℕ) → JCC W U → Within T U → (t : ℕ) → at T t ≡ 0 → (at U t ≡ 0) ⊎ Member U t → at U t ≡ 0
      go U k i t z (inl y) = y
      go U k i t z (inr m) =
          let (s, in-T) = j.some in
          let x = cross W T U (k.connected s t (within-member T U i s in-T) m) in-T z in
          absurd (clash (crossing-yes T U j.valid.long k.consistent i x) (c (row_in U x.outer) (member-row W U k.valid x.outer x.other)))

  -- ---- a row that can be added keeps the set JCC

  -- Table u's row in E is s, or a row of T that is consistent with s.
  abbrev pub Drawn : List ℕ → Place → List ℕ → ℕ → Type 0
  Drawn T s E u = ((u ≡ s.table) × (at E u ≡ s.row)) ⊎ ((at E u ≡ at T u) × (W.fits u (at T u) s.table s.row ≡ true))

  pub drawn-consistent : Symmetric W → (T : List ℕ) (s : Place) (E : List ℕ) → Consistent W T → ((u : ℕ) → Member E u → Drawn T s E u) → Consistent W E
  drawn-consistent S T s E c from t u d m m' = go (from t m) (from u m')
    where
      go : Drawn T s E t → Drawn T s E u → W.fits t (at E t) u (at E u) ≡ true
      go (inl x) (inl y) = absurd (d (x.0 ∙ sym y.0))
      go (inl x) (inr y) = rw (x.1, y.0, x.0) (S.fit s.table s.row u (at T u) ∙ y.1)
      go (inr x) (inl y) = rw (x.0, y.1, y.0) x.1
      go (inr x) (inr y) = rw (x.0, y.0) (c t u d (rw x.0 at m) (rw y.0 at m'))

  pub consistent-add : Symmetric W → (T : List ℕ) (p : Place) → p.table < length T → Consistent W T → Agrees W T p → Consistent W (add_row T p)
  consistent-add S T p l c a =
      drawn-consistent S T p (add_row T p) c (λ u m. ⊎_elim (λ x. inl x) (λ x. inr (x.1, a u (rw x.1 at m))) (add-cases T p u l))

  pub jcc-add : Symmetric W → (T : List ℕ) (p : Place) → JCC W T → Row W p.table p.row → row_test W T p ≡ true → JCC W (add_row T p)
  jcc-add S T p j r h =
      let a : Addable W T p = (row_test-iff W T p j.valid.long).0 h in
      let l : p.table < length T = omega (arith, r.table, j.valid.long) in
      record {
        valid = valid-add W T p j.valid r;
        some = (j.some.0, within-member T (add_row T p) (add-within T p a.absent) j.some.0 j.some.1);
        consistent = consistent-add S T p l j.consistent a.agrees;
        connected = connected-add W S T p l a.absent a.near j.connected;
      }

  pub alone-jcc : (s : Place) → Row W s.table s.row → JCC W (alone W s)
  alone-jcc s r =
      record {
        valid = record {
          long = alone-long W s;
          bound = λ t. ⊎_elim (λ a. rw (a.1, a.0) r.high) (λ a. omega (arith, a.1)) (alone_at W s t r.table);
        };
        some = (s.table, omega (arith, alone-here W s r.table, r.low));
        consistent = λ t u d m m'. absurd (d (alone-only W s t r.table m ∙ sym (alone-only W s u r.table m')));
        connected = alone-connected W s r.table;
      }

  -- To a maximal set no row can be added: with `closed-maximal`, a set is maximal exactly when it is JCC and no row test says yes.
  pub maximal-closed : Symmetric W → (T : List ℕ) → Maximal W T → Closed T
  maximal-closed S T x p r =
      not_yes (row_test W T p)
      (λ e.
      let q : add_row T p ≡ T = x.largest (add_row T p) (jcc-add S T p x.jcc r e) (add-within T p (row_test-absent W T p e)) in
      let b : at T p.table ≡ p.row = ap (λ (U : List ℕ). at U p.table) (sym q) ∙ get_or-set_same T p.table p.row 0 (rw x.jcc.valid.long r.table) in
      omega (arith, r.low, row_test-absent W T p e))

  -- ---- the extension

  test-new : (T : List ℕ) (p : Place) → Memᴰ p (rows W) → row_test W T p ≡ true → New W.n T p
  test-new T p m e = let r = in_rows W p m in (row_test-absent W T p e, r.table, r.low)

  -- The extension, round by round, with no bound on the rounds: for a loop that makes them.
  pub extension-step : (T : List ℕ) → length T ≡ W.n → 0 < size T
      → extension W T ≡ after (walk (row_test W T) (rows W)) T (λ U. extension W U)
  unfolding extension grow
  extension-step T h p = grow-fuel (row_test W) (rows W) W.n test-new W.n (suc W.n) T h (omega arith) (omega arith)

  -- Whatever a row that can be added keeps, the extension keeps.
  pub extension-settled : (P : List ℕ → Type 0) → ((T : List ℕ) → P T → length T ≡ W.n)
      → ((T : List ℕ) (p : Place) → P T → Row W p.table p.row → row_test W T p ≡ true → P (add_row T p))
      → (T : List ℕ) → P T → 0 < size T → Settled (row_test W) (rows W) P W.n T (extension W T)
  unfolding extension
  extension-settled P long keep T h some =
      grown (row_test W) (rows W) W.n P long (λ U p k. test-new U p) (λ U p k m e. keep U p k (in_rows W p m) e) W.n T h (omega arith)

  -- Of a set that is only valid, as in a damaged store: its extension is valid, holds it, and takes at most n * N tests.
  pub extension-valid : (T : List ℕ) → Valid W T → 0 < size T → Settled (row_test W) (rows W) (Valid W) W.n T (extension W T)
  extension-valid = extension-settled (Valid W) (λ T v. v.long) (λ T p v r e. valid-add W T p v r)

  -- What the extension g of T is.
  pub record Extended (T : List ℕ) (g : Grown) : Type 0 where
    pub maximal : Maximal W g.rows
    pub holds : Within T g.rows
    pub closed : Closed g.rows
    pub few : g.tests ≤ W.n * length (rows W)

  pub extension-maximal : Symmetric W → (T : List ℕ) → JCC W T → Extended T (extension W T)
  extension-maximal S T j =
      let f = extension-settled (JCC W) (λ U k. k.valid.long) (jcc-add S) T j (size-pos T j.some.0 j.some.1) in
      let c : Closed (extension W T).rows = λ p r. f.none p (rows_all W p r) in
      record { maximal = closed-maximal (extension W T).rows f.kept c; holds = f.holds; closed = c; few = f.few }
