-- What is not empty, holds only JCC sets and is closed under trials, holds every maximal set (document 000, Lemma 4.2). A connected part of a maximal
-- set M that lies in one of the sets grows by one row of M with each trial, until it is M. Assumes nothing.
use Prim.Native.Nat.{ℕ, zero, suc, ◌+◌, ◌<◌}
use native.Mathlib.Omega.{arith}
use native.Mathlib.Nat.{eq-zero-or-pos}
use mathlib.Core.Path.{◌≡◌, refl, sym, subst, ◌∙◌}
use mathlib.Core.Logic.{◌≢◌, ◌⊎◌, inl, inr, ⊎_elim}
use mathlib.Core.Bool.{true, false, ◌&&◌}
use mathlib.Core.List.{List}
use lib.ListN.{length}
use lib.Seq.{get_or-set_same, get_or-set_other}
use Rattle.laws.specs.Tests.{any}
use Rattle.laws.proofs.TestLaws.{which, clash, and_split, and-join, any_some, any_of}
use Rattle.disjunction.specs.Sets.{Tables, Symmetric, at, Member, size, Within, Row, Valid, Connected, JCC, Maximal}
use Rattle.disjunction.specs.Rule.{Place, row_in, add_row, rows, member, absent, row_test, extension, alone, start, trial}
use Rattle.disjunction.proofs.RowSets.{member-lt, sets-equal, size-le, size-pos, size-set, within-refl, within-trans, within-member, within-add, add-within, add-cases, valid-add, member-row, alone-here, alone-only, alone-within}
use Rattle.disjunction.proofs.RowTests.{member-iff, absent-iff, row_test-iff}
use Rattle.disjunction.proofs.Ways.{Crossing, cross, connected-add}
use Rattle.disjunction.proofs.Growing.{Settled}
use Rattle.disjunction.proofs.Extending.{crossing-yes, jcc-add, alone-jcc, extension-settled, Extended, extension-maximal}
use Rattle.disjunction.proofs.Starting.{dropped-here, start-piece, start-valid, start-jcc, start-cases, start-largest}

-- U has a row in a table where T has none, or it has not.
outsider : (T U : List ℕ) → ((u : ℕ) × (at T u ≡ 0) × Member U u) ⊎ ((u : ℕ) → at T u ≡ 0 → at U u ≡ 0)
outsider T U = go (which (any (length U) (λ u. absent T u && member U u)))
  where
    go : (any (length U) (λ u. absent T u && member U u) ≡ true) ⊎ (any (length U) (λ u. absent T u && member U u) ≡ false)
        → ((u : ℕ) × (at T u ≡ 0) × Member U u) ⊎ ((u : ℕ) → at T u ≡ 0 → at U u ≡ 0)
    go (inl e) =
        let (u, l, h) = any_some (length U) (λ u. absent T u && member U u) e in
        let x = and_split (absent T u) (member U u) h in
        inl (u, (absent-iff T u).0 x.0, (member-iff U u).0 x.1)
    go (inr f) =
        inr
        (λ u z.
        ⊎_elim
        (λ y. y)
        (λ m. absurd (clash (any_of (length U) (λ u. absent T u && member U u) u (member-lt U u m) (and-join ((absent-iff T u).1 z) ((member-iff U u).1 m))) f))
        (eq-zero-or-pos (at U u)))

-- P is a JCC part of M, holds B, and lies in T.
pub record Climbing (W : Tables) (B M T P : List ℕ) : Type 0 where
  pub jcc : JCC W P
  pub base : Within B P
  pub low : Within P T
  pub high : Within P M

-- A connected set that holds s, every other row of it consistent with s.
pub record Around (W : Tables) (s : Place) (T : List ℕ) : Type 0 where
  pub valid : Valid W T
  pub has : at T s.table ≡ s.row
  pub fits : (u : ℕ) → u ≢ s.table → Member T u → W.fits u (at T u) s.table s.row ≡ true
  pub connected : Connected W T

module _ (W : Tables) (S : Symmetric W) where
  -- ---- a trial

  pub trial-extended : (T : List ℕ) (s : Place) → JCC W T → Row W s.table s.row → Extended W (start W T s) (trial W T s)
  unfolding trial
  trial-extended T s j r = extension-maximal W S (start W T s) (start-jcc W S T s j.valid j.consistent r)

  pub trial-maximal : (T : List ℕ) (s : Place) → JCC W T → Row W s.table s.row → Maximal W (trial W T s).rows
  trial-maximal T s j r = (trial-extended T s j r).maximal

  -- It holds every JCC set that holds s and has its other rows from T.
  pub trial-holds : (T : List ℕ) (s : Place) → JCC W T → Row W s.table s.row → (U : List ℕ) → JCC W U
      → at U s.table ≡ s.row → ((u : ℕ) → u ≢ s.table → Member U u → at T u ≡ at U u) → Within U (trial W T s).rows
  trial-holds T s j r U k e f =
      within-trans U (start W T s) (trial W T s).rows (start-largest W S T s r U k e f) (trial-extended T s j r).holds

  -- On a set that is only valid, as in a damaged store: the rounds keep every other row consistent with s.
  start-around : (T : List ℕ) (s : Place) → Valid W T → Row W s.table s.row → Around W s (start W T s)
  start-around T s v r =
      let p = start-piece W S T s r in
      record {
        valid = start-valid W S T s v r;
        has = sym (p.within s.table p.has) ∙ dropped-here W T s r.table;
        fits = λ u d m. ⊎_elim (λ x. absurd (d x.0)) (λ x. rw x.0 x.1) (start-cases W S T s r u m);
        connected = p.connected;
      }

  around-add : (s : Place) → Row W s.table s.row → (T : List ℕ) (p : Place) → Around W s T → Row W p.table p.row → row_test W T p ≡ true
      → Around W s (add_row T p)
  around-add s q T p a r e =
      let h = (row_test-iff W T p a.valid.long).0 e in
      let l : p.table < length T = omega (arith, r.table, a.valid.long) in
      let m : Member T s.table = omega (arith, a.has, q.low) in
      record {
        valid = valid-add W T p a.valid r;
        has = add-within T p h.absent s.table m ∙ a.has;
        fits = λ u d n.
            ⊎_elim
            (λ x. rw (x.1, x.0) (S.fit p.table p.row s.table s.row ∙ rw a.has at (h.agrees s.table m)))
            (λ x. rw x.1 (a.fits u d (rw x.1 at n)))
            (add-cases T p u l);
        connected = connected-add W S T p l h.absent h.near a.connected;
      }

  pub trial-around : (T : List ℕ) (s : Place) → Valid W T → Row W s.table s.row
      → Settled (row_test W) (rows W) (Around W s) W.n (start W T s) (trial W T s)
  unfolding trial
  trial-around T s v r =
      extension-settled W (Around W s) (λ U k. k.valid.long) (around-add s r) (start W T s) (start-around T s v r)
      (size-pos (start W T s) s.table (start-piece W S T s r).has)

  -- Every row stands in a maximal set.
  pub row-stands : (s : Place) → Row W s.table s.row → Maximal W (extension W (alone W s)).rows × (at (extension W (alone W s)).rows s.table ≡ s.row)
  row-stands s r =
      let e = extension-maximal W S (alone W s) (alone-jcc W s r) in
      let h = alone-here W s r.table in
      (e.maximal, e.holds s.table (omega (arith, h, r.low)) ∙ h)

  -- ---- the climb

  -- One row of M more, by the trial of that row on T.
  climb-step : (B M T P : List ℕ) → Maximal W M → JCC W T → Climbing W B M T P → (x : Crossing W P M)
      → Climbing W B M (trial W T (row_in M x.outer)).rows (add_row P (row_in M x.outer))
  climb-step B M T P top j c x =
      let s = row_in M x.outer in
      let r = member-row W M top.jcc.valid x.outer x.other in
      let l : s.table < length P = rw c.jcc.valid.long r.table in
      let k = jcc-add W S P s c.jcc r (crossing-yes W P M c.jcc.valid.long top.jcc.consistent c.high x) in
      record {
        jcc = k;
        base = within-trans B P (add_row P s) c.base (add-within P s x.outside);
        low = trial-holds T s j r (add_row P s) k (get_or-set_same P s.table s.row 0 l)
            (λ v d n. let q = get_or-set_other P s.table v s.row 0 d in c.low v (rw q at n) ∙ sym q);
        high = within-add P M s l c.high refl;
      }

  -- Closed under the trials whose set holds B.
  module _ (B : List ℕ) (In : List ℕ → Type 0) (jcc : (T : List ℕ) → In T → JCC W T)
      (closed : (T : List ℕ) (s : Place) → In T → Row W s.table s.row → Within B (trial W T s).rows → In (trial W T s).rows) where
    climb : (M : List ℕ) → Maximal W M → (k : ℕ) (T P : List ℕ) → In T → Climbing W B M T P → W.n < size P + k → In M
    climb M top zero T P i c e = absurd (omega (arith, size-le P, c.jcc.valid.long))
    climb M top (suc k) T P i c e = go (λ T' P'. climb M top k T' P') (outsider P M)
      where
        go : ((T' P' : List ℕ) → In T' → Climbing W B M T' P' → W.n < size P' + k → In M)
            → ((u : ℕ) × (at P u ≡ 0) × Member M u) ⊎ ((u : ℕ) → at P u ≡ 0 → at M u ≡ 0) → In M
        go ih (inr h) =
            let q : M ≡ P = sets-equal P M (c.jcc.valid.long ∙ sym top.jcc.valid.long) c.high h in
            subst In (top.largest T (jcc T i) (rw q c.low)) i
        go ih (inl (u, z, m)) =
            let (o, n) = c.jcc.some in
            let x = cross W P M (top.jcc.connected o u (within-member P M c.high o n) m) n z in
            let s = row_in M x.outer in
            let r = member-row W M top.jcc.valid x.outer x.other in
            let d = climb-step B M T P top (jcc T i) c x in
            let b = within-trans B (add_row P s) (trial W T s).rows d.base d.low in
            let g = size-set P s.table s.row (rw c.jcc.valid.long r.table) x.outside r.low in
            ih (trial W T s).rows (add_row P s) (closed T s i r b) d (omega arith)

  -- ---- the theorem

  -- The sets that hold one row b (Lemma 4.2's first claim): closed under the trials whose set holds b is enough.
  pub complete-row : (b : Place) → Row W b.table b.row → (In : List ℕ → Type 0) → ((T : List ℕ) → In T → JCC W T)
      → ((T : List ℕ) (s : Place) → In T → Row W s.table s.row → at (trial W T s).rows b.table ≡ b.row → In (trial W T s).rows)
      → (T₀ : List ℕ) → In T₀ → at T₀ b.table ≡ b.row → (M : List ℕ) → Maximal W M → at M b.table ≡ b.row → In M
  complete-row b r In jcc closed T₀ i e M x f =
      let B = alone W b in
      let j = alone-jcc W b r in
      let h = alone-here W b r.table in
      climb B In jcc (λ T s k q w. closed T s k q (w b.table (omega (arith, h, r.low)) ∙ h)) M x W.n T₀ B i
      (record { jcc = j; base = within-refl B; low = alone-within W b T₀ r.table e; high = alone-within W b M r.table f })
      (omega (arith, size-pos B j.some.0 j.some.1))

  -- All of them: closed under every trial. The first row comes from any set by a trial of a row of M, so tables that share nothing are reached too.
  pub complete : (In : List ℕ → Type 0) → ((T : List ℕ) → In T → JCC W T)
      → ((T : List ℕ) (s : Place) → In T → Row W s.table s.row → In (trial W T s).rows)
      → (T₀ : List ℕ) → In T₀ → (M : List ℕ) → Maximal W M → In M
  complete In jcc closed T₀ i M x =
      let (u, m) = x.jcc.some in
      let s = row_in M u in
      let r = member-row W M x.jcc.valid u m in
      let e : at (alone W s) u ≡ at M u = alone-here W s r.table in
      let h : Within (alone W s) (trial W T₀ s).rows =
      trial-holds T₀ s (jcc T₀ i) r (alone W s) (alone-jcc W s r) e (λ v d n. absurd (d (alone-only W s v r.table n))) in
      complete-row s r In jcc (λ T p k q w. closed T p k q) (trial W T₀ s).rows (closed T₀ s i r) (h u (omega arith) ∙ e) M x refl
