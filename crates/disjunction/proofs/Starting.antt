-- The start set of a trial of s on T: the largest JCC set that holds s and whose other rows are T's (document 000: "it is easy to show that T_s is
-- unique"). Its rows are s and rows of T consistent with s (`start-cases`), and every such set is within it (`start-largest`). Assumes nothing.
use Prim.Native.Nat.{ℕ, ◌≤◌, ◌<◌}
use native.Mathlib.Omega.{arith}
use native.Mathlib.Nat.{eq-zero-or-pos}
use native.Mathlib.Decide.{ℕ_discrete}
use mathlib.Core.Path.{◌≡◌, sym, ◌∙◌}
use mathlib.Core.Logic.{◌≢◌, ◌⊎◌, inl, inr, ⊎_elim}
use mathlib.Core.Bool.{true, false, cond}
use mathlib.Core.List.{List}
use lib.ListN.{length, length-set}
use lib.Seq.{get_or-set_same, get_or-set_other}
use lib.Dec.{eqb}
use borrow.Author.Tests.{eq-eqb, ne_eqb}
use Rattle.laws.specs.Lists.{tab}
use Rattle.laws.proofs.TestLaws.{which}
use Rattle.laws.proofs.ListLaws.{length-tab, tab-at}
use Rattle.disjunction.specs.Sets.{Tables, Symmetric, at, Member, Within, Row, Valid, Consistent, JCC}
use Rattle.disjunction.specs.Rule.{Place, stays, dropped, Piece, start}
use Rattle.disjunction.proofs.RowSets.{within-member, member-table}
use Rattle.disjunction.proofs.Ways.{way-mono}
use Rattle.disjunction.proofs.Extending.{Drawn, drawn-consistent}
use Rattle.disjunction.proofs.Pieces.{pieces}

module _ (W : Tables) where
  -- ---- what the drop leaves, with s

  -- T's row in table u, or 0 where it has to go.
  abbrev left : List ℕ → Place → ℕ → ℕ
  left T s u = cond (stays W T s u) (at T u) 0

  pub dropped-long : (T : List ℕ) (s : Place) → length (dropped W T s) ≡ W.n
  unfolding dropped
  dropped-long T s = length-set (tab W.n (left T s)) s.table s.row ∙ length-tab W.n (left T s)

  -- "Add s."
  pub dropped-here : (T : List ℕ) (s : Place) → s.table < W.n → at (dropped W T s) s.table ≡ s.row
  unfolding dropped
  dropped-here T s l = get_or-set_same (tab W.n (left T s)) s.table s.row 0 (rw (length-tab W.n (left T s)) l)

  -- "Drop every row of another table not consistent with s."
  pub dropped-other : (T : List ℕ) (s : Place) (u : ℕ) → u < W.n → u ≢ s.table
      → at (dropped W T s) u ≡ cond (W.fits u (at T u) s.table s.row) (at T u) 0
  unfolding dropped stays
  dropped-other T s u l d =
      get_or-set_other (tab W.n (left T s)) s.table u s.row 0 d ∙ tab-at W.n (left T s) u l ∙ rw (ne_eqb u s.table d)

  pub dropped-at : (T : List ℕ) (s : Place) (u : ℕ) → u < W.n
      → at (dropped W T s) u ≡ cond (eqb u s.table) s.row (cond (W.fits u (at T u) s.table s.row) (at T u) 0)
  dropped-at T s u l = go (ℕ_discrete u s.table)
    where
      go : Dec (u ≡ s.table) → at (dropped W T s) u ≡ cond (eqb u s.table) s.row (cond (W.fits u (at T u) s.table s.row) (at T u) 0)
      go (yes e) = rw (eq-eqb u s.table e, e) (dropped-here T s (rw e at l))
      go (no d) = rw (ne_eqb u s.table d) (dropped-other T s u l d)

  -- A row of what is left is s, or a row of T that is consistent with s.
  dropped-cases : (T : List ℕ) (s : Place) (u : ℕ) → s.table < W.n → Member (dropped W T s) u → Drawn W T s (dropped W T s) u
  dropped-cases T s u l m = go (ℕ_discrete u s.table) (which (W.fits u (at T u) s.table s.row))
    where
      b : u < W.n
      b = member-table W (dropped W T s) (dropped-long T s) u m

      go : Dec (u ≡ s.table) → (W.fits u (at T u) s.table s.row ≡ true) ⊎ (W.fits u (at T u) s.table s.row ≡ false)
          → Drawn W T s (dropped W T s) u
      go (yes e) f = inl (e, rw e (dropped-here T s l))
      go (no d) (inl f) = inr (dropped-other T s u b d ∙ rw f, f)
      go (no d) (inr f) = let z : at (dropped W T s) u ≡ 0 = dropped-other T s u b d ∙ rw f in absurd (omega arith)

  -- What holds s, is consistent, and has its other rows from T, is within what is left.
  dropped-holds : (T : List ℕ) (s : Place) (U : List ℕ) → Row W s.table s.row → length U ≡ W.n → Consistent W U
      → at U s.table ≡ s.row → ((u : ℕ) → u ≢ s.table → Member U u → at T u ≡ at U u) → Within U (dropped W T s)
  dropped-holds T s U r l c e i u m = go (ℕ_discrete u s.table)
    where
      go : Dec (u ≡ s.table) → at (dropped W T s) u ≡ at U u
      go (yes q) = rw q (dropped-here T s r.table ∙ sym e)
      go (no d) =
          let a = i u d m in
          let f : W.fits u (at T u) s.table s.row ≡ true = rw (a, ← e) (c u s.table d m (omega (arith, e, r.low))) in
          dropped-other T s u (member-table W U l u m) d ∙ rw f a

  -- ---- the start set

  module _ (S : Symmetric W) (T : List ℕ) (s : Place) where
    pub start-piece : Row W s.table s.row → Piece W (dropped W T s) s (start W T s)
    unfolding start
    start-piece r = pieces W S (dropped W T s) s (dropped-long T s) r.table r.low (dropped-here T s r.table)

    pub start-cases : Row W s.table s.row → (u : ℕ) → Member (start W T s) u → Drawn W T s (start W T s) u
    start-cases r u m =
        let e : at (dropped W T s) u ≡ at (start W T s) u = (start-piece r).within u m in
        rw e at (dropped-cases T s u r.table (rw e m))

    -- T need not be consistent here, as in a damaged store.
    pub start-valid : Valid W T → Row W s.table s.row → Valid W (start W T s)
    start-valid v r = record { long = (start-piece r).long; bound = λ u. go u (eq-zero-or-pos (at (start W T s) u)) }
      where
        go : (u : ℕ) → (at (start W T s) u ≡ 0) ⊎ Member (start W T s) u → at (start W T s) u ≤ W.count u
        go u (inl z) = omega arith
        go u (inr m) = ⊎_elim (λ x. rw (x.1, x.0) r.high) (λ x. rw x.0 (v.bound u)) (start-cases r u m)

    pub start-jcc : Valid W T → Consistent W T → Row W s.table s.row → JCC W (start W T s)
    start-jcc v c r =
        record {
          valid = start-valid v r;
          some = (s.table, (start-piece r).has);
          consistent = drawn-consistent W S T s (start W T s) c (start-cases r);
          connected = (start-piece r).connected;
        }

    pub start-largest : Row W s.table s.row → (U : List ℕ) → JCC W U
        → at U s.table ≡ s.row → ((u : ℕ) → u ≢ s.table → Member U u → at T u ≡ at U u) → Within U (start W T s)
    start-largest r U j e i u m =
        let h = start-piece r in
        let in-D : Within U (dropped W T s) = dropped-holds T s U r j.valid.long j.consistent e i in
        let w = way-mono W U (dropped W T s) (within-member U (dropped W T s) in-D) (j.connected s.table u (omega (arith, e, r.low)) m) in
        sym (h.within u (h.whole u w)) ∙ in-D u m
