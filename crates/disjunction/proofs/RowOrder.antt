-- The row order holds every row, and where it holds it. Induction on the tables, and on the rows of one, carries it. Assumes nothing.
use Prim.Native.Nat.{ℕ, zero, suc, ◌+◌, ◌≤◌, ◌<◌}
use native.Mathlib.Omega.{arith}
use native.Mathlib.Nat.{not-suc-le-zero}
use mathlib.Core.Path.{◌≡◌, refl, ap, ◌∙◌}
use mathlib.Core.Logic.{⊎_elim}
use mathlib.Core.List.Memᴰ
use mathlib.Core.List.{[], ◌∷◌, Memᴰ}
use lib.ListN.{length, get_or, length-append, get_or-append}
use lib.Seq.{get_or-append-add, get_or_at}
use Rattle.laws.proofs.TestLaws.{below_suc}
use Rattle.laws.proofs.MemberLaws.{mem-at, at_mem}
use Rattle.disjunction.specs.Sets.{Tables, Row}
use Rattle.disjunction.specs.Rule.{Place, rows_to, rows_below, rows, row_at}

-- ---- the rows of one table

rows_to-row : (t c : ℕ) (p : Place) → Memᴰ p (rows_to t c) → (p.table ≡ t) × (0 < p.row) × (p.row ≤ c)
unfolding rows_to
rows_to-row t zero p m = absurd (Memᴰ.not-nil m)
rows_to-row t (suc c) p m =
    ⊎_elim
    (λ m'. let h = rows_to-row t c p m' in (h.0, h.1, omega (arith, h.2)))
    (λ m'.
    let e = Memᴰ.eq_of_singleton m' in
    let r = ap (λ (q : Place). q.row) e in
    (ap (λ (q : Place). q.table) e, omega arith, omega arith))
    (Memᴰ.append_cases (rows_to t c) m)

rows_to-all : (t c r : ℕ) → 0 < r → r ≤ c → Memᴰ (record { table = t; row = r }) (rows_to t c)
unfolding rows_to
rows_to-all t zero r l h = absurd (omega arith)
rows_to-all t (suc c) r l h =
    ⊎_elim
    (λ e. Memᴰ.append_right (rows_to t c) (Memᴰ.head (ap (λ (q : ℕ). record { table = t; row = q }) e)))
    (λ k. Memᴰ.append_left (record { table = t; row = suc c } ∷ []) (rows_to-all t c r l (omega arith)))
    (below_suc {u = r} {k = suc c} (omega arith))

pub rows_to-length : (t c : ℕ) → length (rows_to t c) ≡ c
unfolding rows_to
rows_to-length t zero = refl
rows_to-length t (suc c) = simp (length-append, rows_to-length t c) (omega arith)

pub rows_to-at : (t c r : ℕ) (d : Place) → r < c → get_or (rows_to t c) r d ≡ record { table = t; row = suc r }
unfolding rows_to
rows_to-at t zero r d h = absurd (not-suc-le-zero h)
rows_to-at t (suc c) r d h =
    ⊎_elim
    (λ (e : r ≡ c). rw e (get_or_at (rows_to t c) (record { table = t; row = suc c }) [] d c (rows_to-length t c)))
    (λ b. get_or-append (rows_to t c) (record { table = t; row = suc c } ∷ []) d r (rw rows_to-length b) ∙ rows_to-at t c r d b)
    (below_suc h)

-- ---- the rows of all tables

module _ (W : Tables) where
  rows_below-row : (k : ℕ) (p : Place) → Memᴰ p (rows_below W k) → (p.table < k) × (0 < p.row) × (p.row ≤ W.count p.table)
  unfolding rows_below
  rows_below-row zero p m = absurd (Memᴰ.not-nil m)
  rows_below-row (suc k) p m =
      ⊎_elim
      (λ m'. let h = rows_below-row k p m' in (omega (arith, h.0), h.1, h.2))
      (λ m'. let h = rows_to-row k (W.count k) p m' in (omega (arith, h.0), h.1, rw h.0 h.2))
      (Memᴰ.append_cases (rows_below W k) m)

  rows_below-all : (k t r : ℕ) → t < k → 0 < r → r ≤ W.count t → Memᴰ (record { table = t; row = r }) (rows_below W k)
  unfolding rows_below
  rows_below-all zero t r l p h = absurd (not-suc-le-zero l)
  rows_below-all (suc k) t r l p h =
      ⊎_elim
      (λ e. rw e (Memᴰ.append_right (rows_below W k) (rows_to-all k (W.count k) r p (rw e at h))))
      (λ q. Memᴰ.append_left (rows_to k (W.count k)) (rows_below-all k t r q p h))
      (below_suc l)

  pub in_rows : (p : Place) → Memᴰ p (rows W) → Row W p.table p.row
  in_rows p m = let h = rows_below-row W.n p m in record { table = h.0; low = h.1; high = h.2 }

  pub rows_all : (p : Place) → Row W p.table p.row → Memᴰ p (rows W)
  rows_all p h = rows_below-all W.n p.table p.row h.table h.low h.high

  -- The same by places.
  pub row_at-row : (j : ℕ) → j < length (rows W) → Row W (row_at W j).table (row_at W j).row
  row_at-row j h = in_rows (row_at W j) (mem-at (rows W) (record { table = 0; row = 0 }) j h)

  pub row-place : (p : Place) → Row W p.table p.row → (j : ℕ) × (j < length (rows W)) × (p ≡ row_at W j)
  row-place p h = at_mem (record { table = 0; row = 0 }) (rows_all p h)

  -- The rows of table t lie behind those of the tables below t, and before those of the tables above.
  pub rows_below-mono : (k t : ℕ) → t < k → length (rows_below W t) + W.count t ≤ length (rows_below W k)
  unfolding rows_below
  rows_below-mono zero t h = absurd (not-suc-le-zero h)
  rows_below-mono (suc k) t h =
      let a = length-append (rows_below W k) (rows_to k (W.count k)) in
      let b = rows_to-length k (W.count k) in
      ⊎_elim (λ (e : t ≡ k). rw e (omega arith)) (λ q. omega (arith, rows_below-mono k t q)) (below_suc h)

  pub rows_below-at : (k t r : ℕ) (d : Place) → t < k → r < W.count t → get_or (rows_below W k) (length (rows_below W t) + r) d ≡ record { table = t; row = suc r }
  unfolding rows_below
  rows_below-at zero t r d h b = absurd (not-suc-le-zero h)
  rows_below-at (suc k) t r d h b =
      ⊎_elim
      (λ (e : t ≡ k). rw e (get_or-append-add (rows_below W k) (rows_to k (W.count k)) r d ∙ rows_to-at k (W.count k) r d (rw e at b)))
      (λ q. get_or-append (rows_below W k) (rows_to k (W.count k)) d (length (rows_below W t) + r) (omega (arith, rows_below-mono k t q)) ∙ rows_below-at k t r d q b)
      (below_suc h)
