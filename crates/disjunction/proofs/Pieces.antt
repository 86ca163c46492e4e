-- The piece of a set that holds a row: the rule's rounds give it, and there is one only, however it is found. A part of the set that no row of it
-- joins is the piece, since a way that left the part would do so by a row that joins it. Assumes nothing.
use Prim.Native.Nat.{ℕ, zero, suc, ◌<◌}
use native.Mathlib.Omega.{arith}
use native.Mathlib.Nat.{eq-zero-or-pos, not-suc-le-zero}
use mathlib.Core.Path.{◌≡◌, refl, sym, ap, subst, ◌∙◌}
use mathlib.Core.Logic.{◌⊎◌, inl, inr, ⊎_elim}
use mathlib.Core.Bool.{Bool, true, false, cond}
use mathlib.Core.List.Memᴰ
use mathlib.Core.List.{List, [], ◌∷◌, Memᴰ}
use lib.ListN.{length, length-set}
use Rattle.laws.proofs.TestLaws.{clash, below_suc}
use Rattle.disjunction.specs.Sets.{Tables, Symmetric, at, Member, Within, Way, Connected}
use Rattle.disjunction.specs.Rule.{Place, row_in, add_row, member, alone, joins, members_below, piece, Piece}
use Rattle.disjunction.proofs.RowSets.{sets-equal, size-pos, within-member, within-add, add-within, member-table, alone-long, alone-here, alone-within}
use Rattle.disjunction.proofs.RowTests.{member-iff, joins-iff}
use Rattle.disjunction.proofs.Ways.{way-mono, cross, alone-connected, connected-add}
use Rattle.disjunction.proofs.Growing.{New, grown}

module _ (W : Tables) where
  -- ---- the list of D's rows

  members-in : (D : List ℕ) (k : ℕ) (p : Place) → Memᴰ p (members_below W D k) → (u : ℕ) × (u < k) × Member D u × (p ≡ row_in D u)
  unfolding members_below
  members-in D zero p m = absurd (Memᴰ.not-nil m)
  members-in D (suc k) p m =
      ⊎_elim
      (λ m'. let (u, l, n, e) = members-in D k p m' in (u, omega arith, n, e))
      (λ m'. one (member D k) refl m')
      (Memᴰ.append_cases (members_below W D k) m)
    where
      one : (b : Bool) → member D k ≡ b → Memᴰ p (cond b (row_in D k ∷ []) []) → (u : ℕ) × (u < suc k) × Member D u × (p ≡ row_in D u)
      one false e m' = absurd (Memᴰ.not-nil m')
      one true e m' = (k, omega arith, (member-iff D k).0 e, Memᴰ.eq_of_singleton m')

  pub members-all : (D : List ℕ) (k u : ℕ) → u < k → Member D u → Memᴰ (row_in D u) (members_below W D k)
  unfolding members_below
  members-all D zero u l m = absurd (not-suc-le-zero l)
  members-all D (suc k) u l m =
      ⊎_elim
      (λ e. rw e (Memᴰ.append_right (members_below W D k) (rw ((member-iff D k).1 (rw e at m)) (Memᴰ.head refl))))
      (λ q. Memᴰ.append_left (cond (member D k) (row_in D k ∷ []) []) (members-all D k u q m))
      (below_suc l)

  -- ---- parts of D that hold s

  pub record Part (D : List ℕ) (s : Place) (E : List ℕ) : Type 0 where
    pub long : length E ≡ W.n
    pub has : Member E s.table
    pub within : Within E D
    pub connected : Connected W E

  pub part-alone : (D : List ℕ) (s : Place) → s.table < W.n → 0 < s.row → at D s.table ≡ s.row → Part D s (alone W s)
  part-alone D s k r e =
      record { long = alone-long W s; has = omega (arith, alone-here W s k); within = alone-within W s D k e; connected = alone-connected W s k }

  -- A part with one row of D more.
  pub part_step : Symmetric W → (D : List ℕ) (s : Place) (E : List ℕ) (u : ℕ) → Part D s E → u < W.n
      → joins W E (row_in D u) ≡ true → Part D s (add_row E (row_in D u))
  part_step S D s E u h l e =
      let a = (joins-iff W E (row_in D u) h.long).0 e in
      let b : u < length E = omega (arith, h.long) in
      record {
        long = length-set E u (at D u) ∙ h.long;
        has = within-member E (add_row E (row_in D u)) (add-within E (row_in D u) a.absent) s.table h.has;
        within = within-add E D (row_in D u) b h.within refl;
        connected = connected-add W S E (row_in D u) b a.absent a.near h.connected;
      }

  -- A part that no row of D joins is the piece.
  pub part-closed : (D : List ℕ) (s : Place) (E : List ℕ) → length D ≡ W.n → Part D s E
      → ((u : ℕ) → u < W.n → Member D u → joins W E (row_in D u) ≡ false) → Piece W D s E
  part-closed D s E l h none =
      record { long = h.long; within = h.within; has = h.has; connected = h.connected; whole = λ u w. go u w (eq-zero-or-pos (at E u)) }
    where
      go : (u : ℕ) → Way W D s.table u → (at E u ≡ 0) ⊎ Member E u → Member E u
      go u w (inr m) = m
      go u w (inl z) =
          let x = cross W E D w h.has z in
          let yes = (joins-iff W E (row_in D x.outer) h.long).1 (record { absent = x.outside; near = (x.inner, x.inside, x.touch) }) in
          absurd (clash yes (none x.outer (member-table W D l x.outer x.other) x.other))

  -- ---- the piece

  -- A row of D's list that joins a part is new to it, and the part stays one with it.
  part-new : (D : List ℕ) (s : Place) (E : List ℕ) (p : Place) → Part D s E → Memᴰ p (members_below W D W.n) → joins W E p ≡ true → New W.n E p
  part-new D s E p h m t =
      let (u, b, n, q) = members-in D W.n p m in
      let low : at D u ≡ p.row = ap (λ (x : Place). x.row) (sym q) in
      (((joins-iff W E p h.long).0 t).absent, omega (arith, ap (λ (x : Place). x.table) q), omega arith)

  part-keeps : Symmetric W → (D : List ℕ) (s : Place) (E : List ℕ) (p : Place) → Part D s E → Memᴰ p (members_below W D W.n) → joins W E p ≡ true
      → Part D s (add_row E p)
  part-keeps S D s E p h m t =
      let (u, b, n, q) = members-in D W.n p m in
      subst (λ (x : Place). Part D s (add_row E x)) (sym q) (part_step S D s E u h b (subst (λ (x : Place). joins W E x ≡ true) q t))

  pub pieces : Symmetric W → (D : List ℕ) (s : Place) → length D ≡ W.n → s.table < W.n → 0 < s.row → at D s.table ≡ s.row
      → Piece W D s (piece W D s)
  unfolding piece
  pieces S D s l k r e =
      let a = part-alone D s k r e in
      let f = grown (joins W) (members_below W D W.n) W.n (Part D s) (λ E h. h.long) (part-new D s) (part-keeps S D s) W.n (alone W s) a
      (omega (arith, size-pos (alone W s) s.table a.has)) in
      part-closed D s (piece W D s) l f.kept (λ u b m. f.none (row_in D u) (members-all D W.n u b m))

  -- A piece is within every other: its tables are those to which D has a way from s.
  piece-within : (D : List ℕ) (s : Place) (E F : List ℕ) → Piece W D s E → Piece W D s F → Within E F
  piece-within D s E F h k u m =
      let w = way-mono W E D (within-member E D h.within) (h.connected s.table u h.has m) in
      sym (k.within u (k.whole u w)) ∙ h.within u m

  -- There is one piece only, however it is found.
  pub piece-unique : (D : List ℕ) (s : Place) (E F : List ℕ) → Piece W D s E → Piece W D s F → E ≡ F
  piece-unique D s E F h k =
      sets-equal F E (k.long ∙ sym h.long) (piece-within D s F E k h)
      (λ t z. ⊎_elim (λ y. y) (λ m. let e : at F t ≡ at E t = piece-within D s E F h k t m in absurd (omega arith)) (eq-zero-or-pos (at E t)))
