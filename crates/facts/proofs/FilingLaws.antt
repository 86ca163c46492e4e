-- Tables filed in another order have the same maximal sets under the new table numbers (request #114), and the same padded rows. A JCC set stays one
-- (`jcc-there`); the way there and back is one law used twice (`back`). Assumes nothing.
use Prim.Native.Nat.{ℕ, ◌≤◌, ◌<◌}
use native.Mathlib.Omega.{arith}
use native.Mathlib.Nat.{eq-zero-or-pos}
use mathlib.Core.Path.{◌≡◌, sym, ap, subst, subst₂, ◌∙◌}
use mathlib.Core.Logic.{◌≢◌, ◌⊎◌, inl, inr, ◌↔◌}
use mathlib.Core.Bool.{true}
use mathlib.Core.List.{List}
use lib.ListN.{length}
use lib.Seq.{ext_get_or}
use Rattle.laws.proofs.TestLaws.{iff-eq}
use Rattle.laws.proofs.ListLaws.{length-tab, tab-at}
use Rattle.disjunction.specs.Sets.{Tables, at, Member, Within, Row, Way, here, step, Connected, Consistent, JCC, Maximal}
use Rattle.disjunction.specs.Cells.{Cells, sharing, matching, tables, padded}
use Rattle.disjunction.proofs.RowSets.{member-table, member-row}
use Rattle.disjunction.proofs.Ways.{way-start}
use Rattle.disjunction.proofs.CellLaws.{sharing-iff, matching-iff, embedding-unique, padded-embedding}
use Rattle.facts.specs.Filing.{Renumbering, Refiled, renumbered, RefiledCells}

-- ---- a set under new numbers

module _ (n : ℕ) (from : ℕ → ℕ) (T : List ℕ) where
  pub renumbered-long : length (renumbered n from T) ≡ n
  unfolding renumbered
  renumbered-long = length-tab n _

  pub renumbered-at : (u : ℕ) → u < n → at (renumbered n from T) u ≡ at T (from u)
  unfolding renumbered
  renumbered-at u l = tab-at n (λ u. at T (from u)) u l

-- The other way round.
pub numbers-back : (n : ℕ) (to from : ℕ → ℕ) → Renumbering n to from → Renumbering n from to
numbers-back n to from h = record { to-lt = h.from-lt; from-lt = h.to-lt; from-to = h.to-from; to-from = h.from-to }

-- There and back again.
pub renumbered-back : (n : ℕ) (to from : ℕ → ℕ) → Renumbering n to from → (T : List ℕ) → length T ≡ n → renumbered n to (renumbered n from T) ≡ T
renumbered-back n to from h T e =
    ext_get_or 0 (renumbered n to (renumbered n from T)) T (renumbered-long n to (renumbered n from T) ∙ sym e)
    (λ t b.
    let l = rw (renumbered-long n to (renumbered n from T)) at b in
    renumbered-at n to (renumbered n from T) t l ∙ renumbered-at n from T (to t) (h.to-lt t l) ∙ ap (at T) (h.from-to t l))

-- ---- the tables of the rule

module _ (W X : Tables) (to from : ℕ → ℕ) (F : Refiled W X to from) where
  row_back : (u r : ℕ) → Row X u r → Row W (from u) r
  row_back u r h =
      let b : u < W.n = rw F.many at h.table in
      let c : X.count u ≡ W.count (from u) =
      ap X.count (sym (F.numbers.to-from u b)) ∙ F.count (from u) (F.numbers.from-lt u b) in
      record { table = F.numbers.from-lt u b; low = h.low; high = rw c at h.high }

  back : Refiled X W from to
  back =
      let h = F.numbers in
      record {
        many = sym F.many;
        numbers = subst (λ (k : ℕ). Renumbering k from to) (sym F.many) (numbers-back W.n to from h);
        count = λ u l. let b = rw F.many at l in sym (F.count (from u) (h.from-lt u b)) ∙ rw (h.to-from u b);
        touch = λ u v k l.
            let b = rw F.many at k in
            let c = rw F.many at l in
            sym (F.touch (from u) (from v) (h.from-lt u b) (h.from-lt v c)) ∙ rw (h.to-from u b, h.to-from v c);
        fit = λ u r v q k l.
            let b : u < W.n = rw F.many at k.table in
            let c : v < W.n = rw F.many at l.table in
            sym (F.fit (from u) r (from v) q (row_back u r k) (row_back v q l)) ∙ rw (h.to-from u b, h.to-from v c);
      }

  module _ (T : List ℕ) where
    -- T under the new numbers.
    abbrev there : List ℕ
    there = renumbered W.n from T

    there-at : (t : ℕ) → t < W.n → at there (to t) ≡ at T t
    there-at t l = renumbered-at W.n from T (to t) (F.numbers.to-lt t l) ∙ ap (at T) (F.numbers.from-to t l)

    -- A member of it is a member of T under its new number.
    there-member : (u : ℕ) → Member there u → (u < W.n) × Member T (from u) × (at there u ≡ at T (from u))
    there-member u m =
        let l = member-table W there (renumbered-long W.n from T) u m in
        let e = renumbered-at W.n from T u l in
        (l, rw e at m, e)

    there_has : length T ≡ W.n → (t : ℕ) → Member T t → Member there (to t)
    there_has e t m = rw (there-at t (member-table W T e t m)) m

    way-there : length T ≡ W.n → {a b : ℕ} → Way W T a b → Way X there (to a) (to b)
    way-there e (here {a = a} m) = here (there_has e a m)
    way-there e (step {a = a} {b = b} m t w) =
        step (there_has e a m) (F.touch a b (member-table W T e a m) (member-table W T e b (way-start W w)) ∙ t) (way-there e w)

    pub jcc-there : JCC W T → JCC X there
    jcc-there j =
        record {
          valid = record { long = renumbered-long W.n from T ∙ sym F.many; bound = λ u. bound u (eq-zero-or-pos (at there u)) };
          some = (to o, there_has e o m);
          consistent = consistent;
          connected = connected;
        }
      where
        h : Renumbering W.n to from
        h = F.numbers

        e : length T ≡ W.n
        e = j.valid.long

        o : ℕ
        o = j.some.0

        m : Member T o
        m = j.some.1

        bound : (u : ℕ) → (at there u ≡ 0) ⊎ Member there u → at there u ≤ X.count u
        bound u (inl z) = omega arith
        bound u (inr k) =
            let (l, n, q) = there-member u k in
            let c : X.count u ≡ W.count (from u) = ap X.count (sym (h.to-from u l)) ∙ F.count (from u) (h.from-lt u l) in
            rw (q, c) (j.valid.bound (from u))

        consistent : Consistent X there
        consistent u v d k k' =
            let (l, n, q) = there-member u k in
            let (l', n', q') = there-member v k' in
            let apart : from u ≢ from v = λ s. d (sym (h.to-from u l) ∙ ap to s ∙ h.to-from v l') in
            rw (q, q')
            (subst₂ (λ (x y : ℕ). X.fits x (at T (from u)) y (at T (from v)) ≡ true) (h.to-from u l) (h.to-from v l')
            (F.fit (from u) (at T (from u)) (from v) (at T (from v)) (member-row W T j.valid (from u) n) (member-row W T j.valid (from v) n')
            ∙ j.consistent (from u) (from v) apart n n'))

        connected : Connected X there
        connected u v k k' =
            let (l, n, q) = there-member u k in
            let (l', n', q') = there-member v k' in
            subst₂ (λ (x y : ℕ). Way X there x y) (h.to-from u l) (h.to-from v l') (way-there e (j.connected (from u) (from v) n n'))

-- "Filing the tables in another order gives the same maximal sets under the new table numbers."
module _ (W X : Tables) (to from : ℕ → ℕ) (F : Refiled W X to from) where
  pub maximal-there : (T : List ℕ) → Maximal W T → Maximal X (renumbered W.n from T)
  maximal-there T x = record { jcc = jcc-there W X to from F T x.jcc; largest = largest }
    where
      h : Renumbering W.n to from
      h = F.numbers

      largest : (U : List ℕ) → JCC X U → Within (renumbered W.n from T) U → U ≡ renumbered W.n from T
      largest U j i =
          let e : length U ≡ W.n = j.valid.long ∙ F.many in
          let k : JCC W (renumbered W.n to U) = subst (λ (c : ℕ). JCC W (renumbered c to U)) F.many (jcc-there X W from to (back W X to from F) U j) in
          let w : Within T (renumbered W.n to U) = λ t m.
          let l = member-table W T x.jcc.valid.long t m in
          let a = there-at W X to from F T t l in
          renumbered-at W.n to U t l ∙ i (to t) (rw a m) ∙ a in
          let q : renumbered W.n to U ≡ T = x.largest (renumbered W.n to U) k w in
          sym (renumbered-back W.n from to (numbers-back W.n to from h) U e) ∙ ap (renumbered W.n from) q

module _ (W X : Tables) (to from : ℕ → ℕ) (F : Refiled W X to from) where
  pub refiled-maximal : (T : List ℕ) → length T ≡ W.n → Maximal W T ↔ Maximal X (renumbered W.n from T)
  refiled-maximal T e = (
    maximal-there W X to from F T,
    λ x.
        let U = renumbered W.n from T in
        let y : Maximal W (renumbered W.n to U) =
        subst (λ (c : ℕ). Maximal W (renumbered c to U)) F.many (maximal-there X W from to (back W X to from F) U x) in
        subst (Maximal W) (renumbered-back W.n to from F.numbers T e) y,
  )

-- ---- the tables of cells

module _ (C D : Cells) (to from : ℕ → ℕ) (F : RefiledCells C D to from) where
  sharing-there : (t u : ℕ) → t < C.n → u < C.n → sharing D (to t) (to u) ≡ sharing C t u
  sharing-there t u k l =
      iff-eq (sharing D (to t) (to u)) (sharing C t u)
      (λ y.
      let (a, b, p, q) = (sharing-iff D (to t) (to u)).0 y in
      (sharing-iff C t u).1 (a, omega (arith, F.wide, b), sym (F.scheme t a k) ∙ p, sym (F.scheme u a l) ∙ q))
      (λ y.
      let (a, b, p, q) = (sharing-iff C t u).0 y in
      (sharing-iff D (to t) (to u)).1 (a, omega (arith, F.wide, b), F.scheme t a k ∙ p, F.scheme u a l ∙ q))

  matching-there : (t r u q : ℕ) → Row (tables C) t r → Row (tables C) u q → matching D (to t) r (to u) q ≡ matching C t r u q
  matching-there t r u q i j =
      let k : t < C.n = i.table in
      let l : u < C.n = j.table in
      iff-eq (matching D (to t) r (to u) q) (matching C t r u q)
      (λ y.
      (matching-iff C t r u q).1
      (λ a b p s.
      let z = (matching-iff D (to t) r (to u) q).0 y a (rw F.wide b) (F.scheme t a k ∙ p) (F.scheme u a l ∙ s) in
      rw (F.codes t r a i p, F.codes u q a j s) at z))
      (λ y.
      (matching-iff D (to t) r (to u) q).1
      (λ a b p s.
      let p' = sym (F.scheme t a k) ∙ p in
      let s' = sym (F.scheme u a l) ∙ s in
      rw (F.codes t r a i p', F.codes u q a j s') ((matching-iff C t r u q).0 y a (rw F.wide at b) p' s')))

  pub cells-refiled : Refiled (tables C) (tables D) to from
  cells-refiled = record { many = F.many; numbers = F.numbers; count = F.count; touch = sharing-there; fit = matching-there }

  -- The padded row is the same, too.
  pub refiled-padded : (T : List ℕ) → Maximal (tables C) T → padded D (renumbered C.n from T) ≡ padded C T
  refiled-padded T x =
      let y = maximal-there (tables C) (tables D) to from cells-refiled T x in
      let c = padded-embedding C T x.jcc.valid.long x.jcc.consistent in
      embedding-unique D U y.jcc.valid.long (padded D U) (padded C T) (padded-embedding D U y.jcc.valid.long y.jcc.consistent)
      (record {
        long = c.long ∙ sym F.wide;
        from = λ u a b m p.
            let (l, n, q) = there-member (tables C) (tables D) to from cells-refiled T u m in
            let f : to (from u) ≡ u = F.numbers.to-from u l in
            let g = F.numbers.from-lt u l in
            let s : C.has (from u) a ≡ true = sym (F.scheme (from u) a g) ∙ rw f p in
            c.from (from u) a (rw F.wide at b) n s
            ∙ sym (F.codes (from u) (at T (from u)) a (member-row (tables C) T x.jcc.valid (from u) n) s) ∙ rw (f, q);
        null = λ a b h. c.null a (rw F.wide at b)
            (λ t m p.
            let l = member-table (tables C) T x.jcc.valid.long t m in
            h (to t) (there_has (tables C) (tables D) to from cells-refiled T x.jcc.valid.long t m) (F.scheme t a l ∙ p));
      })
    where
      U : List ℕ
      U = renumbered C.n from T
