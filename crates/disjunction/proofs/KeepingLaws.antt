-- The stream over a list of sets: it keeps distinct maximal sets that are wanted, and once every set was tried with every row it has all of them.
-- `Going` is the invariant; `complete-asked` closes it. Assumes nothing.
use Prim.Native.Nat.{ℕ, ◌+◌, ◌-◌, ◌≤◌, ◌<◌}
use native.Mathlib.Omega.{arith}
use native.Mathlib.Nat.{not-suc-le-zero}
use mathlib.Core.Path.{◌≡◌, refl}
use mathlib.Core.Logic.{◌⊎◌, inl, inr, ⊎_elim, ◌↔◌}
use mathlib.Core.Bool.{Bool, true, false}
use mathlib.Core.List.Memᴰ
use mathlib.Core.List.{List, [], ◌∷◌, ◌++◌, Memᴰ}
use lib.ListN.{length, get_or, length-append, get_or-append}
use Rattle.laws.specs.Distinct.{Distinct, none, more}
use Rattle.laws.proofs.TestLaws.{below_suc}
use Rattle.laws.proofs.MemberLaws.{mem-at, at_mem}
use Rattle.laws.proofs.DistinctLaws.{distinct-end, distinct-le}
use Rattle.disjunction.specs.Sets.{MoreOf, Tables, Symmetric, Row, JCC, Maximal}
use Rattle.disjunction.specs.Rule.{Place, row_in, rows, row_at, extension, alone, trial}
use Rattle.disjunction.specs.Asked.{Asked, wanted, Sought, Present}
use Rattle.disjunction.specs.Keeping.{dec_memᴰ, sets-discrete, stored, keep, keep_if, State, take, trial_now, try}
use Rattle.disjunction.proofs.RowSets.{member-row}
use Rattle.disjunction.proofs.RowOrder.{row_at-row, row-place}
use Rattle.disjunction.proofs.Completeness.{trial-maximal, row-stands}
use Rattle.disjunction.proofs.AskedLaws.{sought, sought-maximal, sought-wanted, complete-asked}

-- ---- keeping a set

-- What holds of the list as it is where it has T, and with T at its end where it has not, holds of what is kept.
pub keep-elim : (P : List (List ℕ) → Type 0) (l : List (List ℕ)) (T : List ℕ) → (Memᴰ T l → P l) → ((Memᴰ T l → ⊥) → P (l ++ (T ∷ [])))
    → P (keep l T)
unfolding keep stored
keep-elim P l T had new = go (dec_memᴰ sets-discrete T l)
  where
    go : (d : Dec (Memᴰ T l)) → P (stored {l = l} {x = T} d)
    go (yes m) = had m
    go (no h) = new h

pub keep-had : (l : List (List ℕ)) (T : List ℕ) → Memᴰ T l → keep l T ≡ l
keep-had l T m = keep-elim (λ k. k ≡ l) l T (λ h. refl) (λ h. absurd (h m))

pub keep-new : (l : List (List ℕ)) (T : List ℕ) → (Memᴰ T l → ⊥) → keep l T ≡ l ++ (T ∷ [])
keep-new l T n = keep-elim (λ k. k ≡ l ++ (T ∷ [])) l T (λ m. absurd (n m)) (λ h. refl)

pub keep-in : (l : List (List ℕ)) (T : List ℕ) → Memᴰ T (keep l T)
keep-in l T = keep-elim (λ k. Memᴰ T k) l T (λ m. m) (λ h. Memᴰ.append_right l (Memᴰ.head refl))

pub keep-old : (l : List (List ℕ)) (T U : List ℕ) → Memᴰ U l → Memᴰ U (keep l T)
keep-old l T U m = keep-elim (λ k. Memᴰ U k) l T (λ h. m) (λ h. Memᴰ.append_left (T ∷ []) m)

pub keep-cases : (l : List (List ℕ)) (T U : List ℕ) → Memᴰ U (keep l T) → Memᴰ U l ⊎ (U ≡ T)
keep-cases l T U =
    keep-elim (λ k. Memᴰ U k → Memᴰ U l ⊎ (U ≡ T)) l T (λ h m. inl m)
    (λ h m. ⊎_elim (λ a. inl a) (λ a. inr (Memᴰ.eq_of_singleton a)) (Memᴰ.append_cases l m))

pub keep_at : (l : List (List ℕ)) (T : List ℕ) (i : ℕ) → i < length l → get_or (keep l T) i [] ≡ get_or l i []
keep_at l T i b = keep-elim (λ k. get_or k i [] ≡ get_or l i []) l T (λ h. refl) (λ h. get_or-append l (T ∷ []) [] i b)

pub keep-long : (l : List (List ℕ)) (T : List ℕ) → length l ≤ length (keep l T)
keep-long l T = keep-elim (λ k. length l ≤ length k) l T (λ h. omega arith) (λ h. omega (arith, length-append l (T ∷ [])))

pub keep-distinct : (l : List (List ℕ)) (T : List ℕ) → Distinct l → Distinct (keep l T)
keep-distinct l T d = keep-elim (λ k. Distinct k) l T (λ m. d) (λ h. distinct-end d h)

-- ---- keeping what is wanted

-- What holds of the list as it is, and of the list with a wanted set kept, holds of what is kept.
pub keep_if-elim : (b : Bool) (P : List (List ℕ) → Type 0) (l : List (List ℕ)) (T : List ℕ) → P l → (b ≡ true → P (keep l T)) → P (keep_if b l T)
unfolding keep_if
keep_if-elim true P l T old new = new refl
keep_if-elim false P l T old new = old

pub keep_if-yes : (b : Bool) (l : List (List ℕ)) (T : List ℕ) → b ≡ true → keep_if b l T ≡ keep l T
unfolding keep_if
keep_if-yes b l T e = rw e

pub keep_if-no : (b : Bool) (l : List (List ℕ)) (T : List ℕ) → b ≡ false → keep_if b l T ≡ l
unfolding keep_if
keep_if-no b l T e = rw e

-- ---- the invariant

module _ (W : Tables) where
  -- The row at place j was tried on record i.
  abbrev pub Tried : State → ℕ → ℕ → Type 0
  Tried q i j = ((i + 1 < q.taken) × (j < length (rows W))) ⊎ ((i + 1 ≡ q.taken) × (j < q.next))

  -- What the trial of the row at place j on T finds.
  abbrev pub found_by : List ℕ → ℕ → List ℕ
  found_by T j = (trial W T (row_at W j)).rows

  -- Without rows there is no JCC set.
  pub none-jcc : length (rows W) ≡ 0 → (T : List ℕ) → JCC W T → ⊥
  none-jcc e T j =
      let (t, m) = j.some in
      let (i, l, q) = row-place W (row_in T t) (member-row W T j.valid t m) in
      omega arith

  -- Every pair that was tried once the next trial is done: an old one, or the trial itself.
  tried-next : (q : State) (i j : ℕ) → q.taken ≤ length q.sets → Tried (record { sets = q.sets; taken = q.taken; next = q.next + 1 }) i j
      → (i < length q.sets) × (Tried q i j ⊎ ((i ≡ q.taken - 1) × (j ≡ q.next)))
  tried-next q i j h (inl t) = (omega (arith, t.0), inl (inl t))
  tried-next q i j h (inr t) =
      let c = below_suc {u = j} {k = q.next} (omega (arith, t.1)) in
      (omega (arith, t.0), ⊎_elim (λ e. inr (omega (arith, t.0), e)) (λ l. inl (inr (t.0, l))) c)

-- `a` is what is asked for.
module _ (W : Tables) (a : Asked) where
  pub record Going (q : State) : Type 0 where
    pub maximal : (T : List ℕ) → Memᴰ T q.sets → Maximal W T
    pub wants : (T : List ℕ) → Memᴰ T q.sets → wanted a T ≡ true
    pub distinct : Distinct q.sets
    pub taken-le : q.taken ≤ length q.sets
    pub next_le : q.next ≤ length (rows W)
    pub tried : (i j : ℕ) → Tried W q i j → wanted a (found_by W (get_or q.sets i []) j) ≡ true → Memᴰ (found_by W (get_or q.sets i []) j) q.sets

  -- Its sets are among those asked for.
  pub going-sought : (q : State) → Going q → (T : List ℕ) → Memᴰ T q.sets → Sought W a T
  going-sought q g T m = sought W a T (g.maximal T m) (g.wants T m)

  pub going-take : (q : State) → Going q → q.taken < length q.sets → q.next ≡ length (rows W) → Going (take q)
  unfolding take
  going-take q g h b =
      record {
        maximal = g.maximal;
        wants = g.wants;
        distinct = g.distinct;
        taken-le = omega arith;
        next_le = omega arith;
        tried = λ i j t. g.tried i j (go i j t);
      }
    where
      go : (i j : ℕ) → Tried W (take q) i j → Tried W q i j
      go i j (inl t) =
          ⊎_elim (λ e. inr (e, omega (arith, t.1))) (λ l. inl (l, t.1)) (below_suc {u = i + 1} {k = q.taken} (omega (arith, t.0)))
      go i j (inr t) = absurd (not-suc-le-zero t.1)

  module _ (S : Symmetric W) where
    -- "Open": one row's extension, which is wanted.
    pub going-open : (s : Place) → Row W s.table s.row → wanted a (extension W (alone W s)).rows ≡ true
        → Going (record { sets = (extension W (alone W s)).rows ∷ []; taken = 0; next = length (rows W) })
    going-open s r w =
        record {
          maximal = λ T m. rw (Memᴰ.eq_of_singleton m) (row-stands W S s r).0;
          wants = λ T m. rw (Memᴰ.eq_of_singleton m) w;
          distinct = more Memᴰ.not-nil none;
          taken-le = omega arith;
          next_le = omega arith;
          tried = λ i j. ⊎_elim (λ t. absurd (omega (arith, t.0))) (λ t. absurd (omega (arith, t.0)));
        }

    -- What the next trial finds is maximal.
    pub next-maximal : (q : State) → Going q → 0 < q.taken → q.next < length (rows W) → Maximal W (trial_now W q).rows
    next-maximal q g h b =
        let l : q.taken - 1 < length q.sets = omega (arith, g.taken-le) in
        let T = get_or q.sets (q.taken - 1) [] in
        trial-maximal W S T (row_at W q.next) (g.maximal T (mem-at q.sets [] (q.taken - 1) l)).jcc (row_at-row W q.next b)

    pub going-try : (q : State) → Going q → 0 < q.taken → q.next < length (rows W) → Going (try W a q)
    unfolding try
    going-try q g h b =
        record {
          maximal = λ T. keep_if-elim yes-no (λ l. Memᴰ T l → Maximal W T) q.sets new (g.maximal T)
              (λ w m. ⊎_elim (λ k. g.maximal T k) (λ e. rw e (next-maximal q g h b)) (keep-cases q.sets new T m));
          wants = λ T. keep_if-elim yes-no (λ l. Memᴰ T l → wanted a T ≡ true) q.sets new (g.wants T)
              (λ w m. ⊎_elim (λ k. g.wants T k) (λ e. rw e w) (keep-cases q.sets new T m));
          distinct = keep_if-elim yes-no Distinct q.sets new g.distinct (λ w. keep-distinct q.sets new g.distinct);
          taken-le = keep_if-elim yes-no (λ l. q.taken ≤ length l) q.sets new g.taken-le (λ w. omega (arith, g.taken-le, keep-long q.sets new));
          next_le = omega arith;
          tried = λ i j t w.
              let m = tried-next W q i j g.taken-le t in
              let e : get_or kept i [] ≡ get_or q.sets i [] =
              keep_if-elim yes-no (λ l. get_or l i [] ≡ get_or q.sets i []) q.sets new refl (λ v. keep_at q.sets new i m.0) in
              rw e (go i j m.1 (rw e at w));
        }
      where
        new : List ℕ
        new = (trial_now W q).rows

        yes-no : Bool
        yes-no = wanted a new

        kept : List (List ℕ)
        kept = keep_if yes-no q.sets new

        go : (i j : ℕ) → Tried W q i j ⊎ ((i ≡ q.taken - 1) × (j ≡ q.next)) → wanted a (found_by W (get_or q.sets i []) j) ≡ true
            → Memᴰ (found_by W (get_or q.sets i []) j) kept
        go i j (inl t) w =
            let m = g.tried i j t w in
            keep_if-elim yes-no (λ l. Memᴰ (found_by W (get_or q.sets i []) j) l) q.sets new m
            (λ v. keep-old q.sets new (found_by W (get_or q.sets i []) j) m)
        go i j (inr (e, f)) w =
            let v : wanted a new ≡ true = rw (e, f) at w in
            rw (e, f, keep_if-yes yes-no q.sets new v) (keep-in q.sets new)

    -- ---- the end

    -- "Finished": taken is found and next row is N. The sets are exactly those asked for.
    pub finished : Present W a → (q : State) → Going q → 0 < length q.sets → q.taken ≡ length q.sets → q.next ≡ length (rows W)
        → (T : List ℕ) → Sought W a T ↔ Memᴰ T q.sets
    finished there q g p e b T = (
      λ x.
          let m = mem-at q.sets [] 0 p in
          complete-asked W S a there (λ U. Memᴰ U q.sets) (λ U k. (g.maximal U k).jcc) closed
          (get_or q.sets 0 []) m (g.wants (get_or q.sets 0 []) m) T (sought-maximal W a T x) (sought-wanted W a T x),
      going-sought q g T,
    )
      where
        closed : (U : List ℕ) (s : Place) → Memᴰ U q.sets → Row W s.table s.row → wanted a (trial W U s).rows ≡ true
            → Memᴰ (trial W U s).rows q.sets
        closed U s m r w =
            let (i, k, f) = at_mem [] m in
            let (j, l, h) = row-place W s r in
            rw (f, h) (g.tried i j (⊎_elim (λ c. inr (c, rw b l)) (λ c. inl (c, l)) (below_suc {u = i + 1} {k = q.taken} (omega arith))) (rw (f, h) at w))

    -- A trial that finds a new set while c are stored shows that there are more than c.
    pub full-more : (q : State) → Going q → 0 < q.taken → q.next < length (rows W) → length q.sets < length (try W a q).sets
        → MoreOf (Sought W a) (length q.sets)
    full-more q g p b h = let k = going-try q g p b in ((try W a q).sets, k.distinct, going-sought (try W a q) k, h)

    -- Once finished, there are no more than those stored.
    pub finished-no-more : Present W a → (q : State) → Going q → 0 < length q.sets → q.taken ≡ length q.sets → q.next ≡ length (rows W)
        → MoreOf (Sought W a) (length q.sets) → ⊥
    finished-no-more there q g p e b (l, d, m, h) =
        omega (arith, distinct-le l q.sets d (λ T k. (finished there q g p e b T).0 (m T k)))

    -- At any time there are at most as many as in any list of all the sets asked for.
    pub at_most : (q : State) → Going q → (l : List (List ℕ)) → ((T : List ℕ) → Sought W a T → Memᴰ T l) → length q.sets ≤ length l
    at_most q g l f = distinct-le q.sets l g.distinct (λ T m. f T (going-sought q g T m))
