-- What each verdict on a list of sets says (request #101). A list whose entries are all good is closed under trials exactly when no trial leads out of it, and
-- then it holds every maximal set (`complete`). Assumes nothing.
use Prim.Native.Nat.{ℕ, ◌<◌}
use native.Mathlib.Omega.{arith}
use native.Mathlib.Nat.{eq-zero-or-pos}
use mathlib.Core.Path.{◌≡◌, refl, ap, subst, ◌∙◌}
use mathlib.Core.Logic.{◌⊎◌, inl, inr, ⊎_elim, ◌↔◌}
use mathlib.Core.Bool.{true, false, not}
use mathlib.Core.List.Memᴰ
use mathlib.Core.List.{List, [], ◌∷◌, ◌++◌, Memᴰ}
use lib.ListN.{length, get_or}
use borrow.Author.Tests.{eq-eqb, ne_eqb, not-true}
use Rattle.laws.specs.Tests.{any, lowest_below, First}
use Rattle.laws.specs.Distinct.{none}
use Rattle.laws.proofs.TestLaws.{which, clash, not_yes, yes_iff, or_case, or_left, or_right, any_some, any_of, FirstBelow, first_below, lowest-none, lowest-at}
use Rattle.laws.proofs.MemberLaws.{mem-at, at_mem}
use Rattle.laws.proofs.DistinctLaws.{distinct-at, distinct-by}
use Rattle.disjunction.specs.Sets.{Tables, Symmetric, Row, Maximal}
use Rattle.disjunction.specs.Rule.{Place, rows, row_at, extension, alone, trial}
use Rattle.disjunction.specs.Asked.{every_set}
use Rattle.disjunction.specs.Keeping.{sets-discrete, dec_memᴰ, list_open, list_moves}
use Rattle.disjunction.specs.Standing.{same_set, standing}
use Rattle.disjunction.proofs.RowOrder.{in_rows, rows_all}
use Rattle.disjunction.proofs.KeepingLaws.{none-jcc}
use Rattle.disjunction.proofs.Draining.{going-moves}
use Rattle.disjunction.proofs.Completeness.{trial-maximal, complete}
use Rattle.disjunction.proofs.StandingLaws.{same_set-iff, standing-iff}
use Rattle.hub.specs.Verdicts.{listed, right, entry, missing, seek, FirstOut, spoilt, Spoilt, tried, tried_on, reached, verdict, Sound, Whole}

-- ---- the sets that are not listed

pub listed-iff : (l : List (List ℕ)) (T : List ℕ) → (listed l T ≡ true) ↔ Memᴰ T l
unfolding listed
listed-iff l T = yes_iff (dec_memᴰ sets-discrete T l)

-- k is within l, or has a first set outside it.
abbrev Sought : List (List ℕ) → List (List ℕ) → Type 0
Sought l k = ((U : List ℕ) → Memᴰ U k → Memᴰ U l) ⊎ ((T : List ℕ) × FirstOut l k T)

seek-all : (l k : List (List ℕ)) → ((U : List ℕ) → Memᴰ U k → Memᴰ U l) → seek l k ≡ right
unfolding seek
seek-all l [] f = refl
seek-all l (T ∷ k) f = rw ((listed-iff l T).1 (f T (Memᴰ.head refl))) (seek-all l k (λ U m. f U (Memᴰ.tail m)))

seek-split : (l front back : List (List ℕ)) (T : List ℕ) → ((U : List ℕ) → Memᴰ U front → Memᴰ U l) → (Memᴰ T l → ⊥)
    → seek l (front ++ (T ∷ back)) ≡ missing T
unfolding seek
seek-split l [] back T f o = rw (not_yes (listed l T) (λ e. o ((listed-iff l T).0 e)))
seek-split l (U ∷ front) back T f o =
    rw ((listed-iff l U).1 (f U (Memᴰ.head refl))) (seek-split l front back T (λ X m. f X (Memᴰ.tail m)) o)

seek-first : (l k : List (List ℕ)) (T : List ℕ) → FirstOut l k T → seek l k ≡ missing T
seek-first l k T x = rw x.split (seek-split l x.front x.back T x.before x.out)

sought : (l k : List (List ℕ)) → Sought l k
sought l [] = inl (λ U m. absurd (Memᴰ.not-nil m))
sought l (T ∷ k) = go (which (listed l T)) (sought l k)
  where
    go : (listed l T ≡ true) ⊎ (listed l T ≡ false) → Sought l k → Sought l (T ∷ k)
    go (inr e) s =
        inr (T, record { front = []; back = k; split = refl; before = λ U m. absurd (Memᴰ.not-nil m); out = λ m. clash ((listed-iff l T).1 m) e })
    go (inl e) (inl f) = inl (λ U m. ⊎_elim (λ q. Memᴰ.cast q ((listed-iff l T).0 e)) (λ n. f U n) (Memᴰ.cases_cons m))
    go (inl e) (inr (U, x)) =
        inr (
          U,
          record {
            front = T ∷ x.front;
            back = x.back;
            split = ap (λ (z : List (List ℕ)). T ∷ z) x.split;
            before = λ X m. ⊎_elim (λ q. Memᴰ.cast q ((listed-iff l T).0 e)) (λ n. x.before X n) (Memᴰ.cases_cons m);
            out = x.out;
          },
        )

-- Every set of k is listed, or one that is not is named.
pub seek-cases : (l k : List (List ℕ)) → (seek l k ≡ right) ⊎ ((T : List ℕ) × (seek l k ≡ missing T) × Memᴰ T k)
seek-cases l k =
    ⊎_elim
    (λ f. inl (seek-all l k f))
    (λ (T, x). inr (T, seek-first l k T x, rw x.split (Memᴰ.append_right x.front (Memᴰ.head refl))))
    (sought l k)

module _ (W : Tables) where
  -- ---- what the trials reach

  tried-all : (T : List ℕ) (p : List Place) (s : Place) → Memᴰ s p → Memᴰ (trial W T s).rows (tried W T p)
  unfolding tried
  tried-all T [] s m = absurd (Memᴰ.not-nil m)
  tried-all T (q ∷ p) s m =
      ⊎_elim
      (λ e. Memᴰ.head (ap (λ (x : Place). (trial W T x).rows) e))
      (λ n. Memᴰ.tail (tried-all T p s n))
      (Memᴰ.cases_cons m)

  pub tried-from : (T : List ℕ) (p : List Place) (U : List ℕ) → Memᴰ U (tried W T p) → (s : Place) × Memᴰ s p × (U ≡ (trial W T s).rows)
  unfolding tried
  tried-from T [] U m = absurd (Memᴰ.not-nil m)
  tried-from T (q ∷ p) U m =
      ⊎_elim
      (λ e. (q, Memᴰ.head refl, e))
      (λ n. let (s, k, e) = tried-from T p U n in (s, Memᴰ.tail k, e))
      (Memᴰ.cases_cons m)

  tried_on-all : (l : List (List ℕ)) (T : List ℕ) (s : Place) → Memᴰ T l → Row W s.table s.row → Memᴰ (trial W T s).rows (tried_on W l)
  unfolding tried_on
  tried_on-all [] T s m r = absurd (Memᴰ.not-nil m)
  tried_on-all (U ∷ l) T s m r =
      ⊎_elim
      (λ e. Memᴰ.append_left (tried_on W l) (subst (λ (X : List ℕ). Memᴰ (trial W T s).rows (tried W X (rows W))) e (tried-all T (rows W) s (rows_all W s r))))
      (λ n. Memᴰ.append_right (tried W U (rows W)) (tried_on-all l T s n r))
      (Memᴰ.cases_cons m)

  tried_on-from : (l : List (List ℕ)) (U : List ℕ) → Memᴰ U (tried_on W l) → (T : List ℕ) × (s : Place) × Memᴰ T l × Row W s.table s.row × (U ≡ (trial W T s).rows)
  unfolding tried_on
  tried_on-from [] U m = absurd (Memᴰ.not-nil m)
  tried_on-from (T ∷ l) U m =
      ⊎_elim
      (λ n. let (s, k, e) = tried-from T (rows W) U n in (T, s, Memᴰ.head refl, in_rows W s k, e))
      (λ n. let (X, s, k, r, e) = tried_on-from l U n in (X, s, Memᴰ.tail k, r, e))
      (Memᴰ.append_cases (tried W T (rows W)) m)

  -- Open finds the extension of the first row, where there is one.
  open_none : length (rows W) ≡ 0 → (list_open W every_set).sets ≡ []
  unfolding list_open
  open_none z = rw (eq-eqb (length (rows W)) 0 z)

  open-one : 0 < length (rows W) → (list_open W every_set).sets ≡ (extension W (alone W (row_at W 0))).rows ∷ []
  unfolding list_open
  open-one h = rw (ne_eqb (length (rows W)) 0 (λ e. omega arith))

  open-some : 0 < length (rows W) → Memᴰ (extension W (alone W (row_at W 0))).rows (list_open W every_set).sets
  open-some h = rw (open-one h) (Memᴰ.head refl)

  -- The empty list: right without a row, and with one its extension is missing.
  verdict-empty : verdict W [] ≡ seek [] (list_open W every_set).sets
  unfolding verdict lowest_below reached
  verdict-empty = refl

  pub empty-none : length (rows W) ≡ 0 → verdict W [] ≡ right
  unfolding seek
  empty-none z = verdict-empty ∙ rw (open_none z)

  pub empty-some : 0 < length (rows W) → verdict W [] ≡ missing (extension W (alone W (row_at W 0))).rows
  empty-some h =
      let U = (extension W (alone W (row_at W 0))).rows in
      verdict-empty ∙ rw (open-one h) (seek-split [] [] [] U (λ X m. absurd (Memᴰ.not-nil m)) (λ m. absurd (Memᴰ.not-nil m)))

  module _ (S : Symmetric W) where
    -- All of it is maximal.
    pub reached-maximal : (l : List (List ℕ)) → Sound W l → (T : List ℕ) → Memᴰ T (reached W l) → Maximal W T
    unfolding reached list_moves
    reached-maximal [] s T m = (going-moves W every_set S tt 0).maximal T m
    reached-maximal (U ∷ l) s T m =
        let (X, p, k, r, e) = tried_on-from (U ∷ l) T m in rw e (trial-maximal W S X p (s.maximal X k).jcc r)

    -- A sound list that the trials do not leave is right.
    pub closed-right : (l : List (List ℕ)) → Sound W l → ((T : List ℕ) → Memᴰ T (reached W l) → Memᴰ T l) → Whole W l
    unfolding reached
    closed-right [] s f = record { sound = s; every = λ T x. absurd (none-jcc W (zero-rows (eq-zero-or-pos (length (rows W)))) T x.jcc) }
      where
        zero-rows : (length (rows W) ≡ 0) ⊎ (0 < length (rows W)) → length (rows W) ≡ 0
        zero-rows (inl z) = z
        zero-rows (inr h) = absurd (Memᴰ.not-nil (f (extension W (alone W (row_at W 0))).rows (open-some h)))
    closed-right (U ∷ l) s f =
        record {
          sound = s;
          every = complete W S (λ T. Memᴰ T (U ∷ l)) (λ T m. (s.maximal T m).jcc)
              (λ T p m r. f (trial W T p).rows (tried_on-all (U ∷ l) T p m r)) U (Memᴰ.head refl);
        }

    -- ---- the entries

    pub spoilt-iff : (l : List (List ℕ)) (i : ℕ) → (spoilt W l i ≡ true) ↔ Spoilt W l i
    unfolding spoilt
    spoilt-iff l i = (
      λ h.
          ⊎_elim
          (λ e. inl (λ x. clash ((standing-iff W S (get_or l i [])).1 x) (not-true (standing W (get_or l i [])) e)))
          (λ e. let (j, b, q) = any_some i (λ j. same_set (get_or l j []) (get_or l i [])) e in inr (j, b, (same_set-iff (get_or l j []) (get_or l i [])).0 q))
          (or_case (not (standing W (get_or l i []))) (any i (λ j. same_set (get_or l j []) (get_or l i []))) h),
      λ h.
          ⊎_elim
          (λ n. or_left (any i (λ j. same_set (get_or l j []) (get_or l i []))) (ap not (not_yes (standing W (get_or l i [])) (λ e. n ((standing-iff W S (get_or l i [])).0 e)))))
          (λ (j, b, q). or_right (not (standing W (get_or l i []))) (any_of i (λ j. same_set (get_or l j []) (get_or l i [])) j b ((same_set-iff (get_or l j []) (get_or l i [])).1 q)))
          h,
    )

    sound-good : (l : List (List ℕ)) → Sound W l → (i : ℕ) → i < length l → spoilt W l i ≡ false
    sound-good l s i h =
        not_yes (spoilt W l i)
        (λ e. ⊎_elim (λ n. n (s.maximal (get_or l i []) (mem-at l [] i h))) (λ (j, b, q). distinct-at [] l s.distinct i j b h q) ((spoilt-iff l i).0 e))

    pub good-sound : (l : List (List ℕ)) → ((i : ℕ) → i < length l → spoilt W l i ≡ false) → Sound W l
    good-sound l f =
        record {
          distinct = distinct-by [] l (λ i j b h e. clash ((spoilt-iff l i).1 (inr (j, b, e))) (f i h));
          maximal = λ T m.
              let (i, h, e) = at_mem [] m in
              ⊎_elim
              (λ y. rw e ((standing-iff W S (get_or l i [])).0 y))
              (λ n. absurd (clash ((spoilt-iff l i).1 (inl (λ x. clash ((standing-iff W S (get_or l i [])).1 x) n))) (f i h)))
              (which (standing W (get_or l i [])));
        }

    -- ---- the verdicts

    right-verdict : (l : List (List ℕ)) → Whole W l → verdict W l ≡ right
    unfolding verdict
    right-verdict l x =
        rw (lowest-none (length l) (spoilt W l) (sound-good l x.sound))
        (seek-all l (reached W l) (λ T m. x.every T (reached-maximal l x.sound T m)))

    entry-verdict : (l : List (List ℕ)) (i : ℕ) → First (length l) (Spoilt W l) i → verdict W l ≡ entry i
    unfolding verdict
    entry-verdict l i x =
        rw (lowest-at (length l) (spoilt W l) i x.low ((spoilt-iff l i).1 x.passes)
        (λ u b. not_yes (spoilt W l u) (λ e. x.before u b ((spoilt-iff l u).0 e))))

    missing-verdict : (l : List (List ℕ)) (T : List ℕ) → Sound W l → FirstOut l (reached W l) T → verdict W l ≡ missing T
    unfolding verdict
    missing-verdict l T s x = rw (lowest-none (length l) (spoilt W l) (sound-good l s)) (seek-first l (reached W l) T x)

    -- One of the three holds of every list.
    abbrev Judged : List (List ℕ) → Type 0
    Judged l = Whole W l ⊎ ((i : ℕ) × First (length l) (Spoilt W l) i) ⊎ ((T : List ℕ) × Sound W l × FirstOut l (reached W l) T)

    judged : (l : List (List ℕ)) → Judged l
    judged l = go (first_below (length l) (spoilt W l)) (sought l (reached W l))
      where
        go : FirstBelow (length l) (spoilt W l) → Sought l (reached W l) → Judged l
        go (inl (i, b, y, n)) s =
            inr (inl (i, record { low = b; passes = (spoilt-iff l i).0 y; before = λ u h x. clash ((spoilt-iff l u).1 x) (n u h) }))
        go (inr n) (inl f) = inl (closed-right l (good-sound l n) f)
        go (inr n) (inr (T, x)) = inr (inr (T, good-sound l n, x))

    -- "Yes exactly when the list, in any order, holds every maximal set once and nothing else."
    pub verdict-right : (l : List (List ℕ)) → (verdict W l ≡ right) ↔ Whole W l
    verdict-right l = (λ e. go e (judged l), right-verdict l)
      where
        go : verdict W l ≡ right → Judged l → Whole W l
        go e (inl x) = x
        go e (inr (inl (i, x))) = let f = entry-verdict l i x in let z : ◌≡◌ {A = ℕ} 0 1 = cc in absurd (omega arith)
        go e (inr (inr (T, s, x))) = let f = missing-verdict l T s x in let z : ◌≡◌ {A = ℕ} 0 1 = cc in absurd (omega arith)

    -- "Names the first listed entry that is not a maximal set or repeats an earlier one."
    pub verdict-entry : (l : List (List ℕ)) (i : ℕ) → (verdict W l ≡ entry i) ↔ First (length l) (Spoilt W l) i
    verdict-entry l i = (λ e. go e (judged l), entry-verdict l i)
      where
        go : verdict W l ≡ entry i → Judged l → First (length l) (Spoilt W l) i
        go e (inl x) = let f = right-verdict l x in let z : ◌≡◌ {A = ℕ} 0 1 = cc in absurd (omega arith)
        go e (inr (inl (j, x))) = let f = entry-verdict l j x in let q : i ≡ j = cc in rw q x
        go e (inr (inr (T, s, x))) = let f = missing-verdict l T s x in let z : ◌≡◌ {A = ℕ} 0 1 = cc in absurd (omega arith)

    -- "Failing that, the first maximal set not in the list that the stream's trials reach when run over the listed sets in the hub's order."
    pub verdict-missing : (l : List (List ℕ)) (T : List ℕ) → (verdict W l ≡ missing T) ↔ (Sound W l × FirstOut l (reached W l) T)
    verdict-missing l T = (λ e. go e (judged l), λ (s, x). missing-verdict l T s x)
      where
        go : verdict W l ≡ missing T → Judged l → Sound W l × FirstOut l (reached W l) T
        go e (inl x) = let f = right-verdict l x in let z : ◌≡◌ {A = ℕ} 0 1 = cc in absurd (omega arith)
        go e (inr (inl (i, x))) = let f = entry-verdict l i x in let z : ◌≡◌ {A = ℕ} 0 1 = cc in absurd (omega arith)
        go e (inr (inr (U, s, x))) = let f = missing-verdict l U s x in let q : T ≡ U = cc in rw q (s, x)

    -- It is a maximal set, and not listed.
    pub missing-maximal : (l : List (List ℕ)) (T : List ℕ) → verdict W l ≡ missing T → Maximal W T × (Memᴰ T l → ⊥)
    missing-maximal l T e =
        let (s, x) = (verdict-missing l T).0 e in
        (reached-maximal l s T (rw x.split (Memᴰ.append_right x.front (Memᴰ.head refl))), x.out)

    -- "With no rows, only the empty list is right."
    pub verdict-none : length (rows W) ≡ 0 → (l : List (List ℕ)) → (verdict W l ≡ right) ↔ (l ≡ [])
    verdict-none z l = (λ e. only l ((verdict-right l).0 e).sound, λ e. (verdict-right l).1 (rw e empty))
      where
        only : (k : List (List ℕ)) → Sound W k → k ≡ []
        only [] s = refl
        only (T ∷ k) s = absurd (none-jcc W z T (s.maximal T (Memᴰ.head refl)).jcc)

        empty : Whole W []
        empty = record {
          sound = record { distinct = none; maximal = λ T m. absurd (Memᴰ.not-nil m) };
          every = λ T x. absurd (none-jcc W z T x.jcc);
        }
