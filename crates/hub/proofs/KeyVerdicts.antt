-- What the verdicts say of the listed words. The key of a maximal set and its set name each other, so a list of words is right, or has a spoilt entry,
-- or lacks a set, exactly where the list of its sets does. Assumes nothing.
use Prim.Native.Nat.{ℕ, ◌<◌}
use native.Mathlib.Omega.{arith}
use native.Mathlib.Nat.{not-suc-le-zero}
use mathlib.Core.Path.{◌≡◌, refl, sym, ap, subst, ◌∙◌}
use mathlib.Core.Logic.{inl, inr, ⊎_elim, ◌↔◌}
use mathlib.Core.Bool.{true, false}
use mathlib.Core.List.Memᴰ
use mathlib.Core.List.{List, [], ◌∷◌, ◌++◌, Memᴰ}
use lib.ListN.{length, get_or, length-map, get_or-map}
use lib.Dec.{eqb}
use borrow.Author.Tests.{eqb-true, eq-eqb}
use Rattle.laws.specs.Tests.{First}
use Rattle.laws.proofs.TestLaws.{which, clash, any_some, any_of}
use Rattle.laws.proofs.MemberLaws.{mem-at, at_mem}
use Rattle.laws.proofs.DistinctLaws.{distinct-at, distinct-by}
use Rattle.keys.specs.Keys.{bits_per_row, key_of}
use Rattle.keys.specs.TwoWords.{number_of, key_with}
use Rattle.keys.proofs.TwoWordLaws.{number-key}
use Rattle.tables.specs.declared.Catalogue.{Catalogue}
use Rattle.tables.specs.Checks.{Lawful}
use Rattle.disjunction.specs.Sets.{Symmetric, Maximal}
use Rattle.disjunction.specs.Standing.{standing}
use Rattle.disjunction.proofs.StandingLaws.{standing-iff}
use Rattle.rows.specs.World.{world_of, set_of}
use Rattle.rows.specs.Named.{named}
use Rattle.rows.proofs.WorldLaws.{world-symmetric}
use Rattle.rows.proofs.NamedLaws.{named-iff, named-zero, named-key, valid-set, valid-named}
use Rattle.hub.specs.Answers.{ListVerdict, Right, Entry, Missing, Refused}
use Rattle.hub.specs.Verdicts.{Verdict, right, entry, missing, FirstOut, Spoilt, reached, verdict, Sound}
use Rattle.hub.specs.Promises.{word_set, word_sets, answer_of, MaximalKey, SpoiltKey, SoundKeys, RightKeys, FirstOutKey}
use Rattle.hub.specs.Searching.{among}
use Rattle.hub.proofs.VerdictLaws.{reached-maximal, verdict-right, verdict-entry, verdict-missing, missing-maximal}

-- ---- the set of a word

module _ (cat : Catalogue) where
  pub named-word : (word : ℕ) → named cat word ≡ true → word_set cat word ≡ set_of cat word
  unfolding word_set
  named-word word e = rw e

  pub lost-word : (word : ℕ) → named cat word ≡ false → word_set cat word ≡ []
  unfolding word_set
  lost-word word e = rw e

  pub sets-length : (words : List ℕ) → length (word_sets cat words) ≡ length words
  sets-length words = length-map words (word_set cat)

  pub sets-at : (words : List ℕ) (i : ℕ) → get_or (word_sets cat words) i [] ≡ word_set cat (get_or words i 0)
  sets-at words i = ap (get_or (word_sets cat words) i) (sym (lost-word 0 (named-zero cat 0 refl))) ∙ get_or-map (word_set cat) words i 0

-- What "one of the first k words" says.
pub among-iff : (words : List ℕ) (k word : ℕ) → (among words k word ≡ true) ↔ ((j : ℕ) × (j < k) × (get_or words j 0 ≡ word))
unfolding among
among-iff words k word = (
  λ h. let (j, b, e) = any_some k (λ j. eqb (get_or words j 0) word) h in (j, b, eqb-true (get_or words j 0) word e),
  λ (j, b, e). any_of k (λ j. eqb (get_or words j 0) word) j b (eq-eqb (get_or words j 0) word e),
)

-- The answer tells the verdict.
pub right-said : (v : Verdict) → answer_of v ≡ Right → v ≡ right
right-said right e = refl
right-said (entry i) e = absurd (let z : ◌≡◌ {A = ℕ} 0 1 = cc in omega arith)
right-said (missing T) e = absurd (let z : ◌≡◌ {A = ℕ} 0 1 = cc in omega arith)

module _ (cat : Catalogue) (cells : List ℕ) (lent : ℕ) (L : Lawful cat lent) where
  S : Symmetric (world_of cat cells)
  S = world-symmetric cat cells

  -- The empty set is none.
  nil-lesser : Maximal (world_of cat cells) [] → ⊥
  nil-lesser x = absurd (not-suc-le-zero x.jcc.some.1)

  -- A word whose set is maximal names rows,
  pub maximal-named : (k : ℕ) → Maximal (world_of cat cells) (word_set cat k) → named cat k ≡ true
  maximal-named k x = ⊎_elim (λ y. y) (λ n. absurd (nil-lesser (subst (Maximal (world_of cat cells)) (lost-word cat k n) x))) (which (named cat k))

  -- and is the key of its set;
  pub key-of-set : (k : ℕ) → Maximal (world_of cat cells) (word_set cat k) → key_of bits_per_row (word_set cat k) ≡ k
  key-of-set k x =
      let y = maximal-named k x in ap (key_of bits_per_row) (named-word cat k y) ∙ named-key cat cells k ((named-iff cat k).0 y)

  -- the set of a maximal set's key is the set.
  pub set-of-key : (T : List ℕ) → Maximal (world_of cat cells) T → word_set cat (key_of bits_per_row T) ≡ T
  set-of-key T x =
      let (t, m) = x.jcc.some in
      let v = x.jcc.valid in
      named-word cat (key_of bits_per_row T) ((named-iff cat (key_of bits_per_row T)).1 (valid-named cat cells lent L T v t m)) ∙ valid-set cat cells lent L T v

  pub maximal-key : (k : ℕ) → Maximal (world_of cat cells) (word_set cat k) ↔ MaximalKey cat cells k
  maximal-key k = (
    λ x. (word_set cat k, x, sym (key-of-set k x)),
    λ (T, x, e). subst (λ (w : ℕ). Maximal (world_of cat cells) (word_set cat w)) (sym e) (rw (set-of-key T x) x),
  )

  -- Two words with one maximal set are one word.
  key-same-set : (j k : ℕ) → Maximal (world_of cat cells) (word_set cat k) → word_set cat j ≡ word_set cat k → j ≡ k
  key-same-set j k x e = sym (key-of-set j (rw e x)) ∙ ap (key_of bits_per_row) e ∙ key-of-set k x

  module _ (words : List ℕ) where
    abbrev sets : List (List ℕ)
    sets = word_sets cat words

    abbrev set : ℕ → List ℕ
    set i = word_set cat (get_or words i 0)

    set-in : (i : ℕ) → i < length words → Memᴰ (set i) sets
    set-in i h = rw (← sets-at cat words i) (mem-at sets [] i (rw sets-length h))

    set-place : (T : List ℕ) → Memᴰ T sets → (i : ℕ) × (i < length words) × (T ≡ set i)
    set-place T m =
        let (i, h, e) = at_mem [] m in
        (i, rw (sets-length cat words) at h, e ∙ sets-at cat words i)

    -- ---- the entries

    pub spoilt-key : (i : ℕ) → Spoilt (world_of cat cells) sets i ↔ SpoiltKey cat cells words i
    spoilt-key i = (to, from)
      where
        e : get_or sets i [] ≡ set i
        e = sets-at cat words i

        to : Spoilt (world_of cat cells) sets i → SpoiltKey cat cells words i
        to (inl n) = inl (λ k. n (rw e ((maximal-key (get_or words i 0)).1 k)))
        to (inr (j, b, q)) =
            let r : set j ≡ set i = sym (sets-at cat words j) ∙ q ∙ e in
            ⊎_elim
            (λ y. inr (j, b, key-same-set (get_or words j 0) (get_or words i 0) ((standing-iff (world_of cat cells) S (set i)).0 y) r))
            (λ n. inl (λ k. clash ((standing-iff (world_of cat cells) S (set i)).1 ((maximal-key (get_or words i 0)).1 k)) n))
            (which (standing (world_of cat cells) (set i)))

        from : SpoiltKey cat cells words i → Spoilt (world_of cat cells) sets i
        from (inl n) = inl (λ x. n ((maximal-key (get_or words i 0)).0 (rw e at x)))
        from (inr (j, b, q)) = inr (j, b, sets-at cat words j ∙ ap (word_set cat) q ∙ sym e)

    sound-keys : Sound (world_of cat cells) sets ↔ SoundKeys cat cells words
    sound-keys = (to, from)
      where
        to : Sound (world_of cat cells) sets → SoundKeys cat cells words
        to x =
            record {
              once = distinct-by 0 words
                  (λ i j b h e.
                  distinct-at [] sets x.distinct i j b (rw sets-length h) (sets-at cat words j ∙ ap (word_set cat) e ∙ sym (sets-at cat words i)));
              only = λ k m. let (i, h, e) = at_mem 0 m in rw e ((maximal-key (get_or words i 0)).0 (x.maximal (set i) (set-in i h)));
            }

        from : SoundKeys cat cells words → Sound (world_of cat cells) sets
        from x =
            record {
              distinct = distinct-by [] sets (λ i j b h e. apart i j b (rw (sets-length cat words) at h) e);
              maximal = λ T m. let (i, h, e) = set-place T m in rw e (maximal i h);
            }
          where
            maximal : (i : ℕ) → i < length words → Maximal (world_of cat cells) (set i)
            maximal i h = (maximal-key (get_or words i 0)).1 (x.only (get_or words i 0) (mem-at words 0 i h))

            apart : (i j : ℕ) → j < i → i < length words → get_or sets j [] ≡ get_or sets i [] → ⊥
            apart i j b h e =
                distinct-at 0 words x.once i j b h
                (key-same-set (get_or words j 0) (get_or words i 0) (maximal i h) (sym (sets-at cat words j) ∙ e ∙ sets-at cat words i))

    -- A maximal set is listed exactly where its key is.
    pub listed-key : Sound (world_of cat cells) sets → (T : List ℕ) → Maximal (world_of cat cells) T → Memᴰ T sets ↔ Memᴰ (key_of bits_per_row T) words
    listed-key s T y = (
      λ m.
          let (i, h, e) = set-place T m in
          Memᴰ.cast (ap (key_of bits_per_row) e ∙ key-of-set (get_or words i 0) (subst (Maximal (world_of cat cells)) e y)) (mem-at words 0 i h),
      λ m. let (i, h, e) = at_mem 0 m in Memᴰ.cast (sym (set-of-key T y) ∙ ap (word_set cat) e) (set-in i h),
    )

    -- ---- the verdicts

    abbrev Says : ListVerdict → Type 0
    Says v = answer_of (verdict (world_of cat cells) sets) ≡ v

    -- The answer tells the verdict.
    entry-said : (v : Verdict) (i : ℕ) → answer_of v ≡ Entry i → v ≡ entry i
    entry-said right i e = absurd (let z : ◌≡◌ {A = ℕ} 0 1 = cc in omega arith)
    entry-said (entry j) i e = let q : j ≡ i = cc in ap entry q
    entry-said (missing T) i e = absurd (let z : ◌≡◌ {A = ℕ} 0 1 = cc in omega arith)

    missing-said : (v : Verdict) (k : ℕ) → answer_of v ≡ Missing (key_with k) → (T : List ℕ) × (v ≡ missing T) × (k ≡ key_of bits_per_row T)
    missing-said right k e = absurd (let z : ◌≡◌ {A = ℕ} 0 1 = cc in omega arith)
    missing-said (entry j) k e = absurd (let z : ◌≡◌ {A = ℕ} 0 1 = cc in omega arith)
    missing-said (missing T) k e =
        let q : key_with (key_of bits_per_row T) ≡ key_with k = cc in
        (T, refl, sym (number-key k) ∙ ap number_of (sym q) ∙ number-key (key_of bits_per_row T))

    -- It is never a refusal.
    pub never-refused : (v : Verdict) (k : ℕ) → answer_of v ≡ Refused k → ⊥
    never-refused right k e = let z : ◌≡◌ {A = ℕ} 0 1 = cc in omega arith
    never-refused (entry j) k e = let z : ◌≡◌ {A = ℕ} 0 1 = cc in omega arith
    never-refused (missing T) k e = let z : ◌≡◌ {A = ℕ} 0 1 = cc in omega arith

    -- "Yes exactly when the list, in any order, holds every maximal set once and nothing else."
    pub keys-right : Says Right ↔ RightKeys cat cells words
    keys-right = (
      λ e.
          let x = (verdict-right (world_of cat cells) S sets).0 (right-said (verdict (world_of cat cells) sets) e) in
          record { sound = sound-keys.0 x.sound; every = λ T y. (listed-key x.sound T y).0 (x.every T y) },
      λ x.
          let s = sound-keys.1 x.sound in
          ap answer_of ((verdict-right (world_of cat cells) S sets).1 (record { sound = s; every = λ T y. (listed-key s T y).1 (x.every T y) })),
    )

    -- "Names the first listed entry that is not a maximal set or repeats an earlier one."
    pub keys-entry : (i : ℕ) → Says (Entry i) ↔ First (length words) (SpoiltKey cat cells words) i
    keys-entry i = (
      λ e.
          let x = (verdict-entry (world_of cat cells) S sets i).0 (entry-said (verdict (world_of cat cells) sets) i e) in
          record {
            low = rw (sets-length cat words) at x.low;
            passes = (spoilt-key i).0 x.passes;
            before = λ u b s. x.before u b ((spoilt-key u).1 s);
          },
      λ x.
          ap answer_of
          ((verdict-entry (world_of cat cells) S sets i).1
          (record { low = rw sets-length x.low; passes = (spoilt-key i).1 x.passes; before = λ u b s. x.before u b ((spoilt-key u).0 s) })),
    )

    -- "Failing that, the first maximal set not in the list that the stream's trials reach."
    pub keys-missing : (k : ℕ) → Says (Missing (key_with k)) ↔ (SoundKeys cat cells words × FirstOutKey cat cells words k)
    keys-missing k = (to, from)
      where
        -- What is reached is maximal, so that it is listed where its key is.
        met : Sound (world_of cat cells) sets → (front back : List (List ℕ)) (T : List ℕ) → reached (world_of cat cells) sets ≡ front ++ (T ∷ back)
            → Maximal (world_of cat cells) T × ((U : List ℕ) → Memᴰ U front → Maximal (world_of cat cells) U)
        met s front back T e = (
          reached-maximal (world_of cat cells) S sets s T (rw e (Memᴰ.append_right front (Memᴰ.head refl))),
          λ U m. reached-maximal (world_of cat cells) S sets s U (rw e (Memᴰ.append_left (T ∷ back) m)),
        )

        to : Says (Missing (key_with k)) → SoundKeys cat cells words × FirstOutKey cat cells words k
        to e =
            let (T, v, q) = missing-said (verdict (world_of cat cells) sets) k e in
            let (s, x) = (verdict-missing (world_of cat cells) S sets T).0 v in
            let (y, f) = met s x.front x.back T x.split in (
              sound-keys.0 s,
              record {
                set = T;
                front = x.front;
                back = x.back;
                split = x.split;
                key = q;
                before = λ U m. (listed-key s U (f U m)).0 (x.before U m);
                out = λ m. x.out ((listed-key s T y).1 (Memᴰ.cast (sym q) m));
              },
            )

        from : SoundKeys cat cells words × FirstOutKey cat cells words k → Says (Missing (key_with k))
        from (s', x) =
            let s = sound-keys.1 s' in
            let (y, f) = met s x.front x.back x.set x.split in
            let o : FirstOut sets (reached (world_of cat cells) sets) x.set =
            record {
              front = x.front;
              back = x.back;
              split = x.split;
              before = λ U m. (listed-key s U (f U m)).1 (x.before U m);
              out = λ m. x.out (Memᴰ.cast x.key ((listed-key s x.set y).0 m));
            } in
            ap answer_of ((verdict-missing (world_of cat cells) S sets x.set).1 (s, o)) ∙ ap (λ (z : ℕ). Missing (key_with z)) (sym x.key)

    -- A missing set is maximal.
    pub missing-key : (k : ℕ) → Says (Missing (key_with k)) → MaximalKey cat cells k
    missing-key k e =
        let (T, v, q) = missing-said (verdict (world_of cat cells) sets) k e in (T, (missing-maximal (world_of cat cells) S sets T v).0, q)
