-- What the code goes by: the verdict on the listed words, step by step as the check takes them. Assumes nothing.
use Prim.Native.Nat.{ℕ, zero, suc, ◌+◌, ◌^◌, ◌≤◌, ◌<◌}
use native.Mathlib.Omega.{arith}
use native.Mathlib.Nat.{not-suc-le-zero}
use native.Mathlib.Numerals.{add-one}
use mathlib.Core.Path.{◌≡◌, refl, sym, ap, ap₂, subst, ◌∙◌}
use mathlib.Core.Logic.{◌⊎◌, inl, inr, ⊎_elim}
use mathlib.Core.Bool.{true, false, cond}
use mathlib.Core.List.{List, [], ◌∷◌, ◌++◌, Memᴰ}
use lib.ListN.{length, get_or, drop}
use lib.Seq.{drop-cons, drop-length}
use lib.Dec.{eqb}
use borrow.Author.Tests.{eqb-true, eq-eqb}
use Rattle.laws.specs.Tests.{all, lowest, without, lowest_below}
use Rattle.laws.proofs.TestLaws.{which, clash, iff-eq, not_yes, any_of, FirstBelow, first_below, lowest-at}
use Rattle.laws.proofs.MemberLaws.{mem-at, at_mem}
use Rattle.keys.specs.Keys.{bits_per_row, row_of, key_of}
use Rattle.keys.specs.TwoWords.{bits_per_word, number_of, key_with}
use Rattle.keys.specs.declared.Key as keys
use Rattle.keys.proofs.TwoWordLaws.{key-low, key-high}
use Rattle.keys.proofs.SetLaws.{in-at, in_some}
use Rattle.tables.specs.declared.Catalogue.{Catalogue}
use Rattle.tables.specs.Catalogues.{total}
use Rattle.tables.specs.Checks.{catalogue_fault, Lawful}
use Rattle.disjunction.specs.Sets.{at, Maximal}
use Rattle.disjunction.specs.Rule.{Grown, row_in, rows, row_at, member, extension, alone, trial}
use Rattle.disjunction.specs.Standing.{gives_back, standing}
use Rattle.disjunction.proofs.RowTests.{member-iff}
use Rattle.disjunction.proofs.RowOrder.{row_at-row}
use Rattle.disjunction.proofs.Completeness.{trial-maximal}
use Rattle.disjunction.proofs.StandingLaws.{valid-iff, gives-iff, maximal-back, standing-iff}
use Rattle.rows.specs.World.{world_of, set_of}
use Rattle.rows.specs.Named.{named, Named}
use Rattle.rows.proofs.WorldLaws.{world-symmetric, rows-total}
use Rattle.rows.proofs.NamedLaws.{named-iff, named-valid, named-key, valid-named}
use Rattle.store.specs.Good.{Key}
use Rattle.sets.specs.Promises.{Comes}
use Rattle.hub.specs.Answers.{Right, Missing, Refused}
use Rattle.hub.specs.Verdicts.{Verdict, right, entry, missing, listed, seek, spoilt, tried, tried_on, reached, verdict, Sound}
use Rattle.hub.specs.Promises.{word_set, word_sets, answer_of, refused_or, checked}
use Rattle.hub.specs.Searching.{among}
use Rattle.hub.proofs.VerdictLaws.{listed-iff, seek-cases, empty-none, empty-some, spoilt-iff, good-sound}
use Rattle.hub.proofs.KeyVerdicts.{right-said, named-word, sets-length, sets-at, among-iff, maximal-named, maximal-key, spoilt-key, listed-key}

-- ---- the sets that are not listed

-- What is listed is passed over; the first that is not is named.
pub seek-on : (l : List (List ℕ)) (T : List ℕ) (k : List (List ℕ)) → listed l T ≡ true → seek l (T ∷ k) ≡ seek l k
unfolding seek
seek-on l T k e = rw e

pub seek-out : (l : List (List ℕ)) (T : List ℕ) (k : List (List ℕ)) → listed l T ≡ false → seek l (T ∷ k) ≡ missing T
unfolding seek
seek-out l T k e = rw e

-- The sets of one entry, and then those of the others.
seek-past : (l a b : List (List ℕ)) → seek l a ≡ right → seek l (a ++ b) ≡ seek l b
unfolding seek
seek-past l [] b e = refl
seek-past l (T ∷ a) b e = by (which (listed l T)) (seek-past l a b)
  where
    by : (listed l T ≡ true) ⊎ (listed l T ≡ false) → (seek l a ≡ right → seek l (a ++ b) ≡ seek l b) → cond (listed l T) (seek l (a ++ b)) (missing T) ≡ seek l b
    by (inl y) ih = rw y (ih (rw y at e))
    by (inr n) ih = absurd (let f : missing T ≡ right = rw n at e in let z : ◌≡◌ {A = ℕ} 0 1 = cc in omega arith)

seek-there : (l a b : List (List ℕ)) (U : List ℕ) → seek l a ≡ missing U → seek l (a ++ b) ≡ missing U
unfolding seek
seek-there l [] b U e = absurd (let z : ◌≡◌ {A = ℕ} 0 1 = cc in omega arith)
seek-there l (T ∷ a) b U e = by (which (listed l T)) (seek-there l a b U)
  where
    by : (listed l T ≡ true) ⊎ (listed l T ≡ false) → (seek l a ≡ missing U → seek l (a ++ b) ≡ missing U) → cond (listed l T) (seek l (a ++ b)) (missing T) ≡ missing U
    by (inl y) ih = rw y (ih (rw y at e))
    by (inr n) ih = rw n (rw n at e)

-- ---- keys

-- A key is its number's.
pub number-whole : (key : keys.Key) → key.high < 2 ^ bits_per_word → key_with (number_of key) ≡ key
number-whole key h = ap₂ (λ (x y : ℕ). record { low = x; high = y }) (sym (key-low key h)) (sym (key-high key h))

-- ---- the refusals

module _ (cat : Catalogue) (cells words : List ℕ) where
  pub checked_refused : (f : ℕ) → f ≡ catalogue_fault cat (length cells) → (f ≡ 0 → ⊥) → checked cat cells words ≡ Refused f
  unfolding checked
  checked_refused f e n = rw (← e) (by f n)
    where
      by : (k : ℕ) → (k ≡ 0 → ⊥) → refused_or k (answer_of (verdict (world_of cat cells) (word_sets cat words))) ≡ Refused k
      by zero m = absurd (m refl)
      by (suc k) m = refl

  pub checked-lawful : catalogue_fault cat (length cells) ≡ 0 → checked cat cells words ≡ answer_of (verdict (world_of cat cells) (word_sets cat words))
  unfolding checked
  checked-lawful e = rw e

module _ (cat : Catalogue) (cells : List ℕ) (lent : ℕ) (L : Lawful cat lent) where
  -- ---- one word

  -- A table without a row of the set gives it back,
  pub gives_none : (key t : ℕ) → t < cat.n → row_of bits_per_row key t ≡ 0 → gives_back (world_of cat cells) (set_of cat key) t ≡ true
  gives_none key t l z = (gives-iff (world_of cat cells) (set_of cat key) t).1 (λ m. absurd (omega (arith, in-at bits_per_row cat.n key t l)))

  -- and another exactly where the trial of its row comes to the key again.
  module _ (key t : ℕ) (N : Named cat key) (l : t < cat.n) (to count : ℕ)
      (g : Comes cat (trial (world_of cat cells) (set_of cat key) (record { table = t; row = row_of bits_per_row key t })) to count) where
    own : trial (world_of cat cells) (set_of cat key) (row_in (set_of cat key) t)
        ≡ trial (world_of cat cells) (set_of cat key) (record { table = t; row = row_of bits_per_row key t })
    own = ap (λ (r : ℕ). trial (world_of cat cells) (set_of cat key) (record { table = t; row = r })) (in-at bits_per_row cat.n key t l)

    pub gives-tried : 0 < row_of bits_per_row key t → gives_back (world_of cat cells) (set_of cat key) t ≡ eqb to key
    gives-tried p =
        iff-eq (gives_back (world_of cat cells) (set_of cat key) t) (eqb to key)
        (λ y.
        let e = (gives-iff (world_of cat cells) (set_of cat key) t).0 y (rw (in-at bits_per_row cat.n key t l) p) in
        eq-eqb to key (g.key ∙ ap (key_of bits_per_row) (sym (ap (λ (x : Grown). x.rows) own) ∙ e) ∙ named-key cat cells key N))
        (λ y.
        (gives-iff (world_of cat cells) (set_of cat key) t).1
        (λ m. ap (λ (x : Grown). x.rows) own ∙ sym g.rows ∙ ap (set_of cat) (eqb-true to key y)))

  -- A word that names no set is no maximal set; of another, the trials of its own rows decide.
  pub lost-standing : (word : ℕ) → named cat word ≡ false → standing (world_of cat cells) (word_set cat word) ≡ false
  lost-standing word e =
      not_yes (standing (world_of cat cells) (word_set cat word))
      (λ y. clash (maximal-named cat cells lent L word ((standing-iff (world_of cat cells) (world-symmetric cat cells) (word_set cat word)).0 y)) e)

  pub named-standing : (word : ℕ) → named cat word ≡ true
      → standing (world_of cat cells) (word_set cat word) ≡ all cat.n (gives_back (world_of cat cells) (set_of cat word))
  unfolding standing
  named-standing word e =
      let N = (named-iff cat word).0 e in
      let (t, l, p) = in_some bits_per_row cat.n word N.low N.some in
      let m = (member-iff (set_of cat word) t).1 (rw (in-at bits_per_row cat.n word t l) p) in
      rw (
        named-word cat word e,
        (valid-iff (world_of cat cells) (set_of cat word)).1 (named-valid cat cells word N),
        any_of cat.n (member (set_of cat word)) t l m,
      )

  -- A maximal set's word names rows.
  pub standing-named : (word : ℕ) → standing (world_of cat cells) (word_set cat word) ≡ true → Named cat word
  standing-named word y =
      (named-iff cat word).0 (maximal-named cat cells lent L word ((standing-iff (world_of cat cells) (world-symmetric cat cells) (word_set cat word)).0 y))

  -- The trial of a row of a maximal set itself comes to the set's own key.
  pub reached-own : (key t r : ℕ) → Named cat key → Maximal (world_of cat cells) (set_of cat key) → t < cat.n → 0 < r → row_of bits_per_row key t ≡ r
      → key ≡ key_of bits_per_row (trial (world_of cat cells) (set_of cat key) (record { table = t; row = r })).rows
  reached-own key t r N x l p e =
      let q : at (set_of cat key) t ≡ r = in-at bits_per_row cat.n key t l ∙ e in
      sym (named-key cat cells key N)
      ∙ ap (key_of bits_per_row) (sym (maximal-back (world_of cat cells) (world-symmetric cat cells) (set_of cat key) x t (omega arith)))
      ∙ ap (λ (z : ℕ). key_of bits_per_row (trial (world_of cat cells) (set_of cat key) (record { table = t; row = z })).rows) q

  -- ---- the empty list

  pub none_right : total cat ≡ 0 → answer_of (verdict (world_of cat cells) []) ≡ Right
  none_right z = ap answer_of (empty-none (world_of cat cells) (rows-total cat cells ∙ z))

  pub none-missing : 0 < total cat
      → answer_of (verdict (world_of cat cells) []) ≡ Missing (key_with (key_of bits_per_row (extension (world_of cat cells) (alone (world_of cat cells) (row_at (world_of cat cells) 0))).rows))
  none-missing h = ap answer_of (empty-some (world_of cat cells) (omega (arith, rows-total cat cells)))

  -- ---- the entries

  module _ (words : List ℕ) where
    abbrev sets : List (List ℕ)
    sets = word_sets cat words

    pub spoilt-lost : (i : ℕ) → standing (world_of cat cells) (word_set cat (get_or words i 0)) ≡ false → spoilt (world_of cat cells) sets i ≡ true
    unfolding spoilt
    spoilt-lost i e = rw (sets-at cat words i, e)

    pub spoilt-new : (i : ℕ) → standing (world_of cat cells) (word_set cat (get_or words i 0)) ≡ true
        → spoilt (world_of cat cells) sets i ≡ among words i (get_or words i 0)
    spoilt-new i y =
        iff-eq (spoilt (world_of cat cells) sets i) (among words i (get_or words i 0))
        (λ s. ⊎_elim (λ n. absurd (n ((maximal-key cat cells lent L (get_or words i 0)).0 x))) (λ r. (among-iff words i (get_or words i 0)).1 r)
        ((spoilt-key cat cells lent L words i).0 ((spoilt-iff (world_of cat cells) (world-symmetric cat cells) sets i).0 s)))
        (λ a. (spoilt-iff (world_of cat cells) (world-symmetric cat cells) sets i).1
        ((spoilt-key cat cells lent L words i).1 (inr ((among-iff words i (get_or words i 0)).0 a))))
      where
        x : Maximal (world_of cat cells) (word_set cat (get_or words i 0))
        x = (standing-iff (world_of cat cells) (world-symmetric cat cells) (word_set cat (get_or words i 0))).0 y

    -- The first entry that is spoilt is the verdict;
    pub judged-entry : (i : ℕ) → lowest i ≡ lowest_below (length words) (spoilt (world_of cat cells) sets) → verdict (world_of cat cells) sets ≡ entry i
    unfolding verdict
    judged-entry i e = rw (sets-length cat words, ← e)

    -- where there is none, what is reached decides,
    judged-rest : without ≡ lowest_below (length words) (spoilt (world_of cat cells) sets)
        → verdict (world_of cat cells) sets ≡ seek sets (reached (world_of cat cells) sets)
    unfolding verdict
    judged-rest e = rw (sets-length cat words, ← e)

    -- and every entry is good.
    pub judged-sound : without ≡ lowest_below (length words) (spoilt (world_of cat cells) sets) → Sound (world_of cat cells) sets
    judged-sound e =
        good-sound (world_of cat cells) (world-symmetric cat cells) sets
        (λ u l. by (first_below (length words) (spoilt (world_of cat cells) sets)) u (rw (sets-length cat words) at l))
      where
        by : FirstBelow (length words) (spoilt (world_of cat cells) sets) → (u : ℕ) → u < length words → spoilt (world_of cat cells) sets u ≡ false
        by (inl (t, l, y, n)) u b = let f = lowest-at (length words) (spoilt (world_of cat cells) sets) t l y n in let z : ◌≡◌ {A = ℕ} 0 1 = cc in absurd (omega arith)
        by (inr n) u b = n u b

    -- An entry's set is maximal, and its word names it.
    pub entry-maximal : Sound (world_of cat cells) sets → (i : ℕ) → i < length words → Maximal (world_of cat cells) (word_set cat (get_or words i 0))
    entry-maximal s i l = s.maximal _ (subst (λ (T : List ℕ). Memᴰ T sets) (sets-at cat words i) (mem-at sets [] i (rw sets-length l)))

    pub entry_named : Sound (world_of cat cells) sets → (i : ℕ) → i < length words → Named cat (get_or words i 0)
    entry_named s i l =
        standing-named (get_or words i 0) ((standing-iff (world_of cat cells) (world-symmetric cat cells) _).1 (entry-maximal s i l))

    pub entry_set : Sound (world_of cat cells) sets → (i : ℕ) → i < length words → word_set cat (get_or words i 0) ≡ set_of cat (get_or words i 0)
    entry_set s i l = named-word cat (get_or words i 0) ((named-iff cat (get_or words i 0)).1 (entry_named s i l))

    -- ---- the trials on one entry

    module _ (s : Sound (world_of cat cells) sets) (T : List ℕ) (x : Maximal (world_of cat cells) T) where
      -- A maximal set is listed where its key is among the words.
      listed-among : (U : List ℕ) → Maximal (world_of cat cells) U → listed sets U ≡ among words (length words) (key_of bits_per_row U)
      listed-among U y =
          iff-eq (listed sets U) (among words (length words) (key_of bits_per_row U))
          (λ e.
          let (i, l, q) = at_mem 0 ((listed-key cat cells lent L words s U y).0 ((listed-iff sets U).0 e)) in
          (among-iff words (length words) (key_of bits_per_row U)).1 (i, l, sym q))
          (λ e.
          let (i, l, q) = (among-iff words (length words) (key_of bits_per_row U)).0 e in
          (listed-iff sets U).1 ((listed-key cat cells lent L words s U y).1 (rw q at (mem-at words 0 i l))))

      abbrev at_row : ℕ → List ℕ
      at_row j = (trial (world_of cat cells) T (row_at (world_of cat cells) j)).rows

      row-maximal : (j : ℕ) → j < total cat → Maximal (world_of cat cells) (at_row j)
      row-maximal j l =
          trial-maximal (world_of cat cells) (world-symmetric cat cells) T (row_at (world_of cat cells) j) x.jcc
          (row_at-row (world_of cat cells) j (rw (rows-total cat cells) l))

      -- It has a key of n rows.
      pub row_low : (j to : ℕ) → j < total cat → to ≡ key_of bits_per_row (at_row j) → Key bits_per_row cat.n to
      row_low j to l e =
          let y = row-maximal j l in
          let (t, h) = y.jcc.some in
          rw e (valid-named cat cells lent L (at_row j) y.jcc.valid t h).low

      abbrev from : ℕ → List (List ℕ)
      from j = tried (world_of cat cells) T (drop j (rows (world_of cat cells)))

      tried-cons : (j : ℕ) → j < total cat → from j ≡ at_row j ∷ from (j + 1)
      unfolding tried
      tried-cons j l =
          ap (tried (world_of cat cells) T) (drop-cons (rows (world_of cat cells)) j (record { table = 0; row = 0 }) (rw (rows-total cat cells) l))
          ∙ ap (λ (k : ℕ). at_row j ∷ from k) (sym (add-one j))

      -- The trial of the row at place j leads to a listed set, or out of the list.
      pub tries-on : (j to : ℕ) → j < total cat → to ≡ key_of bits_per_row (at_row j) → among words (length words) to ≡ true → seek sets (from j) ≡ seek sets (from (j + 1))
      tries-on j to l e a =
          ap (seek sets) (tried-cons j l)
          ∙ seek-on sets (at_row j) (from (j + 1)) (listed-among (at_row j) (row-maximal j l) ∙ ap (among words (length words)) (sym e) ∙ a)

      pub tries-out : (j to : ℕ) → j < total cat → to ≡ key_of bits_per_row (at_row j) → among words (length words) to ≡ false
          → answer_of (seek sets (from j)) ≡ Missing (key_with to)
      tries-out j to l e a =
          ap answer_of
          (ap (seek sets) (tried-cons j l)
          ∙ seek-out sets (at_row j) (from (j + 1)) (listed-among (at_row j) (row-maximal j l) ∙ ap (among words (length words)) (sym e) ∙ a))
          ∙ ap (λ (z : ℕ). Missing (key_with z)) (sym e)

      pub tries-end : (j : ℕ) → total cat ≤ j → j ≤ total cat → seek sets (from j) ≡ right
      unfolding tried seek
      tries-end j a b =
          let e : j ≡ length (rows (world_of cat cells)) = omega (arith, rows-total cat cells) in
          rw (e, drop-length (rows (world_of cat cells)))

      -- Where they leave the list nowhere, the later entries decide; else the set that they leave it for is named.
      pub entry-on : (k : List (List ℕ)) → answer_of (seek sets (from 0)) ≡ Right
          → seek sets (tried_on (world_of cat cells) (T ∷ k)) ≡ seek sets (tried_on (world_of cat cells) k)
      unfolding tried_on
      entry-on k e = seek-past sets (from 0) (tried_on (world_of cat cells) k) (right-said (seek sets (from 0)) e)

      pub entry-out : (k : List (List ℕ)) (key : keys.Key) → answer_of (seek sets (from 0)) ≡ Missing key
          → answer_of (seek sets (tried_on (world_of cat cells) (T ∷ k))) ≡ Missing key
      unfolding tried_on
      entry-out k key e =
          ⊎_elim (λ y. absurd (let f : Right ≡ Missing key = sym (ap answer_of y) ∙ e in let z : ◌≡◌ {A = ℕ} 0 1 = cc in omega arith))
          (λ (U, q, m). ap answer_of (seek-there sets (from 0) (tried_on (world_of cat cells) k) U q ∙ sym q) ∙ e)
          (seek-cases sets (from 0))

    -- ---- the trials on all of them

    pub empty-sets : length words ≡ 0 → sets ≡ []
    empty-sets = by words
      where
        by : (l : List ℕ) → length l ≡ 0 → word_sets cat l ≡ []
        by [] e = refl
        by (k ∷ l) e = absurd (omega arith)

    some-reached : 0 < length words → reached (world_of cat cells) sets ≡ tried_on (world_of cat cells) sets
    unfolding reached
    some-reached = by words
      where
        by : (l : List ℕ) → 0 < length l → reached (world_of cat cells) (word_sets cat l) ≡ tried_on (world_of cat cells) (word_sets cat l)
        by [] h = absurd (not-suc-le-zero h)
        by (k ∷ l) h = refl

    module _ (s : Sound (world_of cat cells) sets) where
      -- Those of the entries from place i on.
      abbrev later : ℕ → List (List ℕ)
      later i = tried_on (world_of cat cells) (drop i sets)

      -- What the trials on entry i come to.
      abbrev here : ℕ → Verdict
      here i = seek sets (tried (world_of cat cells) (set_of cat (get_or words i 0)) (rows (world_of cat cells)))

      later-cons : (i : ℕ) → i < length words → drop i sets ≡ set_of cat (get_or words i 0) ∷ drop (i + 1) sets
      later-cons i l =
          drop-cons sets i [] (rw sets-length l)
          ∙ ap (λ (T : List ℕ). T ∷ drop (suc i) sets) (sets-at cat words i ∙ entry_set s i l)
          ∙ ap (λ (k : ℕ). set_of cat (get_or words i 0) ∷ drop k sets) (sym (add-one i))

      pub set-maximal : (i : ℕ) → i < length words → Maximal (world_of cat cells) (set_of cat (get_or words i 0))
      set-maximal i l = subst (Maximal (world_of cat cells)) (entry_set s i l) (entry-maximal s i l)

      pub missing-on : (i : ℕ) → i < length words → answer_of (here i) ≡ Right → seek sets (later i) ≡ seek sets (later (i + 1))
      missing-on i l e =
          ap (λ (k : List (List ℕ)). seek sets (tried_on (world_of cat cells) k)) (later-cons i l)
          ∙ entry-on s (set_of cat (get_or words i 0)) (set-maximal i l) (drop (i + 1) sets) e

      pub missing-out : (i : ℕ) (key : keys.Key) → i < length words → answer_of (here i) ≡ Missing key → answer_of (seek sets (later i)) ≡ Missing key
      missing-out i key l e =
          ap (λ (k : List (List ℕ)). answer_of (seek sets (tried_on (world_of cat cells) k))) (later-cons i l)
          ∙ entry-out s (set_of cat (get_or words i 0)) (set-maximal i l) (drop (i + 1) sets) key e

      pub missing-end : (i : ℕ) → length words ≤ i → i ≤ length words → seek sets (later i) ≡ right
      unfolding tried_on seek
      missing-end i a b =
          let e : i ≡ length sets = omega (arith, sets-length cat words) in
          rw (e, drop-length sets)

    -- The whole verdict, by what the trials come to.
    pub judged-trials : 0 < length words → without ≡ lowest_below (length words) (spoilt (world_of cat cells) sets)
        → verdict (world_of cat cells) sets ≡ seek sets (tried_on (world_of cat cells) sets)
    judged-trials h e = judged-rest e ∙ ap (seek sets) (some-reached h)
