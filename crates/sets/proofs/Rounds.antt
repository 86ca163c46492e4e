-- A round over the tables, and the rounds of an extension: what is left to do from here, with the tests made, is the whole extension. Assumes nothing.
use Prim.Native.Nat.{ℕ, zero, suc, ◌+◌, ◌-◌, ◌*◌, ◌^◌, ◌≤◌, ◌<◌}
use mathlib.Core.Path.{◌≡◌, refl, sym, ap, ap₂, ◌∙◌}
use mathlib.Core.Bool.{false}
use mathlib.Core.List.{List}
use native.Mathlib.Omega.{arith}
use native.Mathlib.Nat.{mul-le-mul, zero-add}
use native.Mathlib.Decide.{dec_lt}
use native.Mathlib.Numerals.{add-one}
use lib.ListN.{length, get_or}
use lib.Seq.{get_or-set_other}
use lib.Bits.{bit_and}
use Rattle.keys.specs.Keys.{bits_per_row, with_row, key_of}
use Rattle.keys.proofs.KeyLaws.{row_same}
use Rattle.keys.proofs.SetLaws.{in-length, in-at, in-with}
use Rattle.tables.specs.Sizes.{most_tables, most_total}
use Rattle.tables.specs.declared.Catalogue.{Catalogue}
use Rattle.tables.specs.Catalogues.{scheme_of, count_of, row_start, rows_before}
use Rattle.tables.specs.Checks.{Lawful}
use Rattle.tables.proofs.CatalogueLaws.{rows_next, rows_few}
use Rattle.disjunction.specs.Sets.{Tables, at}
use Rattle.disjunction.specs.Rule.{Place, hit, miss, walk, Grown, rows, row_test, extension}
use Rattle.disjunction.proofs.RowTests.{row_test-absent}
use Rattle.disjunction.proofs.RowOrder.{rows_below-at, rows_below-mono}
use Rattle.disjunction.proofs.Growing.{walk-hit, walk-miss}
use Rattle.disjunction.proofs.Extending.{extension-step, extension-valid}
use Rattle.rows.specs.World.{world_of, set_of}
use Rattle.rows.specs.Named.{Named, There}
use Rattle.rows.proofs.WorldLaws.{rows_before_lem, rows-total}
use Rattle.rows.proofs.NamedLaws.{named-valid, named-size, named-with, named-key, row_small}
use Rattle.walks.specs.Merged.{Merged, Added}
use Rattle.walks.specs.Firsts.{FirstIn, NoneIn}
use Rattle.sets.specs.Promises.{Reach, Comes}
use Rattle.sets.proofs.MergedLaws.{OneMore, merged-add}
use Rattle.walks.proofs.FirstLaws.{first-all}
use Rattle.sets.proofs.ClosedLaws.{tested, Shut, closed-test}
use Rattle.words.specs.Words.{LowestBit}
use Rattle.words.proofs.WordLaws.{zero_bit}

-- ---- a round

-- No place.
abbrev none : Place
none = record { table = 0; row = 0 }

-- The rows of the tables below t are tested, in c tests, and none may be added.
pub record Passed (cat : Catalogue) (cells T : List ℕ) (t c : ℕ) : Type 0 where
  pub turn : t ≤ cat.n
  pub count : c ≡ rows_before cat t
  pub clear : (j : ℕ) → j < rows_before cat t → row_test (world_of cat cells) T (get_or (rows (world_of cat cells)) j none) ≡ false

module _ (cat : Catalogue) (cells : List ℕ) where
  abbrev W : Tables
  W = world_of cat cells

  -- Where row i + 1 of table t stands in row order.
  place_of : (t i : ℕ) → t < cat.n → i < count_of cat t → get_or (rows W) (rows_before cat t + i) none ≡ record { table = t; row = suc i }
  place_of t i l h = rw (← rows_before_lem cat cells t) (rows_below-at W cat.n t i none l h)

  place_inside : (t i : ℕ) → t < cat.n → i < count_of cat t → rows_before cat t + i < length (rows W)
  place_inside t i l h = omega (arith, rows_below-mono W cat.n t l, rows_before_lem cat cells t)

  module _ (T : List ℕ) where
    pub passed_none : Passed cat cells T 0 0
    unfolding rows_before
    passed_none = record { turn = omega arith; count = refl; clear = λ j h. absurd (omega arith) }

    -- i rows of table t more.
    clear-more : (t c i : ℕ) → t < cat.n → i ≤ count_of cat t → Passed cat cells T t c
        → ((q : ℕ) → q < i → row_test W T (record { table = t; row = suc q }) ≡ false)
        → (j : ℕ) → j < rows_before cat t + i → row_test W T (get_or (rows W) j none) ≡ false
    clear-more t c i l k p h j b = go (dec_lt j (rows_before cat t))
      where
        go : Dec (j < rows_before cat t) → row_test W T (get_or (rows W) j none) ≡ false
        go (yes e) = p.clear j e
        go (no g) =
            let q : rows_before cat t + (j - rows_before cat t) ≡ j = omega arith in
            rw (← q, place_of t (j - rows_before cat t) l (omega arith)) (h (j - rows_before cat t) (omega arith))

    module _ (t c i : ℕ) (l : t < cat.n) (p : Passed cat cells T t c)
        (f : FirstIn (count_of cat t) (λ q. row_test W T (record { table = t; row = suc q })) i) where
      pub passed-next : count_of cat t ≤ i → (c' : ℕ) → c' ≡ c + count_of cat t → Passed cat cells T (t + 1) c'
      passed-next b c' more =
          record {
            turn = omega arith;
            count = omega (arith, more, p.count, rows_next cat t);
            clear = λ j h. clear-more t c i l f.within p f.before j (omega (arith, h, rows_next cat t));
          }

      pub round-hit : i < count_of cat t → walk (row_test W T) (rows W) ≡ hit (c + suc i) (record { table = t; row = suc i })
      round-hit b =
          let here = place_of t i l b in
          let n : suc (rows_before cat t + i) ≡ c + suc i = omega (arith, p.count) in
          walk-hit (row_test W T) (rows W) none (rows_before cat t + i) (place_inside t i l b) (clear-more t c i l f.within p f.before)
          (rw here (f.found b))
          ∙ ap₂ (λ (x : ℕ) (y : Place). hit x y) n here

    -- Where no table below t has a row that may be added.
    pub passed-below : (t : ℕ) → t ≤ cat.n → ((u : ℕ) → u < t → NoneIn (count_of cat u) (λ q. row_test W T (record { table = u; row = suc q })))
        → Passed cat cells T t (rows_before cat t)
    unfolding rows_before
    passed-below zero b h = passed_none
    passed-below (suc t) b h =
        rw (add-one t) at (passed-next t (rows_before cat t) (count_of cat t) (omega arith) (passed-below t (omega arith) (λ u l. h u (omega arith)))
        (first-all (count_of cat t) _ (h t (omega arith))) (omega arith) (rows_before cat (t + 1)) (rows_next cat t))

    pub round-miss : (c : ℕ) → Passed cat cells T cat.n c → walk (row_test W T) (rows W) ≡ miss c
    round-miss c p =
        walk-miss (row_test W T) (rows W) none (λ j h. p.clear j (rw (rows-total cat cells) at h)) ∙ ap (λ (x : ℕ). miss x)
        (rows-total cat cells ∙ sym p.count)

-- The tables before the lowest that is live and in reach are passed, and all are where none is.
module _ (cat : Catalogue) (cells : List ℕ) (lent : ℕ) (L : Lawful cat lent) (key live reach : ℕ) (S : Shut cat cells key live)
    (R : Reach cat (at (set_of cat key)) reach) where
  pub round-passed : (w t : ℕ) → t < cat.n → LowestBit w (bit_and live reach) t → Passed cat cells (set_of cat key) t (rows_before cat t)
  round-passed w t b l =
      passed-below cat cells (set_of cat key) t (omega arith) (λ u d. closed-test cat cells key live S lent L reach R u (omega (arith, d)) (l.below u d))

  pub round-over : bit_and live reach ≡ 0 → Passed cat cells (set_of cat key) cat.n (rows_before cat cat.n)
  round-over z =
      passed-below cat cells (set_of cat key) cat.n (omega arith) (λ u d. closed-test cat cells key live S lent L reach R u d (rw z (zero_bit u)))

-- ---- the rounds

-- c tests more.
abbrev later : ℕ → Grown → Grown
later c g = record { rows = g.rows; tests = c + g.tests }

-- The extension of `from` has come to `key`, in so many tests, with its merged row at hand.
pub record Growing (cat : Catalogue) (cells : List ℕ) (from key mask : ℕ) (codes : List ℕ) (tests : ℕ) : Type 0 where
  pub named : Named cat key
  pub merged : Merged cat cells (at (set_of cat key)) codes mask
  pub same : extension (world_of cat cells) (set_of cat from) ≡ later tests (extension (world_of cat cells) (set_of cat key))

-- At most n * N tests are made.
abbrev pub most_tests : ℕ
most_tests = most_tables * most_total

module _ (cat : Catalogue) (cells : List ℕ) (lent : ℕ) (L : Lawful cat lent) (from : ℕ) (F : Named cat from) where
  pub growing-start : (codes : List ℕ) (mask : ℕ) → Merged cat cells (at (set_of cat from)) codes mask → Growing cat cells from from mask codes 0
  growing-start codes mask M =
      record { named = F; merged = M; same = ap (λ (x : ℕ). record { rows = (extension (W cat cells) (set_of cat from)).rows; tests = x }) (sym (zero-add (extension (W cat cells) (set_of cat from)).tests)) }

  pub growing-few : (key mask : ℕ) (codes : List ℕ) (tests : ℕ) → Growing cat cells from key mask codes tests → tests ≤ most_tests
  growing-few key mask codes tests G =
      let b = (extension-valid (W cat cells) (set_of cat from) (named-valid cat cells from F) (named-size cat cells from F)).few in
      let e : (extension (W cat cells) (set_of cat from)).tests ≡ tests + (extension (W cat cells) (set_of cat key)).tests = ap (λ (g : Grown). g.tests) G.same in
      let q : length (rows (W cat cells)) ≤ most_total = omega (arith, rows_few cat lent L cat.n (omega arith), rows-total cat cells) in
      let m : cat.n * length (rows (W cat cells)) ≤ most_tests = mul-le-mul L.tables q in
      omega (arith, b, e, m)

  -- A row is found: it is there, and new to the set.
  module _ (key mask : ℕ) (codes : List ℕ) (tests t i : ℕ) (G : Growing cat cells from key mask codes tests) (l : t < cat.n)
      (f : FirstIn (count_of cat t) (tested cat cells key t) i) (b : i < count_of cat t) where
    pub found-there : There cat t (suc i)
    found-there = record { table = l; low = omega arith; high = b }

    small : suc i < 2 ^ bits_per_row
    small = row_small cat lent L t (suc i) found-there

    new : at (set_of cat key) t ≡ 0
    new = row_test-absent (W cat cells) (set_of cat key) (record { table = t; row = suc i }) (f.found b)

    pub one_more : OneMore (at (set_of cat key)) (at (set_of cat (with_row bits_per_row key t (suc i)))) t (suc i)
    one_more =
        record {
          low = omega arith;
          new = new;
          here = in-at bits_per_row cat.n (with_row bits_per_row key t (suc i)) t l ∙ row_same bits_per_row key t (suc i) small;
          others = λ u q.
              ap (λ (T : List ℕ). at T u) (in-with bits_per_row cat.n key t (suc i) l small) ∙ get_or-set_other (set_of cat key) t u (suc i) 0 q;
        }

    pub growing-hit : (c : ℕ) → Passed cat cells (set_of cat key) t c → (codes' : List ℕ) (mask' : ℕ)
        → Added cells (scheme_of cat t) (row_start cat t (suc i)) mask codes codes' mask'
        → Growing cat cells from (with_row bits_per_row key t (suc i)) mask' codes' (tests + (c + suc i))
    growing-hit c p codes' mask' A =
        record {
          named = named-with cat key t (suc i) G.named found-there small;
          merged = merged-add cat cells lent L (at (set_of cat key)) (at (set_of cat (with_row bits_per_row key t (suc i)))) t (suc i) l one_more codes codes' mask mask' G.merged A;
          same = G.same ∙ ap (later tests) step ∙ ap (λ (x : ℕ). record { rows = (extension (W cat cells) (set_of cat (with_row bits_per_row key t (suc i)))).rows; tests = x }) sums;
        }
      where
        step : extension (W cat cells) (set_of cat key) ≡ later (c + suc i) (extension (W cat cells) (set_of cat (with_row bits_per_row key t (suc i))))
        step =
            extension-step (W cat cells) (set_of cat key) (in-length bits_per_row cat.n key) (named-size cat cells key G.named)
            ∙ rw (round-hit cat cells (set_of cat key) t c i l p f b, in-with bits_per_row cat.n key t (suc i) l small)

        sums : tests + ((c + suc i) + (extension (W cat cells) (set_of cat (with_row bits_per_row key t (suc i)))).tests)
            ≡ (tests + (c + suc i)) + (extension (W cat cells) (set_of cat (with_row bits_per_row key t (suc i)))).tests
        sums = omega arith

  -- No row is found.
  pub growing-end : (key mask : ℕ) (codes : List ℕ) (tests c : ℕ) → Growing cat cells from key mask codes tests
      → Passed cat cells (set_of cat key) cat.n c → Comes cat (extension (W cat cells) (set_of cat from)) key (tests + c)
  growing-end key mask codes tests c G p =
      record {
        key = sym (named-key cat cells key G.named) ∙ ap (key_of bits_per_row) set;
        rows = set;
        tests = sym (ap (λ (g : Grown). g.tests) whole);
        named = G.named;
      }
    where
      whole : extension (W cat cells) (set_of cat from) ≡ later tests (record { rows = set_of cat key; tests = c })
      whole =
          G.same
          ∙ ap (later tests)
          (extension-step (W cat cells) (set_of cat key) (in-length bits_per_row cat.n key) (named-size cat cells key G.named)
          ∙ rw (round-miss cat cells (set_of cat key) c p))

      set : set_of cat key ≡ (extension (W cat cells) (set_of cat from)).rows
      set = sym (ap (λ (g : Grown). g.rows) whole)
