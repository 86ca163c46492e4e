-- Whole examples, computed by the definitions: the four joins that go astray in document 01, and document 000's Example 2.3. That the sets found are all the maximal ones is `drained-all`. Assumes nothing.
use Prim.Native.Nat.{ℕ, ◌+◌, ◌-◌}
use native.Mathlib.Omega.{arith}
use native.Mathlib.Decide.{ℕ_discrete}
use mathlib.Core.Path.{◌≡◌, refl}
use mathlib.Core.Logic.{◌↔◌}
use mathlib.Core.Bool.{Bool, false, cond, ◌||◌}
use mathlib.Core.List.{List, [], ◌∷◌, Memᴰ}
use lib.ListN.{length, get_or}
use lib.Dec.{eqb}
use Rattle.laws.specs.Tests.{any, all}
use Rattle.laws.specs.Lists.{tab}
use Rattle.disjunction.specs.Sets.{Maximal}
use Rattle.disjunction.specs.Rule.{rows_to, rows_below, rows, row_at, member, absent, near, agrees, row_test, walk, grow, extension, stays, dropped, alone, joins, members_below, piece, start, trial}
use Rattle.disjunction.specs.Cells.{Cells, same, sharing, matching, tables, gives, code_below, padded}
use Rattle.disjunction.specs.Asked.{every_set}
use Rattle.disjunction.specs.Keeping.{same_dec, sets-discrete, dec_memᴰ, stored, keep, keep_if, take, try, list_open, list_move, list_tests, list_moves, tests_in}
use Rattle.disjunction.proofs.CellLaws.{tables-symmetric}
use Rattle.disjunction.proofs.Draining.{ended, drained-all}

-- Whether a scheme, as a list of attributes, has attribute a; and the code of a in a row, which lists the codes by the scheme's attributes.
holds : List ℕ → ℕ → Bool
holds [] a = false
holds (b ∷ s) a = eqb b a || holds s a

code_at : List ℕ → List ℕ → ℕ → ℕ
code_at [] r a = 0
code_at (b ∷ s) [] a = 0
code_at (b ∷ s) (x ∷ r) a = cond (eqb b a) x (code_at s r a)

-- Tables by their schemes and their rows.
cells_of : ℕ → List (List ℕ) → List (List (List ℕ)) → Cells
cells_of m schemes tables =
    record {
      m = m;
      n = length schemes;
      count = λ t. length (get_or tables t []);
      has = λ t a. holds (get_or schemes t []) a;
      cell = λ t r a. code_at (get_or schemes t []) (get_or (get_or tables t []) (r - 1) []) a;
    }

-- ---- the tables

-- "Rows without a shared attribute are put in one set with nothing between them. That is a product."
apart : Cells
apart = cells_of 2 ((0 ∷ []) ∷ (1 ∷ []) ∷ []) (((2 ∷ []) ∷ []) ∷ ((2 ∷ []) ∷ []) ∷ [])

-- "One pass extends the set, and a row that became connected later is missed": table 1's, by table 2's.
later : Cells
later = cells_of 2 ((0 ∷ []) ∷ (1 ∷ []) ∷ (0 ∷ 1 ∷ []) ∷ []) (((2 ∷ []) ∷ []) ∷ ((2 ∷ []) ∷ []) ∷ ((2 ∷ 2 ∷ []) ∷ []) ∷ [])

-- "Two tables over attributes 0 and 1, each with the row (1, null), give two sets with one padded row."
twins : Cells
twins = cells_of 2 ((0 ∷ 1 ∷ []) ∷ (0 ∷ 1 ∷ []) ∷ []) (((2 ∷ 0 ∷ []) ∷ []) ∷ ((2 ∷ 0 ∷ []) ∷ []) ∷ [])

-- "With schemes {0,1}, {0,2}, {1,2} the early null blocks a row that fits."
early : Cells
early = cells_of 3 ((0 ∷ 1 ∷ []) ∷ (0 ∷ 2 ∷ []) ∷ (1 ∷ 2 ∷ []) ∷ []) (((2 ∷ 6 ∷ []) ∷ []) ∷ ((3 ∷ 8 ∷ []) ∷ []) ∷ ((6 ∷ 8 ∷ []) ∷ []) ∷ [])

-- Example 2.3: R11 (A B C), R12 (A B D), R13 (A E F), R14 (A E G), with the rows that Figures 2 and 3 show.
four : Cells
four =
    cells_of 7 ((0 ∷ 1 ∷ 2 ∷ []) ∷ (0 ∷ 1 ∷ 3 ∷ []) ∷ (0 ∷ 4 ∷ 5 ∷ []) ∷ (0 ∷ 4 ∷ 6 ∷ []) ∷ [])
    (((2 ∷ 11 ∷ 2 ∷ []) ∷ (3 ∷ 22 ∷ 3 ∷ []) ∷ (2 ∷ 0 ∷ 4 ∷ []) ∷ [])
    ∷ ((2 ∷ 11 ∷ 2 ∷ []) ∷ (3 ∷ 23 ∷ 3 ∷ []) ∷ [])
    ∷ ((2 ∷ 12 ∷ 2 ∷ []) ∷ (3 ∷ 21 ∷ 3 ∷ []) ∷ [])
    ∷ ((2 ∷ 13 ∷ 2 ∷ []) ∷ (3 ∷ 21 ∷ 3 ∷ []) ∷ [])
    ∷ [])

-- ---- their sets

-- "MaxJCC(R) comprises the following six tuple sets": t1 u1 v1, t2 v2 w2, t3 v1, u2 v2 w2, t1 u1 w1, t3 w1.
abbrev four_sets : List (List ℕ)
four_sets =
    (1 ∷ 1 ∷ 1 ∷ 0 ∷ [])
    ∷ (2 ∷ 0 ∷ 2 ∷ 2 ∷ [])
    ∷ (3 ∷ 0 ∷ 1 ∷ 0 ∷ [])
    ∷ (0 ∷ 2 ∷ 2 ∷ 2 ∷ [])
    ∷ (1 ∷ 1 ∷ 0 ∷ 1 ∷ [])
    ∷ (3 ∷ 0 ∷ 0 ∷ 1 ∷ [])
    ∷ []

-- The stream over C is at its end after so many trials, and a step for each set, with so many row tests; it has found the sets of l in this order.
abbrev Ends : Cells → List (List ℕ) → ℕ → ℕ → Type 0
Ends C l trials tests =
    (list_moves (tables C) every_set (trials + length l) (list_open (tables C) every_set) ≡ ended (tables C) l)
    × (tests_in (tables C) every_set (trials + length l) (list_open (tables C) every_set) ≡ tests)

drained : Ends apart ((1 ∷ 0 ∷ []) ∷ (0 ∷ 1 ∷ []) ∷ []) 4 8
    × Ends later ((1 ∷ 1 ∷ 1 ∷ []) ∷ []) 3 9
    × Ends twins ((1 ∷ 0 ∷ []) ∷ (0 ∷ 1 ∷ []) ∷ []) 4 8
    × Ends early ((1 ∷ 0 ∷ 1 ∷ []) ∷ (0 ∷ 1 ∷ 1 ∷ []) ∷ []) 6 18
    × Ends four four_sets 54 770
unfolding list_moves list_move list_tests tests_in list_open try take keep_if keep stored dec_memᴰ sets-discrete same_dec ℕ_discrete trial start piece joins members_below dropped stays tab extension grow walk row_test near agrees absent member rows_below rows_to alone sharing matching same any all apart later twins early four cells_of holds code_at
drained = ((refl, refl), (refl, refl), (refl, refl), (refl, refl), (refl, refl))

-- They are all the maximal sets.
module _ (T : List ℕ) where
  apart-sets : Maximal (tables apart) T ↔ Memᴰ T ((1 ∷ 0 ∷ []) ∷ (0 ∷ 1 ∷ []) ∷ [])
  apart-sets = drained-all (tables apart) every_set (tables-symmetric apart) tt 6 ((1 ∷ 0 ∷ []) ∷ (0 ∷ 1 ∷ []) ∷ []) drained.0.0 (omega arith) T

  later-sets : Maximal (tables later) T ↔ Memᴰ T ((1 ∷ 1 ∷ 1 ∷ []) ∷ [])
  later-sets = drained-all (tables later) every_set (tables-symmetric later) tt 4 ((1 ∷ 1 ∷ 1 ∷ []) ∷ []) drained.1.0 (omega arith) T

  twins-sets : Maximal (tables twins) T ↔ Memᴰ T ((1 ∷ 0 ∷ []) ∷ (0 ∷ 1 ∷ []) ∷ [])
  twins-sets = drained-all (tables twins) every_set (tables-symmetric twins) tt 6 ((1 ∷ 0 ∷ []) ∷ (0 ∷ 1 ∷ []) ∷ []) drained.2.0 (omega arith) T

  early-sets : Maximal (tables early) T ↔ Memᴰ T ((1 ∷ 0 ∷ 1 ∷ []) ∷ (0 ∷ 1 ∷ 1 ∷ []) ∷ [])
  early-sets = drained-all (tables early) every_set (tables-symmetric early) tt 8 ((1 ∷ 0 ∷ 1 ∷ []) ∷ (0 ∷ 1 ∷ 1 ∷ []) ∷ []) drained.3.0 (omega arith) T

  four-sets : Maximal (tables four) T ↔ Memᴰ T four_sets
  four-sets = drained-all (tables four) every_set (tables-symmetric four) tt 60 four_sets drained.4.0 (omega arith) T

-- ---- their padded rows

twins-padded : padded twins (1 ∷ 0 ∷ []) ≡ padded twins (0 ∷ 1 ∷ [])
unfolding padded code_below gives member tab any twins cells_of holds code_at
twins-padded = refl

-- "From the lowest-numbered member table with that attribute": rows 1 of tables 0 and 1 disagree on attribute 0, and table 0 gives it.
early-padded : padded early (1 ∷ 1 ∷ 0 ∷ []) ≡ 2 ∷ 6 ∷ 8 ∷ []
unfolding padded code_below gives member tab any early cells_of holds code_at
early-padded = refl

-- "embed(T) is the tuple t = (A : 1, B : 10, C : 1, D : 1, E : 11, F : 1, G : null)."
four-padded : padded four (1 ∷ 1 ∷ 1 ∷ 0 ∷ []) ≡ 2 ∷ 11 ∷ 2 ∷ 2 ∷ 12 ∷ 2 ∷ 0 ∷ []
unfolding padded code_below gives member tab any four cells_of holds code_at
four-padded = refl
