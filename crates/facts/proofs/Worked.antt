-- The worked examples, computed by the definitions. That the sets found are all the maximal ones is `drained-all`. Assumes nothing.
use Prim.Native.Nat.{ℕ, zero, suc, ◌<◌}
use native.Mathlib.Omega.{arith}
use native.Mathlib.Decide.{ℕ_discrete}
use mathlib.Core.Path.{◌≡◌, refl}
use mathlib.Core.Logic.{◌↔◌}
use mathlib.Core.List.{List, [], ◌∷◌, Memᴰ}
use lib.ListN.{length, get_or}
use lib.Count.{ones, ones_in}
use Rattle.laws.specs.Tests.{any, all}
use Rattle.laws.specs.Lists.{tab}
use Rattle.words.specs.Words.{bit_of}
use Rattle.numbers.specs.Numbers.{encode, decode}
use Rattle.tables.specs.declared.Catalogue.{Catalogue}
use Rattle.tables.specs.Rows.{below}
use Rattle.tables.specs.Catalogues.{first_cell, row_start, touch, touching_below, for_tables}
use Rattle.tables.specs.Checks.{Lawful, size_fault, bad_scheme, count_fault, table_fault, tables_fault, shape_fault, misstored, stored_fault, catalogue_fault}
use Rattle.tables.specs.Versions.{version_of, some_long, most_rows_in, needless, blank}
use Rattle.tables.specs.Sample.{three, three_cells}
use Rattle.tables.proofs.CheckLaws.{fault-lawful}
use Rattle.disjunction.specs.Sets.{Tables, Maximal}
use Rattle.disjunction.specs.Rule.{rows_to, rows_below, member, absent, near, agrees, row_test, walk, grow, extension, stays, dropped, alone, joins, members_below, piece, start, trial}
use Rattle.disjunction.specs.Cells.{same, sharing, matching, gives, code_below, padded}
use Rattle.disjunction.specs.Asked.{every_set}
use Rattle.disjunction.specs.Keeping.{same_dec, sets-discrete, dec_memᴰ, stored, keep, keep_if, take, try, list_open, list_move, list_moves}
use Rattle.disjunction.proofs.Draining.{ended, drained-all}
use Rattle.rows.specs.World.{cells_in, world_of, touches_in, fits_in}
use Rattle.rows.proofs.WorldLaws.{world-symmetric}
use Rattle.padding.specs.Covering.{keeps, covering}
use Rattle.loader.specs.Reading.{refusal_at, run_end, codes, rows_from}
use Rattle.loader.specs.Load.{first_table, refused, field_at, count_at, table_at, tables_end, tables_from, scan_of, tables_codes}
use Rattle.writer.specs.Write.{encodes, tables_image, image_of, too_high, rows_fault, cells_fault, write_fault}
use Rattle.image.specs.RoundTrip.{found}
use Rattle.facts.specs.Filing.{renumbered, reordered, reordered_to, reordered_cells}
use Rattle.facts.specs.Worked.{turned_from, turned_to, turned_sets, SampleTurned, pair, pair_cells, pair_bytes, pair_sets, NullCovered, twice, twice_cells, twice_bytes, twice_sets, TwiceCovered}
use Rattle.facts.proofs.FiledLaws.{values-no-nulls}

-- The stream of the rule is at its end after so many trials and sets handed out, and has found the sets of l in this order.
abbrev Found : Tables → ℕ → List (List ℕ) → Type 0
Found W k l = list_moves W every_set k (list_open W every_set) ≡ ended W l

-- They are all the maximal sets.
found_all : (cat : Catalogue) (cells : List ℕ) (k : ℕ) (l : List (List ℕ)) → Found (world_of cat cells) k l → 0 < length l
    → (T : List ℕ) → Maximal (world_of cat cells) T ↔ Memᴰ T l
found_all cat cells k l e some T = drained-all (world_of cat cells) every_set (world-symmetric cat cells) tt k l e some T

-- ---- the sample in another order

turned-drained : Found (world_of (reordered turned_from three) (reordered_cells turned_from three three_cells)) 21 turned_sets
unfolding three three_cells reordered_to for_tables first_cell row_start bit_of ones ones_in touches_in fits_in list_moves list_move list_open try take keep_if keep stored dec_memᴰ sets-discrete same_dec ℕ_discrete trial start piece joins members_below dropped stays tab extension grow walk row_test near agrees absent member rows_below rows_to alone sharing matching same any all
turned-drained = refl

pub sample-turned : SampleTurned
unfolding three three_cells reordered_to renumbered for_tables tab first_cell touch touching_below ones ones_in
sample-turned =
    record {
      numbers = record { to-lt = to-lt; from-lt = from-lt; from-to = from-to; to-from = to-from };
      catalogue = refl;
      cells = refl;
      first = refl;
      second = refl;
      third = refl;
      sets = found_all (reordered turned_from three) (reordered_cells turned_from three three_cells) 21 turned_sets turned-drained (omega arith);
    }
  where
    -- What holds of 0, 1 and 2 holds below 3.
    three-of : (P : ℕ → Type 0) → P 0 → P 1 → P 2 → (t : ℕ) → t < 3 → P t
    three-of P a b c zero l = a
    three-of P a b c (suc zero) l = b
    three-of P a b c (suc (suc zero)) l = c
    three-of P a b c (suc (suc (suc t))) l = absurd (omega arith)

    to-lt : (t : ℕ) → t < 3 → turned_to t < 3
    to-lt = three-of (λ t. turned_to t < 3) (omega arith) (omega arith) (omega arith)

    from-lt : (u : ℕ) → u < 3 → turned_from u < 3
    from-lt = three-of (λ u. turned_from u < 3) (omega arith) (omega arith) (omega arith)

    from-to : (t : ℕ) → t < 3 → turned_from (turned_to t) ≡ t
    from-to = three-of (λ t. turned_from (turned_to t) ≡ t) refl refl refl

    to-from : (u : ℕ) → u < 3 → turned_to (turned_from u) ≡ u
    to-from = three-of (λ u. turned_to (turned_from u) ≡ u) refl refl refl

-- ---- the pair with a null

pair-drained : Found (world_of pair pair_cells) 6 pair_sets
unfolding pair pair_cells first_cell row_start bit_of ones ones_in touches_in fits_in list_moves list_move list_open try take keep_if keep stored dec_memᴰ sets-discrete same_dec ℕ_discrete trial start piece joins members_below dropped stays tab extension grow walk row_test near agrees absent member rows_below rows_to alone sharing matching same any all
pair-drained = refl

pair-loads : (scan_of pair_bytes 4 ≡ found pair) × (tables_codes 2 pair_bytes first_table ≡ pair_cells)
unfolding pair_bytes pair pair_cells decode ones ones_in first_cell touch touching_below for_tables tab bad_scheme count_fault most_rows_in needless blank below run_end codes rows_from field_at count_at table_at tables_end tables_from scan_of tables_codes
pair-loads = (refl, refl)

pair-rows : (padded (cells_in pair pair_cells) (1 ∷ 0 ∷ []) ≡ 2 ∷ 3 ∷ []) × (padded (cells_in pair pair_cells) (0 ∷ 1 ∷ []) ≡ 2 ∷ 0 ∷ [])
unfolding pair pair_cells padded code_below gives member tab any bit_of row_start first_cell ones ones_in
pair-rows = (refl, refl)

pub null-covered : NullCovered
unfolding covering keeps all
null-covered =
    record {
      loads = pair-loads;
      sets = found_all pair pair_cells 6 pair_sets pair-drained (omega arith);
      rows = pair-rows;
      covers = refl;
      other_way = refl;
    }

-- ---- one row twice

twice-drained : Found (world_of twice twice_cells) 6 twice_sets
unfolding twice twice_cells first_cell row_start bit_of ones ones_in touches_in fits_in list_moves list_move list_open try take keep_if keep stored dec_memᴰ sets-discrete same_dec ℕ_discrete trial start piece joins members_below dropped stays tab extension grow walk row_test near agrees absent member rows_below rows_to alone sharing matching same any all
twice-drained = refl

twice-clear : catalogue_fault twice (length twice_cells) ≡ 0
unfolding twice twice_cells first_cell touch touching_below ones ones_in size_fault bad_scheme count_fault table_fault tables_fault shape_fault misstored stored_fault catalogue_fault any
twice-clear = refl

twice-refused : (write_fault twice twice_cells ≡ 7) × (image_of twice twice_cells ≡ twice_bytes) × (scan_of twice_bytes 2 ≡ refused (refusal_at 7 6 0))
unfolding twice twice_cells twice_bytes first_cell touch touching_below ones ones_in size_fault bad_scheme count_fault table_fault tables_fault shape_fault misstored stored_fault catalogue_fault any version_of some_long most_rows_in blank encode encodes tables_image image_of too_high below rows_fault cells_fault write_fault decode run_end codes rows_from field_at count_at table_at tables_from scan_of
twice-refused = (refl, refl, refl)

twice-values : (k : ℕ) → k < first_cell twice twice.n → 0 < get_or twice_cells k 0
unfolding twice twice_cells first_cell ones ones_in
twice-values zero l = omega arith
twice-values (suc zero) l = omega arith
twice-values (suc (suc k)) l = absurd (omega arith)

twice-rows : (padded (cells_in twice twice_cells) (1 ∷ []) ≡ 2 ∷ []) × (padded (cells_in twice twice_cells) (2 ∷ []) ≡ 2 ∷ [])
unfolding twice twice_cells padded code_below gives member tab any bit_of row_start first_cell ones ones_in
twice-rows = (refl, refl)

twice-lawful : Lawful twice (length twice_cells)
twice-lawful = fault-lawful twice (length twice_cells) twice-clear

pub twice-covered : TwiceCovered
unfolding covering keeps all
twice-covered =
    record {
      lawful = twice-lawful;
      unwritten = twice-refused.0;
      image = twice-refused.1;
      unloaded = twice-refused.2;
      no-nulls = values-no-nulls twice twice_cells (length twice_cells) twice-lawful twice-values;
      sets = found_all twice twice_cells 6 twice_sets twice-drained (omega arith);
      rows = twice-rows;
      covers = refl;
    }
