-- The P list, each item computed from the definitions. Assumes nothing.
use Prim.Native.Nat.{ℕ}
use mathlib.Core.Path.{◌≡◌, refl, ap, ◌∙◌}
use mathlib.Core.List.{List}
use lib.Count.{ones, ones_in}
use Rattle.laws.specs.Tests.{any, all}
use Rattle.laws.specs.Lists.{put, tab}
use Rattle.words.specs.Words.{bit_of}
use Rattle.numbers.specs.Numbers.{decode}
use Rattle.keys.specs.Keys.{row_of, key_of, rows_in}
use Rattle.keys.specs.TwoWords.{joined, first_word, second_word}
use Rattle.tables.specs.Sizes.{most_cells}
use Rattle.tables.specs.Sample.{sample_bytes, three, three_cells}
use Rattle.tables.specs.Catalogues.{first_cell, touch, touching_below, for_tables, row_start, rows_before}
use Rattle.tables.specs.Rows.{below}
use Rattle.tables.specs.Checks.{size_fault, bad_scheme, count_fault, table_fault, tables_fault, shape_fault, misstored, stored_fault, catalogue_fault}
use Rattle.tables.specs.Versions.{most_rows_in, needless, blank}
use Rattle.disjunction.specs.Rule.{rows_to, rows_below, member, absent, near, agrees, row_test, walk, grow, extension, stays, dropped, alone, joins, members_below, piece, start, trial}
use Rattle.disjunction.specs.Cells.{same, sharing, matching, gives, code_below, padded}
use Rattle.rows.specs.World.{touches_in, fits_in}
use Rattle.rows.specs.Named.{missing, beyond, named}
use Rattle.store.specs.Store as Store
use Rattle.store.specs.Store.{link_of, search_of, filed, added, answer_of, store_after}
use Rattle.loader.specs.Reading.{run_end, codes, rows_from}
use Rattle.loader.specs.Faults.{Loaded}
use Rattle.image.specs.RoundTrip.{found}
use Rattle.loader.specs.Load.{first_table, cells_after, field_at, count_at, table_at, tables_end, tables_from, scan_of, tables_codes}
use Rattle.image.proofs.Edges.{number-edges, image-edges, version-edges, null-edges}
use Rattle.machine.specs.Machine.{placed, offered, trial_on, hand_out, due_or, work, unfit, call_fault, call, open_fault, begun, opening_for}
use Rattle.machine.specs.Runs.{run_of, handed}
use Rattle.claims.specs.Edges.{calls_on, says_in, Edges, SampleLoads}

-- ---- the sample

sample-scanned : (scan_of sample_bytes most_cells ≡ found three) × (tables_codes 3 sample_bytes first_table ≡ three_cells)
unfolding sample_bytes three three_cells decode ones ones_in first_cell touch touching_below for_tables tab bad_scheme count_fault most_rows_in needless blank below run_end codes rows_from field_at count_at table_at tables_end tables_from scan_of tables_codes
sample-scanned = (refl, refl)

pub sample-loads : SampleLoads
unfolding three
sample-loads lent after r h l =
    let e : r ≡ found three = l.answer ∙ ap (scan_of sample_bytes) h ∙ sample-scanned.0 in (
      e,
      l.cells ∙ ap (λ (x : Loaded). cells_after x.verdict (tables_codes x.catalogue.n sample_bytes first_table) lent) e
          ∙ ap (λ (c : List ℕ). put c lent) sample-scanned.1,
    )

-- ---- the list

pub edges : Edges
unfolding joined first_word second_word calls_on says_in handed run_of call call_fault work unfit due_or hand_out trial_on offered placed answer_of store_after added Store.named search_of Store.walk link_of opening_for open_fault begun catalogue_fault shape_fault stored_fault misstored touching_below touch for_tables size_fault tables_fault table_fault bad_scheme count_fault first_cell row_start rows_before named missing beyond rows_in row_of key_of filed bit_of ones ones_in touches_in fits_in sharing matching same trial start piece joins members_below dropped stays tab extension grow walk row_test near agrees absent member rows_below rows_to alone any all padded code_below gives decode most_rows_in needless blank below run_end codes rows_from field_at count_at table_at tables_end tables_from scan_of tables_codes
edges =
    record {
      numbers = number-edges;
      images = image-edges;
      versions = version-edges;
      nulls = null-edges;
      at_once = refl;
      one_set = refl;
      its-key = refl;
      values-whole = refl;
      nulls-apart = refl;
    }
