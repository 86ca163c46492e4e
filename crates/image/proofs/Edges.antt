-- The edges of document 01, each computed from the definitions. Assumes nothing.
use mathlib.Core.Path.{refl}
use lib.Count.{ones, ones_in}
use Rattle.numbers.specs.Numbers.{encode, decode}
use Rattle.tables.specs.Catalogues.{rows_before}
use Rattle.tables.specs.Rows.{below, all_null}
use Rattle.tables.specs.Checks.{bad_scheme, count_fault}
use Rattle.tables.specs.Versions.{some_long, most_rows_in, needless, blank}
use Rattle.laws.specs.Tests.{any}
use Rattle.loader.specs.Reading.{run_end, codes, rows_from}
use Rattle.loader.specs.Load.{field_at, count_at, table_at, tables_end, tables_from, scan_of, tables_codes}
use Rattle.image.specs.Edges.{NumberEdges, ImageEdges, VersionEdges, NullEdges}

pub number-edges : NumberEdges
unfolding encode decode
number-edges = record { zero_is = refl; one-group = refl; two-groups = refl; largest = refl; ends-inside = refl; too_long = refl; not-shortest = refl }

pub image-edges : ImageEdges
unfolding decode ones ones_in rows_before below bad_scheme count_fault most_rows_in needless blank run_end codes rows_from field_at count_at table_at tables_end tables_from scan_of tables_codes
image-edges =
    record {
      no_rows = refl;
      none-in-all = refl;
      one-row = refl;
      one-in-all = refl;
      null-row = refl;
      high-scheme = refl;
      equal-rows = refl;
      surplus = refl;
    }

pub version-edges : VersionEdges
unfolding decode ones ones_in any bad_scheme count_fault some_long most_rows_in needless run_end codes rows_from field_at count_at table_at tables_end tables_from scan_of
version-edges =
    record {
      two-alone = refl;
      three-alone = refl;
      one-many = refl;
      two-some = refl;
      two-most = refl;
      two-many = refl;
      surplus-first = refl;
      no-need = refl;
    }

pub null-edges : NullEdges
unfolding decode ones ones_in any below all_null bad_scheme count_fault some_long most_rows_in needless blank run_end codes rows_from field_at count_at table_at tables_end tables_from scan_of
null-edges =
    record {
      null-row = refl;
      one_value = refl;
      cell-first = refl;
      before-seven = refl;
      seven-in-one = refl;
    }
