-- `Image::tables` meets its contract. Invariant: the whole answer is the answer from table t on. Assumes nothing.
use Rattle.std.proofs.Common.{◌≡◌, ◌-◌, ◌≤◌, length, replicate}
use Rattle.tables.specs.Sizes.{most_tables, most_cells}
use Rattle.tables.specs.Catalogues.{first_cell, given}
use Rattle.tables.specs.Versions.{version_number}
use Rattle.loader.specs.Load.{tables_from}
use Rattle.loader.proofs.scanner.Image.tables.Given as goal

abbrev pub invariant-loop-t : goal.invariant-loop-t
invariant-loop-t l =
    let s = l.self.bytes.now in
    record {
      answer : tables_from l.n s (version_number l.self.version) l.self.room l.self.m l.n 0 0 (replicate 8 0) (replicate 8 0) l.at ≡ tables_from (l.n - l.t) s (version_number l.self.version) l.self.room l.self.m l.n l.t l.used l.schemes l.rows l.i;
      most : l.used ≤ most_cells;
      eight_schemes : length l.schemes ≡ most_tables;
      eight_counts : length l.rows ≡ most_tables;
      cells : first_cell (given l.self.m l.n l.schemes l.rows) l.t ≡ l.used;
    }
