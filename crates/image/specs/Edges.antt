-- "Both sides of each edge", the items marked P of Numbers and Images, each as it stands in document 01. Proved in proofs/Edges. Assumes nothing.
use Rattle.std.specs.Prelude.{◌-◌, ◌^◌, ◌≡◌, [], ◌∷◌}
use Rattle.numbers.specs.Readings.{NumberFault}
use Rattle.numbers.specs.Numbers.{encode, decode}
use Rattle.tables.specs.Sizes.{most_cells}
use Rattle.tables.specs.Catalogues.{total}
use Rattle.loader.specs.Faults.{Good, Refused}
use Rattle.loader.specs.Reading.{refusal_at}
use Rattle.loader.specs.Load.{first_table, scan_of, tables_codes}

-- "Numbers: P 0 is `00`; P 127 is `7F`; P 128 is `80 01`; P 2^63 - 1 is `FF` eight times, then `7F`; P `80 00` gives 2; nine
-- bytes `80` give 2; eight give 1." With request #107 nine bytes `80` give 17, and each refusal tells how many bytes were looked at.
pub record NumberEdges : Type 0 where
  pub zero_is : encode 0 ≡ 0x00 ∷ []
  pub one-group : encode 127 ≡ 0x7F ∷ []
  pub two-groups : encode 128 ≡ 0x80 ∷ 0x01 ∷ []
  pub largest : encode (2 ^ 63 - 1) ≡ 0xFF ∷ 0xFF ∷ 0xFF ∷ 0xFF ∷ 0xFF ∷ 0xFF ∷ 0xFF ∷ 0xFF ∷ 0x7F ∷ []
  pub ends-inside : decode (0x80 ∷ 0x80 ∷ 0x80 ∷ 0x80 ∷ 0x80 ∷ 0x80 ∷ 0x80 ∷ 0x80 ∷ []) 0 ≡ NumberFault 1 8
  pub too_long : decode (0x80 ∷ 0x80 ∷ 0x80 ∷ 0x80 ∷ 0x80 ∷ 0x80 ∷ 0x80 ∷ 0x80 ∷ 0x80 ∷ []) 0 ≡ NumberFault 17 9
  pub not-shortest : decode (0x80 ∷ 0x00 ∷ []) 0 ≡ NumberFault 2 2

-- "Images (8,192 cells lent): .. P `01 01 01 01 00`, good, N = 0, finished at once. P `01 01 01 01 01 00`, good, one null row, one set.
-- P `01 01 01 02`, 5 at 3. P `01 01 01 01 02 05 05`, 7 at 6. P `01 01 01 01 00 00`, 9 at 5." That the streams of the first two are finished
-- at once and hold one set is said of the stream.
pub record ImageEdges : Type 0 where
  pub no_rows : (scan_of (0x01 ∷ 0x01 ∷ 0x01 ∷ 0x01 ∷ 0x00 ∷ []) most_cells).verdict ≡ Good
  pub none-in-all : total (scan_of (0x01 ∷ 0x01 ∷ 0x01 ∷ 0x01 ∷ 0x00 ∷ []) most_cells).catalogue ≡ 0
  pub one-row : (scan_of (0x01 ∷ 0x01 ∷ 0x01 ∷ 0x01 ∷ 0x01 ∷ 0x00 ∷ []) most_cells).verdict ≡ Good
  pub one-in-all : total (scan_of (0x01 ∷ 0x01 ∷ 0x01 ∷ 0x01 ∷ 0x01 ∷ 0x00 ∷ []) most_cells).catalogue ≡ 1
  pub null-row : tables_codes 1 (0x01 ∷ 0x01 ∷ 0x01 ∷ 0x01 ∷ 0x01 ∷ 0x00 ∷ []) first_table ≡ 0 ∷ []
  pub high-scheme : (scan_of (0x01 ∷ 0x01 ∷ 0x01 ∷ 0x02 ∷ []) most_cells).verdict ≡ Refused (refusal_at 5 3 0)
  pub equal-rows : (scan_of (0x01 ∷ 0x01 ∷ 0x01 ∷ 0x01 ∷ 0x02 ∷ 0x05 ∷ 0x05 ∷ []) most_cells).verdict ≡ Refused (refusal_at 7 6 0)
  pub surplus : (scan_of (0x01 ∷ 0x01 ∷ 0x01 ∷ 0x01 ∷ 0x00 ∷ 0x00 ∷ []) most_cells).verdict ≡ Refused (refusal_at 9 5 0)

-- Request #110: "3 now means neither 1 nor 2; 6 means above 255 in version 1, above 4,095 in version 2 ..; 20, a version 2 image in which no table passes
-- 255, after all else with place 0." So `02` alone is now 1 at 1, and `03` is 3 at 0.
pub record VersionEdges : Type 0 where
  pub two-alone : (scan_of (0x02 ∷ []) most_cells).verdict ≡ Refused (refusal_at 1 1 0)
  pub three-alone : (scan_of (0x03 ∷ []) most_cells).verdict ≡ Refused (refusal_at 3 0 0)
  -- 256 rows are refused in version 1, and their first cell is due in version 2;
  pub one-many : (scan_of (0x01 ∷ 0x01 ∷ 0x01 ∷ 0x01 ∷ 0x80 ∷ 0x02 ∷ []) most_cells).verdict ≡ Refused (refusal_at 6 4 0)
  pub two-some : (scan_of (0x02 ∷ 0x01 ∷ 0x01 ∷ 0x01 ∷ 0x80 ∷ 0x02 ∷ []) most_cells).verdict ≡ Refused (refusal_at 1 6 0)
  -- so of 4,095 rows, while 4,096 are refused there too.
  pub two-most : (scan_of (0x02 ∷ 0x01 ∷ 0x01 ∷ 0x01 ∷ 0xFF ∷ 0x1F ∷ []) most_cells).verdict ≡ Refused (refusal_at 1 6 0)
  pub two-many : (scan_of (0x02 ∷ 0x01 ∷ 0x01 ∷ 0x01 ∷ 0x80 ∷ 0x20 ∷ []) most_cells).verdict ≡ Refused (refusal_at 6 4 0)
  -- 9 comes before 20.
  pub surplus-first : (scan_of (0x02 ∷ 0x01 ∷ 0x01 ∷ 0x01 ∷ 0x00 ∷ 0x00 ∷ []) most_cells).verdict ≡ Refused (refusal_at 9 5 0)
  pub no-need : (scan_of (0x02 ∷ 0x01 ∷ 0x01 ∷ 0x01 ∷ 0x00 ∷ []) most_cells).verdict ≡ Refused (refusal_at 20 0 0)

-- Request #111: "21, an all-null row where version 2 is read ..; after the row's last cell, before 7, with the row's place on loading." A number's own fault
-- comes first, 7 and 20 come behind it, and version 1 takes such a row (`one-row`). The images have one table over the attributes 0 and 1.
pub record NullEdges : Type 0 where
  pub null-row : (scan_of (0x02 ∷ 0x02 ∷ 0x01 ∷ 0x03 ∷ 0x01 ∷ 0x00 ∷ 0x00 ∷ []) most_cells).verdict ≡ Refused (refusal_at 21 5 0)
  pub one_value : (scan_of (0x02 ∷ 0x02 ∷ 0x01 ∷ 0x03 ∷ 0x01 ∷ 0x00 ∷ 0x05 ∷ []) most_cells).verdict ≡ Refused (refusal_at 20 0 0)
  pub cell-first : (scan_of (0x02 ∷ 0x02 ∷ 0x01 ∷ 0x03 ∷ 0x01 ∷ 0x00 ∷ []) most_cells).verdict ≡ Refused (refusal_at 1 6 0)
  pub before-seven : (scan_of (0x02 ∷ 0x02 ∷ 0x01 ∷ 0x03 ∷ 0x02 ∷ 0x05 ∷ 0x05 ∷ 0x00 ∷ 0x00 ∷ []) most_cells).verdict ≡ Refused (refusal_at 21 7 0)
  pub seven-in-one : (scan_of (0x01 ∷ 0x02 ∷ 0x01 ∷ 0x03 ∷ 0x02 ∷ 0x05 ∷ 0x05 ∷ 0x00 ∷ 0x00 ∷ []) most_cells).verdict ≡ Refused (refusal_at 7 7 0)
