-- Document 01's sample, typed once: "Input, 25 bytes", and the tables that it loads to, which crate claims shows of the loader's definition (`sample-loads`).
-- The crates above compute on it, each in its own terms. Assumes nothing.
use Rattle.std.specs.Prelude.{ℕ, List, [], ◌∷◌}
use Rattle.tables.specs.declared.Catalogue.{Catalogue}

-- `01 03 03 03 02 02 0B 03 15 06 02 0B 08 8B 80 80 80 10 0A 05 02 02 08 03 00`
unfoldable pub sample_bytes : List ℕ
sample_bytes =
    0x01 ∷ 0x03 ∷ 0x03
    ∷ 0x03 ∷ 0x02 ∷ 0x02 ∷ 0x0B ∷ 0x03 ∷ 0x15
    ∷ 0x06 ∷ 0x02 ∷ 0x0B ∷ 0x08 ∷ 0x8B ∷ 0x80 ∷ 0x80 ∷ 0x80 ∷ 0x10 ∷ 0x0A
    ∷ 0x05 ∷ 0x02 ∷ 0x02 ∷ 0x08 ∷ 0x03 ∷ 0x00
    ∷ []

-- Three tables over the attributes {0,1}, {1,2} and {0,2}, each with two rows of two cells, and each touching the other two.
unfoldable pub three : Catalogue
three =
    record {
      m = 3;
      n = 3;
      schemes = 3 ∷ 6 ∷ 5 ∷ 0 ∷ 0 ∷ 0 ∷ 0 ∷ 0 ∷ [];
      rows = 2 ∷ 2 ∷ 2 ∷ 0 ∷ 0 ∷ 0 ∷ 0 ∷ 0 ∷ [];
      places = 0 ∷ 4 ∷ 8 ∷ 0 ∷ 0 ∷ 0 ∷ 0 ∷ 0 ∷ [];
      touching = 6 ∷ 5 ∷ 3 ∷ 0 ∷ 0 ∷ 0 ∷ 0 ∷ 0 ∷ [];
    }

-- Their rows, as codes: (1, 10), (2, 20); (10, 7), (4294967306, 9); (1, 7), (2, null).
unfoldable pub three_cells : List ℕ
three_cells = 2 ∷ 11 ∷ 3 ∷ 21 ∷ 11 ∷ 8 ∷ 4294967307 ∷ 10 ∷ 2 ∷ 8 ∷ 3 ∷ 0 ∷ []
