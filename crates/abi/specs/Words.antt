-- A catalogue as 34 words, as the calls from C lend it: m, n, the eight schemes, the eight row counts, the eight first-cell places and the eight masks of
-- touching tables. The first 18 are what a caller says of tables made by hand. Assumes nothing.
use Rattle.std.specs.Prelude.{ℕ, ◌+◌, min, List, ◌∷◌, ◌++◌, get_or}
use Rattle.laws.specs.Lists.{part, tab}
use Rattle.tables.specs.declared.Catalogue.{Catalogue}
use Rattle.tables.specs.Sizes.{most_tables}

-- Where the schemes, the row counts, the places and the masks begin, each behind eight words of the last, and how many words there are.
abbrev pub schemes_at : ℕ
schemes_at = 2

abbrev pub counts_at : ℕ
counts_at = 10

abbrev pub places_at : ℕ
places_at = 18

abbrev pub masks_at : ℕ
masks_at = 26

abbrev pub catalogue_words : ℕ
catalogue_words = 34

-- How many of them say what the tables are: m, n, the schemes and the row counts.
abbrev pub table_words : ℕ
table_words = places_at

-- The words of a catalogue.
abbrev pub words_of : Catalogue → List ℕ
words_of cat = cat.m ∷ (cat.n ∷ (cat.schemes ++ (cat.rows ++ (cat.places ++ cat.touching))))

-- The highest number of 16 bits. No row count, no place and no mask is as high.
abbrev pub highest : ℕ
highest = 65535

-- A word as a number of 16 bits: one above the highest counts as the highest, and is refused as it would be.
unfoldable pub short_in : List ℕ → ℕ → ℕ
short_in words i = min highest (get_or words i 0)

-- Eight of them.
unfoldable pub shorts_in : List ℕ → ℕ → List ℕ
shorts_in words from = tab most_tables (λ t. short_in words (from + t))

-- The catalogue of words, of which those from 34 on are ignored.
unfoldable pub catalogue_in : List ℕ → Catalogue
catalogue_in words =
    record {
      m = get_or words 0 0;
      n = get_or words 1 0;
      schemes = part schemes_at most_tables words;
      rows = shorts_in words counts_at;
      places = shorts_in words places_at;
      touching = shorts_in words masks_at;
    }
