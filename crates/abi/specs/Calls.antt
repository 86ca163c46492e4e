-- What the calls from C promise: each is the library's own call, with the catalogue as 34 words. Where a lent slice has fewer words than its call
-- needs, the answer is 31 and nothing changes. Assumes nothing.
use Rattle.std.specs.Prelude.{ℕ, ◌*◌, ◌≡◌, Bool, cond, ◌||◌, List, length, get_or, set, ltb}
use Rattle.laws.specs.Lists.{put, part}
use Rattle.tables.specs.Checks.{Made}
use Rattle.tables.specs.Sizes.{most_tables, most_cells}
use Rattle.tables.specs.Catalogues.{given}
use Rattle.tables.specs.Checks.{shape_fault, made_if}
use Rattle.writer.specs.Written.{Written, Length, Refused}
use Rattle.loader.specs.Load.{first_table, scan_of, tables_codes, cells_after}
use Rattle.writer.specs.Write.{image_of, written, bytes_after_write}
use Rattle.padding.specs.Covering.{covering}
use Rattle.verdicts.specs.Number.{door_number, looked_in}
use Rattle.abi.specs.Words.{schemes_at, counts_at, catalogue_words, table_words, words_of, shorts_in, catalogue_in}

-- No refusal of document 01 has this number.
abbrev pub too_few_words : ℕ
too_few_words = 31

-- The lent words are too few for a catalogue.
abbrev pub short : List ℕ → Bool
short words = ltb (length words) catalogue_words

-- A load: the door's number, the cells afterwards, the words of the catalogue, and in the first word of `looked`, where one is lent, how many bytes of the
-- number at fault were looked at (request #107).
pub record LoadCall (image cells words looked : List ℕ) (r : ℕ) (cells' words' looked' : List ℕ) : Type 0 where
  pub answer : r ≡ cond (short words) too_few_words (door_number (scan_of image (length cells)).verdict)
  pub cells-after : cells' ≡ cond (short words) cells (cells_after (scan_of image (length cells)).verdict (tables_codes (scan_of image (length cells)).catalogue.n image first_table) cells)
  pub words-after : words' ≡ cond (short words) words (put (words_of (scan_of image (length cells)).catalogue) words)
  pub looked-after : looked' ≡ cond (short words) looked (set looked 0 (looked_in (scan_of image (length cells)).verdict))

-- The length x 32, or the refusal.
abbrev pub written_number : Written → ℕ
written_number (Length n) = n * 32
written_number (Refused k) = k

-- A write: its number, and the bytes afterwards.
pub record WriteCall (words cells out : List ℕ) (r : ℕ) (out' : List ℕ) : Type 0 where
  pub answer : r ≡ cond (short words) too_few_words (written_number (written (catalogue_in words) cells (length out)))
  pub bytes_after : out' ≡ cond (short words) out (bytes_after_write (written (catalogue_in words) cells (length out)) (image_of (catalogue_in words) cells) out)

-- The lent words are too few for what is said of tables, or for their catalogue.
unfoldable pub make_short : List ℕ → List ℕ → Bool
make_short tables words = ltb (length tables) table_words || short words

-- What a caller says of tables made by hand.
abbrev pub made_in : List ℕ → Made
made_in tables =
    let cat = given (get_or tables 0 0) (get_or tables 1 0) (part schemes_at most_tables tables) (shorts_in tables counts_at) in
    made_if (shape_fault cat most_cells) cat

-- A catalogue made of them: the refusal, 0 for none, and the words of the catalogue, zeros where there is one.
pub record MakeCall (tables words : List ℕ) (r : ℕ) (words' : List ℕ) : Type 0 where
  pub answer : r ≡ cond (make_short tables words) too_few_words (made_in tables).refusal
  pub words-after : words' ≡ cond (make_short tables words) words (put (words_of (made_in tables).catalogue) words)

-- harbour_covers: 1 for yes, 0 for no.
abbrev pub CoversCall : List ℕ → List ℕ → ℕ → Type 0
CoversCall first second r = r ≡ cond (covering first second) 1 0
