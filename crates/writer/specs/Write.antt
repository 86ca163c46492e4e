-- "Write checks in image order: 4 (m, then n); per table 5, 6, 8; per row 10, then 7; last 11. A refusal writes nothing. Success gives the
-- length; bytes behind it stay." #106 puts 16 "after these over all tables and before the first cell", so that 5, 6 and 8 of every table come before
-- the rows of the first. #111 puts 21 between 10 and 7. Assumes nothing.
use Rattle.std.specs.Prelude.{ℕ, zero, suc, ◌+◌, ◌*◌, ◌^◌, ◌<◌, ◌≡◌, List, [], ◌∷◌, ◌++◌, Bool, true, false, cond, ◌||◌, length, ltb, leb}
use Rattle.std.specs.Int.Count.{ones}
use Rattle.laws.specs.Lists.{put, part}
use Rattle.numbers.specs.Numbers.{encode}
use Rattle.tables.specs.declared.Catalogue.{Catalogue}
use Rattle.tables.specs.Catalogues.{scheme_of, count_of, first_cell}
use Rattle.tables.specs.Rows.{below}
use Rattle.tables.specs.Checks.{first_met, catalogue_fault, Lawful}
use Rattle.tables.specs.Versions.{version_of, blank}
use Rattle.writer.specs.Written.{Written, Length, Refused}

-- Numbers one after the other.
unfoldable pub encodes : List ℕ → List ℕ
encodes [] = []
encodes (x ∷ xs) = encode x ++ encodes xs

-- The cells of table t.
abbrev pub cells_of : Catalogue → List ℕ → ℕ → List ℕ
cells_of cat cells t = part (first_cell cat t) (count_of cat t * ones (scheme_of cat t)) cells

-- k tables from table t on: "for each table its scheme, its row count and its cells".
unfoldable pub tables_image : ℕ → Catalogue → List ℕ → ℕ → List ℕ
tables_image zero cat cells t = []
tables_image (suc k) cat cells t =
    encode (scheme_of cat t) ++ (encode (count_of cat t) ++ (encodes (cells_of cat cells t) ++ tables_image k cat cells (t + 1)))

-- The image's head: "version (1), m, n". "Images with a table above 255 rows carry version 2, all others version 1" (#110).
abbrev pub head_bytes : Catalogue → List ℕ
head_bytes cat = encode (version_of cat) ++ (encode cat.m ++ encode cat.n)

-- "In order: version (1), m, n; then for each table .. Nothing follows."
unfoldable pub image_of : Catalogue → List ℕ → List ℕ
image_of cat cells = head_bytes cat ++ tables_image cat.n cat cells 0

-- "10: a cell code of 2^63 or more"
unfoldable pub too_high : List ℕ → Bool
too_high [] = false
too_high (x ∷ xs) = leb (2 ^ 63) x || too_high xs

-- k rows of w cells, to be written in version v, the next of which begins at cell `at`; the row before them, unless they are the first, begins at `before`.
-- "per row 10, then 7", and "21, an all-null row where version 2 .. would be written; after the row's last cell, before 7" (#111)
unfoldable pub rows_fault : ℕ → ℕ → List ℕ → ℕ → Bool → ℕ → ℕ → ℕ
rows_fault zero w cells v first before at = 0
rows_fault (suc k) w cells v first before at =
    cond (too_high (part at w cells)) 10
    (cond (blank v (part at w cells)) 21
    (cond (first || below (part before w cells) (part at w cells)) (rows_fault k w cells v false at (at + w)) 7))

-- The rows of table t.
abbrev pub rows_refusal : Catalogue → List ℕ → ℕ → ℕ
rows_refusal cat cells t = rows_fault (count_of cat t) (ones (scheme_of cat t)) cells (version_of cat) true 0 (first_cell cat t)

-- The rows of k tables from table t on.
unfoldable pub cells_fault : ℕ → Catalogue → List ℕ → ℕ → ℕ
cells_fault zero cat cells t = 0
cells_fault (suc k) cat cells t = first_met (rows_refusal cat cells t) (cells_fault k cat cells (t + 1))

-- Everything but 11: what the catalogue meets (4; 5, 6, 8; 16), then row by row.
unfoldable pub write_fault : Catalogue → List ℕ → ℕ
write_fault cat cells = first_met (catalogue_fault cat (length cells)) (cells_fault cat.n cat cells 0)

-- What tables without such a fault are known to be.
pub record Accepted (cat : Catalogue) (cells : List ℕ) : Type 0 where
  pub lawful : Lawful cat (length cells)
  pub rows : (t : ℕ) → t < cat.n → rows_refusal cat cells t ≡ 0

-- "11: the lent output .. is too short"
unfoldable pub length_fault : Catalogue → List ℕ → ℕ → ℕ
length_fault cat cells room = cond (ltb room (length (image_of cat cells))) 11 0

-- A refusal, or the length.
abbrev pub written_of : ℕ → ℕ → Written
written_of zero len = Length len
written_of (suc k) len = Refused (suc k)

-- The answer of a write into `room` bytes.
unfoldable pub written : Catalogue → List ℕ → ℕ → Written
written cat cells room = written_of (first_met (write_fault cat cells) (length_fault cat cells room)) (length (image_of cat cells))

-- "A refusal writes nothing. Success gives the length; bytes behind it stay."
abbrev pub bytes_after_write : Written → List ℕ → List ℕ → List ℕ
bytes_after_write (Length n) new old = put new old
bytes_after_write (Refused k) new old = old

-- What a write into the lent bytes gives, and what these hold then.
pub record Writes (cat : Catalogue) (cells lent : List ℕ) (r : Written) (after : List ℕ) : Type 0 where
  pub answer : r ≡ written cat cells (length lent)
  pub bytes : after ≡ bytes_after_write r (image_of cat cells) lent
