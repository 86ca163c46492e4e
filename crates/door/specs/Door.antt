-- "The C door takes one image as a byte slice, assumes 8,192 cells of room, and gives one number: place x 32 + refusal, and 0 for good."
-- Assumes nothing.
use Rattle.std.specs.Prelude.{ℕ, ◌≡◌, List}
use Rattle.tables.specs.Sizes.{most_cells}
use Rattle.loader.specs.Load.{scan_of}
use Rattle.verdicts.specs.Number.{door_number}

-- The door's answer to the bytes of an image.
unfoldable pub check_of : List ℕ → ℕ
check_of s = door_number (scan_of s most_cells).verdict

-- What the call that answers r promises.
abbrev pub Checks : List ℕ → ℕ → Type 0
Checks s r = r ≡ check_of s
