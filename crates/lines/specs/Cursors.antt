-- What the methods of a cursor ask and promise. Assumes nothing.
use Rattle.std.specs.Prelude.{ℕ, ◌+◌, ◌≤◌, ◌≡◌, List, length}
use Rattle.laws.specs.Lists.{Placed}
use Rattle.lines.specs.declared.Cursor.{Cursor}

-- So many bytes fit from the cursor on.
abbrev pub HasRoom : Cursor → ℕ → Type 0
HasRoom c n = c.at + n ≤ length c.out.now

-- The bytes bs are put from cursor c on, and cursor d stands behind them.
abbrev pub Puts : List ℕ → Cursor → Cursor → Type 0
Puts bs c d = Placed bs c.at c.out.now d.at d.out.now

-- They stand in the same buffer of the caller, which is as long as it was, whatever it holds.
abbrev pub SameBuffer : Cursor → Cursor → Type 0
SameBuffer c d = (d.out.ghost_name ≡ c.out.ghost_name) × (length d.out.now ≡ length c.out.now)
