-- The lines that the programs print, over bytes: "Fields stand one space apart; each line ends in LF." What follows from them is in proofs/LineLaws.
-- Assumes nothing.
use Rattle.std.specs.Prelude.{ℕ, zero, suc, ◌+◌, ◌*◌, List, [], ◌∷◌, ◌++◌}
use Prim.Native.Char.{code}
use Prim.Native.String.{String, [] as none, ◌∷◌ as ◌then◌}
use Rattle.lines.specs.Decimals.{most_digits, decimal}

-- The bytes of a text in plain letters.
abbrev pub bytes : String → List ℕ
bytes none = []
bytes (c then s) = code c ∷ bytes s

-- "Fields stand one space apart": a space and a number.
unfoldable pub field : ℕ → List ℕ
field x = bytes " " ++ decimal x

-- "m values (`-` for null)": the field of a cell code, which is "0 for null, else the value plus 1".
unfoldable pub value : ℕ → List ℕ
value zero = bytes " -"
value (suc v) = field v

-- What f makes of each number, one behind the other.
unfoldable pub each : (ℕ → List ℕ) → List ℕ → List ℕ
each f [] = []
each f (x ∷ xs) = f x ++ each f xs

-- Fields one behind the other.
abbrev pub fields : List ℕ → List ℕ
fields xs = each field xs

-- The values of a padded row.
abbrev pub values : List ℕ → List ℕ
values codes = each value codes

-- A line of a word and numbers.
unfoldable pub line : List ℕ → List ℕ → List ℕ
line word xs = word ++ (fields xs ++ bytes "\n")

-- "First line: `tables`, m, n, N, open's row tests."
abbrev pub tables_line : ℕ → ℕ → ℕ → ℕ → List ℕ
tables_line m n total tests = line (bytes "tables") (m ∷ n ∷ total ∷ tests ∷ [])

-- "A bar, m values (`-` for null)": how the line of a set ends.
unfoldable pub padded_end : List ℕ → List ℕ
padded_end codes = bytes " |" ++ (values codes ++ bytes "\n")

-- "Each `set` line: n row numbers (0 for none), a bar, m values (`-` for null)."
unfoldable pub set_line : List ℕ → List ℕ → List ℕ
set_line rows codes = bytes "set" ++ (fields rows ++ padded_end codes)

-- "Last line: `end`, sets, then trials, row tests and looks of all calls."
abbrev pub end_line : List ℕ → List ℕ
end_line xs = line (bytes "end") xs

-- "`refused`, number, place"; "`refused 12` and the sets handed out".
abbrev pub refused_line : List ℕ → List ℕ
refused_line xs = line (bytes "refused") xs

-- "Longer input prints only `input too long`."
abbrev pub too_long : List ℕ
too_long = bytes "input too long\n"

-- How many bytes a field has at most.
abbrev pub most_field : ℕ
most_field = 1 + most_digits

-- How many bytes the line of a set has at most, among n tables with m attributes.
abbrev pub set_room : ℕ → ℕ → ℕ
set_room n m = 3 + most_field * n + 2 + most_field * m + 1
