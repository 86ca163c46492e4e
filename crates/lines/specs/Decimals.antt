-- A number as text: its decimal digits, the highest first, no zero in front; and what a word says as a number. That the digits of a number are its value,
-- and that they are read as that number, is in proofs/DecimalLaws. Assumes nothing.
use Rattle.std.specs.Prelude.{ℕ, zero, suc, ◌+◌, ◌-◌, ◌*◌, ◌/◌, ◌%◌, ◌^◌, ◌≤◌, ◌<◌, ◌≡◌, List, [], ◌∷◌, ◌++◌, Bool, false, cond, length, get_or, ltb, Option, Some, None}

-- The byte of a digit: that of 0 is 48, and they follow each other.
abbrev pub digit : ℕ → ℕ
digit d = 48 + d

-- A number below 2 ^ 64 has no more digits than this.
abbrev pub most_digits : ℕ
most_digits = 20

-- The digits of x when at most f are allowed.
abbrev pub decimal_in : ℕ → ℕ → List ℕ
decimal_in zero x = []
decimal_in (suc f) x = cond (ltb x 10) (digit x ∷ []) (decimal_in f (x / 10) ++ (digit (x % 10) ∷ []))

-- The digits of a number.
unfoldable pub decimal : ℕ → List ℕ
decimal x = decimal_in most_digits x

-- What digits are worth, read from the left, behind digits that are worth v.
unfoldable pub worth : ℕ → List ℕ → ℕ
worth v [] = v
worth v (b ∷ bs) = worth (v * 10 + (b - 48)) bs

-- The bytes bs are x in decimal digits: each is a digit, they are worth x, and none but a lone one is a zero in front.
pub record Spells (x : ℕ) (bs : List ℕ) : Type 0 where
  pub some : 0 < length bs
  pub few : length bs ≤ most_digits
  pub digits : (i : ℕ) → i < length bs → (digit 0 ≤ get_or bs i 0) × (get_or bs i 0 ≤ digit 9)
  pub value : worth 0 bs ≡ x
  pub lead : 1 < length bs → digit 0 < get_or bs 0 0

-- ---- reading

-- The byte b goes on with a number, behind digits that are worth v: it is a digit, and with it they are worth less than 2 ^ 64.
unfoldable pub goes_on : ℕ → ℕ → Bool
goes_on v b = cond (ltb b (digit 0)) false (cond (ltb (digit 9) b) false (ltb (v * 10 + (b - digit 0)) (2 ^ 64)))

-- What a word says: a number in decimal digits, or something else.
pub data Word : Type 0 where
  Number : (value : ℕ) → Word
  Other : Word

-- The same as the code says it.
abbrev pub word_in : Option ℕ → Word
word_in (Some x) = Number x
word_in None = Other

-- What bytes say behind digits that are worth v: a number, if each of them goes on with it.
unfoldable pub word_from : ℕ → List ℕ → Word
word_from v [] = Number v
word_from v (b ∷ bs) = cond (goes_on v b) (word_from (v * 10 + (b - digit 0)) bs) Other

-- What a word says: a number below 2 ^ 64 in decimal digits, at least one, or something else.
abbrev pub word_of : List ℕ → Word
word_of [] = Other
word_of (b ∷ bs) = word_from 0 (b ∷ bs)
