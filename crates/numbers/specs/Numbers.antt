-- "Numbers are groups of seven bits, lowest group first, the top bit of a byte set on all but the last. The shortest form is the only one,
-- nine bytes at most." What follows from the two definitions, that each undoes the other, stands in proofs/RoundTrip. Assumes nothing.
use Rattle.std.specs.Prelude.{ℕ, zero, suc, ◌+◌, ◌-◌, ◌*◌, ◌/◌, ◌%◌, ◌≡◌, List, [], ◌∷◌, cond, ◌&&◌, length, get_or, ltb, leb, eqb}
use Rattle.laws.specs.Lists.{put}
use Rattle.numbers.specs.Readings.{Reading, Number, NumberFault}

-- "nine bytes at most": a number is below 2 ^ 63.
abbrev pub most_bytes : ℕ
most_bytes = 9

-- The groups of x, lowest first, when at most f bytes are allowed.
abbrev pub encode_in : ℕ → ℕ → List ℕ
encode_in zero x = []
encode_in (suc f) x = cond (ltb x 128) (x ∷ []) ((128 + x % 128) ∷ encode_in f (x / 128))

-- The bytes of a number.
unfoldable pub encode : ℕ → List ℕ
encode x = encode_in most_bytes x

-- What is read from place i on, when f bytes are still allowed, the next group weighs w and the groups before it make v. A refusal tells how many
-- bytes were looked at: those before this one, or with it. "1: the image ends inside a number, or where one is due"; request #107: "2 now means a last
-- group of zero after the first byte; 17 means a ninth byte with its top bit set".
abbrev pub decode_in : ℕ → ℕ → ℕ → List ℕ → ℕ → Reading
decode_in zero w v s i = NumberFault 17 most_bytes
decode_in (suc f) w v s i =
    cond (leb (length s) i) (NumberFault 1 (most_bytes - suc f))
    (cond (leb 128 (get_or s i 0)) (decode_in f (w * 128) (v + (get_or s i 0 - 128) * w) s (i + 1))
    (cond (ltb 1 w && eqb (get_or s i 0) 0) (NumberFault 2 (most_bytes - f))
    (Number (v + get_or s i 0 * w) (i + 1))))

-- The number that starts at place i and the place behind it, or the refusal that is met there.
unfoldable pub decode : List ℕ → ℕ → Reading
decode s i = decode_in most_bytes 1 0 s i

-- What the number writer leaves: the number's bytes in the front of what it was lent, and how many they are.
pub record Wrote (x : ℕ) (lent : List ℕ) (n : ℕ) (after : List ℕ) : Type 0 where
  pub count : n ≡ length (encode x)
  pub bytes : after ≡ put (encode x) lent
