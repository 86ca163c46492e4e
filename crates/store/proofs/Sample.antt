-- A worked store: the three keys of the sample, offered one after the other to four records of zeros, and searches of it at both sides of each edge;
-- then keys with a second word and with a spare bit. All of it is by computing the definitions. Assumes nothing.
use Prim.Native.Nat.{ℕ, ◌+◌, ◌^◌}
use mathlib.Core.Bool.{true}
use mathlib.Core.List.{List, [], ◌∷◌}
use mathlib.Core.Path.{◌≡◌, refl}
use Rattle.words.specs.Words.{bit_of}
use Rattle.keys.specs.TwoWords.{joined, first_word, second_word}
use Rattle.store.specs.Store.{Store, store_in, link_of, walk, search_of, filed, named, added, answer_of, store_after}
use Rattle.store.specs.Looks.{Found, Absent, Damaged, Known, Added, Full}

-- Three tables at twelve bits for a row.
abbrev deepest : ℕ
deepest = 36

abbrev zeros : List ℕ
zeros = 0 ∷ 0 ∷ 0 ∷ 0 ∷ []

abbrev after : Store → ℕ → Store
after q k = store_after q k (search_of q k deepest)

abbrev three : Store
three = store_in (16781313 ∷ 33554434 ∷ 8192 ∷ 0 ∷ []) zeros (2 ∷ 3 ∷ 0 ∷ 0 ∷ []) zeros 3

filled : after (after (filed (store_in zeros zeros zeros zeros 0) 16781313) 33554434) 8192 ≡ three
unfolding joined first_word second_word walk search_of bit_of link_of filed named added store_after
filled = refl

first-look : search_of three 16781313 deepest ≡ Found 0 1
unfolding joined first_word second_word walk search_of bit_of link_of
first-look = refl

third-look : search_of three 8192 deepest ≡ Found 2 3
unfolding joined first_word second_word walk search_of bit_of link_of
third-look = refl

empty-link : search_of three 3 deepest ≡ Absent 0 true 1
unfolding joined first_word second_word walk search_of bit_of link_of
empty-link = refl

-- With two records used, the link of the second one passes them; with one bit to turn by, look 2 is the last.
past-found : search_of (store_in three.low three.high three.left three.right 2) 8192 deepest ≡ Damaged 2
unfolding joined first_word second_word walk search_of bit_of link_of
past-found = refl

last-look : search_of three 8192 1 ≡ Damaged 2
unfolding joined first_word second_word walk search_of bit_of link_of
last-look = refl

-- One record is free, and then none.
one_free : answer_of three (search_of three 3 deepest) ≡ Added 1
unfolding joined first_word second_word walk search_of bit_of link_of answer_of
one_free = refl

none_free : answer_of (after three 3) (search_of (after three 3) 1 deepest) ≡ Full
unfolding joined first_word second_word walk search_of bit_of link_of filed named added store_after answer_of
none_free = refl

still-known : answer_of (after three 3) (search_of (after three 3) 33554434 deepest) ≡ Known 2
unfolding joined first_word second_word walk search_of bit_of link_of filed named added store_after answer_of
still-known = refl

-- ---- the second word

-- Row 1 of table 5, whose first word is 0, offered behind row 1 of table 0: its second word is filed, and its first bit leads left.
second-filed : after (filed (store_in zeros zeros zeros zeros 0) 1) (2 ^ 60) ≡ store_in (1 ∷ 0 ∷ 0 ∷ 0 ∷ []) (0 ∷ 1 ∷ 0 ∷ 0 ∷ []) (2 ∷ 0 ∷ 0 ∷ 0 ∷ []) zeros 2
unfolding joined first_word second_word walk search_of bit_of link_of filed named added store_after
second-filed = refl

-- A record with a spare bit is another key than the sought one, for a look compares both words whole; the search passes it by the sought key's bits.
abbrev spoilt : Store
spoilt = store_in ((1 + 2 ^ 60) ∷ 1 ∷ []) (0 ∷ 0 ∷ []) (0 ∷ 0 ∷ []) (2 ∷ 0 ∷ []) 2

spare-passed : search_of spoilt 1 deepest ≡ Found 1 2
unfolding joined first_word second_word walk search_of bit_of link_of
spare-passed = refl
