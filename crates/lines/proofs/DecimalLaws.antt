-- The two equations of decimal, with no bound on the digits in sight, and what they say of it: the digits of a number are exactly its value, and none
-- of them is a zero in front. Assumes nothing.
use Prim.Native.Nat.{ℕ, zero, suc, ◌+◌, ◌-◌, ◌*◌, ◌/◌, ◌%◌, ◌^◌, ◌<◌, ◌≤◌}
use native.Mathlib.Nat.{pow-suc, div-add-mod'}
use native.Mathlib.Decide.{dec_lt}
use native.Mathlib.Omega.{arith}
use native.Mathlib.Numerals.{add-one}
use mathlib.Core.Path.{◌≡◌, refl, sym, ap, ◌∙◌}
use mathlib.Core.Bool.{Bool, true, false}
use mathlib.Core.List.{List, [], ◌∷◌, ◌++◌}
use lib.ListN.{length, get_or, drop, length-append, drop_of_length-le, get_or-append}
use lib.Seq.{get_or_at, drop-cons}
use lib.Dec.{ltb}
use borrow.Author.Tests.{ltb-true, lt-ltb, le-ltb}
use Rattle.laws.proofs.TestLaws.{clash}
use Rattle.std.specs.Prelude.{Option, Some, None, cond}
use Rattle.std.specs.Option.{SomeIff}
use Rattle.std.specs.Fmt.{decimal as printed}
use Rattle.std.proofs.lemmas.Fmt.{decimal_from_appends, length-decimal-le}
use Rattle.lines.specs.Decimals.{digit, most_digits, decimal_in, decimal, worth, Spells, goes_on, word_from, word_of, Number, Other}

more-in : (f x : ℕ) → 10 ≤ x → decimal_in (suc f) x ≡ decimal_in f (x / 10) ++ (digit (x % 10) ∷ [])
more-in f x h = rw (le-ltb x 10 h)

last-in : (f x : ℕ) → x < 10 → decimal_in (suc f) x ≡ digit x ∷ []
last-in f x h = rw (lt-ltb x 10 h)

-- one digit more than enough changes nothing
fuel-in : (f x : ℕ) → x < 10 ^ suc f → decimal_in (suc (suc f)) x ≡ decimal_in (suc f) x
fuel-in zero x h = rw (lt-ltb x 10 h)
fuel-in (suc f) x h =
    elim (dec_lt x 10) [
      | yes l ↦ last-in (suc (suc f)) x l ∙ sym (last-in (suc f) x l)
      | no l ↦ more-in (suc (suc f)) x (omega arith) ∙ ap (λ (t : List ℕ). t ++ (digit (x % 10) ∷ [])) (fuel-in f (x / 10) (omega (arith, pow-suc 10 (suc f)))) ∙ sym (more-in (suc f) x (omega arith))
    ]

pub decimal-last : (x : ℕ) → x < 10 → decimal x ≡ digit x ∷ []
unfolding decimal
decimal-last x h = last-in 19 x h

pub decimal-more : (x : ℕ) → 10 ≤ x → x < 2 ^ 64 → decimal x ≡ decimal (x / 10) ++ (digit (x % 10) ∷ [])
unfolding decimal
decimal-more x l h = more-in 19 x l ∙ ap (λ (t : List ℕ). t ++ (digit (x % 10) ∷ [])) (sym (fuel-in 18 (x / 10) (omega arith)))

pub decimal-length : (x : ℕ) → 10 ≤ x → x < 2 ^ 64 → length (decimal x) ≡ length (decimal (x / 10)) + 1
decimal-length x l h = ap length (decimal-more x l h) ∙ length-append (decimal (x / 10)) (digit (x % 10) ∷ [])

-- They are what the library prints.
pub decimal-printed : (x : ℕ) → x < 2 ^ 64 → decimal x ≡ printed x
unfolding decimal
decimal-printed x h = decimal_from_appends decimal_in (record { one = last-in; more = more-in }) most_digits x h (length-decimal-le most_digits x (omega arith) (omega arith) h)

few-in : (f x : ℕ) → length (decimal_in f x) ≤ f
few-in zero x = omega arith
few-in (suc f) x =
    elim (dec_lt x 10) [
      | yes l ↦ rw (last-in f x l) (omega arith)
      | no l ↦ rw (more-in f x (omega arith), length-append (decimal_in f (x / 10)) (digit (x % 10) ∷ [])) (omega (arith, few-in f (x / 10)))
    ]

pub decimal-few : (x : ℕ) → length (decimal x) ≤ most_digits
unfolding decimal
decimal-few x = few-in most_digits x

pub decimal-some : (x : ℕ) → x < 2 ^ 64 → 0 < length (decimal x)
decimal-some x h =
    elim (dec_lt x 10) [
      | yes l ↦ omega (arith, ap length (decimal-last x l))
      | no l ↦ omega (arith, decimal-length x (omega arith) h)
    ]

-- ---- what the digits are

worth-append : (v : ℕ) (bs cs : List ℕ) → worth v (bs ++ cs) ≡ worth (worth v bs) cs
unfolding worth
worth-append v [] cs = refl
worth-append v (b ∷ bs) cs = worth-append (v * 10 + (b - 48)) bs cs

worth-one : (v d : ℕ) → worth v (digit d ∷ []) ≡ v * 10 + d
unfolding worth
worth-one v d = omega arith

-- A lone digit that is worth something is no zero.
lone : (bs : List ℕ) → length bs ≤ 1 → 0 < worth 0 bs → digit 0 < get_or bs 0 0
unfolding worth
lone [] h p = absurd (omega arith)
lone (b ∷ []) h p = omega arith
lone (b ∷ (d ∷ bs)) h p = absurd (omega arith)

-- All that it is to be decimal digits passes on to one digit more.
spells-more : (x : ℕ) (bs : List ℕ) → 0 < x / 10 → length bs < most_digits → Spells (x / 10) bs → Spells x (bs ++ (digit (x % 10) ∷ []))
spells-more x bs p few s =
    let l = length-append bs (digit (x % 10) ∷ []) in
    record {
      some = omega arith;
      few = omega arith;
      digits = λ i h. elim (dec_lt i (length bs)) [
        | yes k ↦ rw (get_or-append bs (digit (x % 10) ∷ []) 0 i k) (s.digits i k)
        | no k ↦ rw (get_or_at bs (digit (x % 10)) [] 0 i (omega arith)) (omega arith, omega arith)
      ];
      value = worth-append 0 bs (digit (x % 10) ∷ []) ∙ worth-one (worth 0 bs) (x % 10) ∙ rw s.value (div-add-mod' x 10);
      lead = λ h. rw (get_or-append bs (digit (x % 10) ∷ []) 0 0 s.some) (elim (dec_lt 1 (length bs)) [
        | yes k ↦ s.lead k
        | no k ↦ lone bs (omega arith) (omega (arith, s.value))
      ]);
    }

alone : (b i : ℕ) → digit 0 ≤ b → b ≤ digit 9 → i < 1 → (digit 0 ≤ get_or (b ∷ []) i 0) × (get_or (b ∷ []) i 0 ≤ digit 9)
alone b zero l h k = (l, h)
alone b (suc i) l h k = absurd (omega arith)

spells_one : (x : ℕ) → x < 10 → Spells x (digit x ∷ [])
unfolding worth
spells_one x h =
    record {
      some = omega arith;
      few = omega arith;
      digits = λ i k. alone (digit x) i (omega arith) (omega arith) k;
      value = omega arith;
      lead = λ k. absurd (omega arith);
    }

spells-in : (f x : ℕ) → f < most_digits → x < 10 ^ suc f → Spells x (decimal_in (suc f) x)
spells-in zero x few h = rw (last-in zero x h) (spells_one x h)
spells-in (suc f) x few h =
    elim (dec_lt x 10) [
      | yes l ↦ rw (last-in (suc f) x l) (spells_one x l)
      | no l ↦ rw (more-in (suc f) x (omega arith)) (spells-more x (decimal_in (suc f) (x / 10)) (omega arith) (omega (arith, few-in (suc f) (x / 10))) (spells-in f (x / 10) (omega arith) (omega (arith, pow-suc 10 (suc f)))))
    ]

-- The decimal digits of a number that a word holds are exactly its value, with no zero in front.
pub decimal-spells : (x : ℕ) → x < 2 ^ 64 → Spells x (decimal x)
unfolding decimal
decimal-spells x h = spells-in 19 x (omega arith) (omega arith)

-- ---- reading, one law for each way that the code goes

pub goes-below : (v b : ℕ) → b < digit 0 → goes_on v b ≡ false
unfolding goes_on
goes-below v b h = rw (lt-ltb b (digit 0) h)

pub goes_above : (v b : ℕ) → digit 9 < b → goes_on v b ≡ false
unfolding goes_on
goes_above v b h = rw (le-ltb b (digit 0) (omega arith), lt-ltb (digit 9) b h)

goes-digit : (v b : ℕ) → digit 0 ≤ b → b ≤ digit 9 → goes_on v b ≡ ltb (v * 10 + (b - digit 0)) (2 ^ 64)
unfolding goes_on
goes-digit v b l h = rw (le-ltb b (digit 0) l, le-ltb (digit 9) b h)

pub goes_over : (v b : ℕ) → digit 0 ≤ b → b ≤ digit 9 → 2 ^ 64 ≤ v * 10 + (b - digit 0) → goes_on v b ≡ false
goes_over v b l h k = goes-digit v b l h ∙ le-ltb (v * 10 + (b - digit 0)) (2 ^ 64) k

pub goes-under : (v b : ℕ) → digit 0 ≤ b → b ≤ digit 9 → v * 10 + (b - digit 0) < 2 ^ 64 → goes_on v b ≡ true
goes-under v b l h k = goes-digit v b l h ∙ lt-ltb (v * 10 + (b - digit 0)) (2 ^ 64) k

-- A byte that goes on is a digit, and there is room for it.
pub goes-fits : (v b : ℕ) → goes_on v b ≡ true → (digit 0 ≤ b) × (b ≤ digit 9) × (v * 10 + (b - digit 0) < 2 ^ 64)
goes-fits v b e =
    elim (dec_lt b (digit 0)) [
      | yes l ↦ absurd (clash e (goes-below v b l))
      | no l ↦ elim (dec_lt (digit 9) b) [
        | yes h ↦ absurd (clash e (goes_above v b h))
        | no h ↦ (omega arith, omega arith, ltb-true (v * 10 + (b - digit 0)) (2 ^ 64) (sym (goes-digit v b (omega arith) (omega arith)) ∙ e))
      ]
    ]

-- A digit goes on if the sum fits.
pub as-summed : (v b n : ℕ) (o : Option ℕ) → digit 0 ≤ b → b ≤ digit 9 → n ≡ v * 10 + (b - 48) → SomeIff o (n < 2 ^ 64) n
    → o ≡ cond (goes_on v b) (Some (v * 10 + (b - 48))) None
as-summed v b n None l h e k = rw (goes_over v b l h (omega arith))
as-summed v b n (Some x) l h e (p, q) = rw (goes-under v b l h (omega arith)) (ap Some (q ∙ e))

-- What the code says of a byte that goes on or does not.
pub gone_none : (v b n : ℕ) (o : Option ℕ) → o ≡ cond (goes_on v b) (Some n) None → o ≡ None → goes_on v b ≡ false
gone_none v b n o e p = by (goes_on v b) (sym p ∙ e)
  where
    by : (t : Bool) → None ≡ cond t (Some n) None → t ≡ false
    by true q = absurd (let z : ◌≡◌ {A = Option ℕ} None (Some n) = q in cc)
    by false q = refl

pub gone_some : (v b n x : ℕ) (o : Option ℕ) → o ≡ cond (goes_on v b) (Some n) None → o ≡ Some x → (goes_on v b ≡ true) × (x ≡ n)
gone_some v b n x o e p = by (goes_on v b) (sym p ∙ e)
  where
    by : (t : Bool) → Some x ≡ cond t (Some n) None → (t ≡ true) × (x ≡ n)
    by true q = (refl, let z : ◌≡◌ {A = Option ℕ} (Some x) (Some n) = q in cc)
    by false q = absurd (let z : ◌≡◌ {A = Option ℕ} (Some x) None = q in cc)

word_more : (v b : ℕ) (bs : List ℕ) → goes_on v b ≡ true → word_from v (b ∷ bs) ≡ word_from (v * 10 + (b - digit 0)) bs
unfolding word_from
word_more v b bs e = rw e

word-other : (v b : ℕ) (bs : List ℕ) → goes_on v b ≡ false → word_from v (b ∷ bs) ≡ Other
unfolding word_from
word-other v b bs e = rw e

pub word_none : (bs : List ℕ) → length bs ≡ 0 → word_of bs ≡ Other
word_none [] h = refl
word_none (b ∷ bs) h = absurd (omega arith)

pub word_some : (bs : List ℕ) → 0 < length bs → word_of bs ≡ word_from 0 bs
word_some [] h = absurd (omega arith)
word_some (b ∷ bs) h = refl

-- From byte i on, behind digits that are worth v.
module _ (bs : List ℕ) (v i : ℕ) where
  pub word-goes : i < length bs → goes_on v (get_or bs i 0) ≡ true → word_from v (drop i bs) ≡ word_from (v * 10 + (get_or bs i 0 - digit 0)) (drop (i + 1) bs)
  word-goes h e = rw (drop-cons bs i 0 h, add-one i) (word_more v (get_or bs i 0) (drop (suc i) bs) e)

  pub word-stops : i < length bs → goes_on v (get_or bs i 0) ≡ false → word_from v (drop i bs) ≡ Other
  word-stops h e = rw (drop-cons bs i 0 h) (word-other v (get_or bs i 0) (drop (suc i) bs) e)

  pub word-ends : length bs ≤ i → word_from v (drop i bs) ≡ Number v
  unfolding word_from
  word-ends h = rw (drop_of_length-le bs h)

worth-grows : (v : ℕ) (bs : List ℕ) → v ≤ worth v bs
unfolding worth
worth-grows v [] = omega arith
worth-grows v (b ∷ bs) = omega (arith, worth-grows (v * 10 + (b - 48)) bs)

-- Digits that are worth a number are read as that number.
word-worth : (v : ℕ) (bs : List ℕ) → ((i : ℕ) → i < length bs → (digit 0 ≤ get_or bs i 0) × (get_or bs i 0 ≤ digit 9)) → worth v bs < 2 ^ 64
    → word_from v bs ≡ Number (worth v bs)
unfolding worth word_from
word-worth v [] d h = refl
word-worth v (b ∷ bs) d h =
    let n = v * 10 + (b - 48) in
    let g = goes-under v b (d 0 (omega arith)).0 (d 0 (omega arith)).1 (omega (arith, worth-grows n bs)) in
    word_more v b bs g ∙ word-worth n bs (λ i k. d (suc i) (omega arith)) h

-- What is written as a number is read as it.
pub word-decimal : (x : ℕ) → x < 2 ^ 64 → word_of (decimal x) ≡ Number x
word-decimal x h =
    let s = decimal-spells x h in
    word_some (decimal x) s.some ∙ word-worth 0 (decimal x) s.digits (omega (arith, s.value)) ∙ ap Number s.value
