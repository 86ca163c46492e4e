-- Laws of a list that is written part by part, from the front on, and of a list made by a rule. Assumes nothing.
use Prim.Native.Nat.{ℕ, zero, suc, ◌+◌, ◌-◌, ◌<◌, ◌≤◌}
use native.Mathlib.Nat.{not-suc-le-zero}
use native.Mathlib.Omega.{arith}
use native.Mathlib.Numerals.{add-one, sub-one}
use mathlib.Core.Path.{◌≡◌, refl, sym, ap, ◌∙◌}
use mathlib.Core.Logic.{⊎_elim}
use mathlib.Core.List.{List, [], ◌∷◌, ◌++◌, append_assoc, append-nil}
use lib.ListN.{length, take, drop, set, get_or, length-append, length-drop, take-append-drop, drop_of_length-le, get_or-append}
use lib.Seq.{length-take-le, take_all, take_at, drop_at, drop-drop, drop-cons, take-suc, take-suc-set, drop-set-lt, get_or_at, get_or-drop, take-add}
use Rattle.laws.specs.Lists.{put, over, part, tab}
use Rattle.laws.proofs.TestLaws.{below_suc}

-- ---- the front, one element at a time

pub put-cons : (o : List ℕ) (n b : ℕ) (bs : List ℕ) → n < length o → over n (b ∷ bs) o ≡ over (n + 1) bs (set o n b)
put-cons o n b bs l = rw (add-one n, drop-cons o n 0 l, take-suc-set o n b l, drop-set-lt (suc n) o n b (omega arith)) (simp append_assoc)

pub put-nil : (o : List ℕ) (n : ℕ) → over n [] o ≡ o
put-nil o n = take-append-drop n o

-- The next of the elements ws is put into its place.
pub put_next : (o ws : List ℕ) (n w : ℕ) → n < length o → n < length ws → w ≡ get_or ws n 0 → over n (drop n ws) o ≡ over (n + 1) (drop (n + 1) ws) (set o n w)
put_next o ws n w h l e =
    let d : drop n ws ≡ w ∷ drop (n + 1) ws = rw (e, add-one n) (drop-cons ws n 0 l) in
    rw d (put-cons o n w (drop (n + 1) ws) h)

pub take_next : (o bs : List ℕ) (n b : ℕ) → n < length o → take n o ≡ bs → take (n + 1) (set o n b) ≡ bs ++ (b ∷ [])
take_next o bs n b h e = rw (add-one n, take-suc-set o n b h, e)

-- ---- the front, one part behind the other

pub length-put : (bs o : List ℕ) → length bs ≤ length o → length (put bs o) ≡ length o
length-put bs o h = simp (length-append, length-drop) (omega arith)

pub length_over : (a : ℕ) (bs o : List ℕ) → a + length bs ≤ length o → length (over a bs o) ≡ length o
length_over a bs o h = simp (length-append, length-drop) (omega (arith, length-take-le a o (omega arith)))

-- Two parts, one behind the other, are one.
pub over-append : (a m : ℕ) (bs cs o : List ℕ) → a ≤ length o → m ≡ a + length bs → over m cs (over a bs o) ≡ over a (bs ++ cs) o
over-append a m bs cs o h e =
    let p = take a o ++ bs in
    let q = drop (length bs) (drop a o) in
    let l : length p ≡ m = length-append (take a o) bs ∙ omega (arith, length-take-le a o h) in
    let s : over a bs o ≡ p ++ q = sym (append_assoc (take a o) bs q) in
    let k : length bs + length cs ≡ length (bs ++ cs) = sym (length-append bs cs) in
    let d : drop (length cs) q ≡ drop (length (bs ++ cs)) (drop a o) = drop-drop (length cs) (length bs) (drop a o) ∙ ap (λ (i : ℕ). drop i (drop a o)) k in
    rw (s, take_at p q m l, drop_at p q m l, d) (simp append_assoc)

-- The end of xs from a on was lent, and came back as ys, with bs in its front: xs has bs from a on. The left side is what the borrow checker says of the slice.
pub lent : (a : ℕ) (xs bs ys : List ℕ) → a ≤ length xs → ys ≡ put bs (take (length xs - a) (drop a xs))
    → take a xs ++ (ys ++ drop (length xs - a) (drop a xs)) ≡ over a bs xs
lent a xs bs ys h e =
    let n : length (drop a xs) ≡ length xs - a = length-drop a xs in
    let t : take (length xs - a) (drop a xs) ≡ drop a xs = take_all (length xs - a) (drop a xs) (omega arith) in
    let z : drop (length xs - a) (drop a xs) ≡ [] = drop_of_length-le (drop a xs) {i = length xs - a} (omega arith) in
    rw (e, z, t, append-nil)

-- ---- a list by a rule

pub length-tab : (k : ℕ) (f : ℕ → ℕ) → length (tab k f) ≡ k
unfolding tab
length-tab zero f = refl
length-tab (suc k) f = simp (length-append, length-tab k f) (omega arith)

pub tab-next : (k : ℕ) (f : ℕ → ℕ) → tab (k + 1) f ≡ tab k f ++ (f k ∷ [])
unfolding tab
tab-next k f = rw (add-one k)

pub tab-at : (k : ℕ) (f : ℕ → ℕ) (u : ℕ) → u < k → get_or (tab k f) u 0 ≡ f u
unfolding tab
tab-at zero f u l = absurd (not-suc-le-zero l)
tab-at (suc k) f u l =
    ⊎_elim
    (λ q. rw q (get_or_at (tab k f) (f k) [] 0 k (length-tab k f)))
    (λ q. get_or-append (tab k f) (f k ∷ []) 0 u (rw length-tab q) ∙ tab-at k f u q)
    (below_suc l)

-- ---- a part of a list

pub length_part : (a k : ℕ) (l : List ℕ) → a + k ≤ length l → length (part a k l) ≡ k
length_part a k l h = length-take-le k (drop a l) (simp length-drop (omega arith))

pub part_none : (a k : ℕ) (l : List ℕ) → k ≤ 0 → part a k l ≡ []
part_none a zero l z = refl
part_none a (suc k) l z = absurd (omega arith)

pub part-more : (a k : ℕ) (l : List ℕ) → 0 < k → a < length l → part a k l ≡ get_or l a 0 ∷ part (a + 1) (k - 1) l
part-more a zero l z h = absurd (omega arith)
part-more a (suc k) l z h = rw (sub-one (suc k), drop-cons l a 0 h, add-one a)

-- j elements, and k behind them
pub part-append : (a j k : ℕ) (l : List ℕ) → part a (j + k) l ≡ part a j l ++ part (a + j) k l
part-append a j k l = take-add j k (drop a l) ∙ rw (drop-drop j a l)

pub part-next : (a k : ℕ) (l : List ℕ) → a + k < length l → part a (k + 1) l ≡ part a k l ++ (get_or l (a + k) 0 ∷ [])
part-next a k l h =
    let d : length (drop a l) ≡ length l - a = length-drop a l in
    rw (add-one k, take-suc (drop a l) k 0 (omega arith), get_or-drop a l k 0)
