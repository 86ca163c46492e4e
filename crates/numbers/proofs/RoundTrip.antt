-- Writing and then reading gives the number back, and what was read is what would be written. Assumes nothing.
use Prim.Native.Nat.{ℕ, zero, suc, ◌+◌, ◌-◌, ◌*◌, ◌/◌, ◌%◌, ◌^◌, ◌<◌, ◌≤◌}
use native.Mathlib.Nat.{pow-suc, mul_assoc, mul_comm, add-mul}
use native.Mathlib.Decide.{dec_lt}
use native.Mathlib.Omega.{arith}
use native.Mathlib.Numerals.{add-one, sub-one}
use mathlib.Core.Path.{◌≡◌, refl, sym, ap, ◌∙◌}
use mathlib.Core.List.{List, [], ◌∷◌, ◌++◌, append_assoc}
use mathlib.Core.Bool.{Bool, false, ◌&&◌, and-false}
use lib.ListN.{length, get_or, drop, length-append}
use lib.Seq.{get_or_at, drop-cons}
use lib.Dec.{ltb, eqb}
use borrow.Author.Tests.{le-ltb, ne_eqb}
use Rattle.numbers.specs.Readings.{Number}
use Rattle.numbers.specs.Numbers.{most_bytes, encode_in, encode, decode_in, decode}
use Rattle.numbers.proofs.EncodeLaws.{more-in, last-in}
use Rattle.numbers.proofs.DecodeLaws.{decode-end, decode-zero, decode-last, decode-more, pos128, no_number}

-- a number's value from its low group and the rest
groups : (x w v b : ℕ) → b ≡ 128 + x % 128 → v + (b - 128) * w + x / 128 * (w * 128) ≡ v + x * w
groups x w v b e =
    let m : b - 128 ≡ x % 128 = omega arith in
    let k : x ≡ x / 128 * 128 + x % 128 = omega arith in
    let h : x * w ≡ x / 128 * (w * 128) + x % 128 * w =
    ap (λ (t : ℕ). t * w) k ∙ add-mul (x / 128 * 128) (x % 128) w
    ∙ ap (λ (t : ℕ). t + x % 128 * w) (mul_assoc (x / 128) 128 w ∙ ap (λ (t : ℕ). x / 128 * t) (mul_comm 128 w)) in
    rw m (omega arith)

-- a group that ends a number is no surplus zero
ends : (w x : ℕ) → (1 < w → 0 < x) → (ltb 1 w && eqb x 0) ≡ false
ends w x h =
    elim (dec_lt 1 w) [
      | yes l ↦ let p = h l in ap (λ (t : Bool). ltb 1 w && t) (ne_eqb x 0 (omega arith)) ∙ and-false (ltb 1 w)
      | no l ↦ ap (λ (t : Bool). t && eqb x 0) (le-ltb 1 w (omega arith))
    ]

longer : (f x : ℕ) → 128 ≤ x → x < 128 ^ suc f → 0 < f
longer zero x h l = omega arith
longer (suc f) x h l = omega arith

decode-encode-in : (f w v x : ℕ) (p r : List ℕ) (i : ℕ) → length p ≡ i → 0 < f → x < 128 ^ f → (1 < w → 0 < x)
    → decode_in f w v (p ++ (encode_in f x ++ r)) i ≡ Number (v + x * w) (i + length (encode_in f x))
decode-encode-in zero w v x p r i e z h q = absurd (omega arith)
decode-encode-in (suc f) w v x p r i e z h q =
    elim (dec_lt x 128) [
      | yes l ↦
          let g : get_or (p ++ (x ∷ r)) i 0 ≡ x = get_or_at p x r 0 i e in
          let n = length-append p (x ∷ r) in
          rw (last-in f x l) (decode-last (suc f) w v (p ++ (x ∷ r)) i z (omega arith) (omega arith) (rw g (ends w x q)) ∙ rw g)
      | no l ↦
          let b = 128 + x % 128 in
          let t = encode_in f (x / 128) in
          let s = p ++ (b ∷ (t ++ r)) in
          let g : get_or s i 0 ≡ b = get_or_at p b (t ++ r) 0 i e in
          let n = length-append p (b ∷ (t ++ r)) in
          let o : s ≡ (p ++ (b ∷ [])) ++ (t ++ r) = simp append_assoc in
          let k : length (p ++ (b ∷ [])) ≡ i + 1 = length-append p (b ∷ []) ∙ omega arith in
          let u : decode_in f (w * 128) (v + (b - 128) * w) ((p ++ (b ∷ [])) ++ (t ++ r)) (i + 1) ≡ Number (v + (b - 128) * w + x / 128 * (w * 128)) (i + 1 + length t) =
          decode-encode-in f (w * 128) (v + (b - 128) * w) (x / 128) (p ++ (b ∷ [])) r (i + 1) k (longer f x (omega arith) h) (omega (arith, pow-suc 128 f)) (λ y. omega arith) in
          let m : i + 1 + length t ≡ i + suc (length t) = omega arith in
          rw (more-in f x (omega arith))
          (decode-more (suc f) w v s i z (omega arith) (omega arith)
          ∙ rw (sub-one (suc f), g, o) (u ∙ rw (groups x w v b refl, m)))
    ]

-- Reading what was written, wherever it lies.
pub decode-encode : (x : ℕ) (p r : List ℕ) → x < 2 ^ 63 → decode (p ++ (encode x ++ r)) (length p) ≡ Number x (length p + length (encode x))
unfolding encode decode
decode-encode x p r h = decode-encode-in 9 1 0 x p r (length p) refl (omega arith) h (λ y. omega arith) ∙ ap (λ (t : ℕ). Number t (length p + length (encode_in 9 x))) (omega arith)

-- What a reading of a number says of the bytes.
pub record Bytes (f w v : ℕ) (s : List ℕ) (i r n : ℕ) : Type 0 where
  pub x : ℕ
  pub small : x < 128 ^ f
  pub value : r ≡ v + x * w
  pub next : n ≡ i + length (encode_in f x)
  pub bytes : drop i s ≡ encode_in f x ++ drop n s
  pub ended : 1 < w → 0 < x

module _ (f w v : ℕ) (s : List ℕ) (i r n : ℕ) (pos : 0 < w) (e : decode_in (suc f) w v s i ≡ Number r n) (l : i < length s) where
  last-bytes : get_or s i 0 < 128 → (1 < w → 0 < get_or s i 0) → Bytes (suc f) w v s i r n
  last-bytes k q =
      let b = get_or s i 0 in
      let a : Number (v + b * w) (i + 1) ≡ Number r n = sym (decode-last (suc f) w v s i (omega arith) l k (ends w b q)) ∙ e in
      let a0 : v + b * w ≡ r = cc in
      let a1 : i + 1 ≡ n = cc in
      record {
        x = b;
        small = omega (arith, pow-suc 128 f, pos128 f);
        value = sym a0;
        next = rw (last-in f b k) (sym a1);
        bytes = rw (last-in f b k, ← a1, add-one i) (drop-cons s i 0 l);
        ended = q;
      }

  last_byte : get_or s i 0 < 128 → Bytes (suc f) w v s i r n
  last_byte k =
      elim (dec_lt 1 w) [
        | no y ↦ last-bytes k (λ z. absurd (omega arith))
        | yes y ↦ elim (dec_lt 0 (get_or s i 0)) [
          | yes z ↦ last-bytes k (λ u. z)
          | no z ↦ no_number (decode_in (suc f) w v s i) 2 _ r n (decode-zero (suc f) w v s i (omega arith) l k y (omega arith)) e
        ]
      ]

  more_bytes : 128 ≤ get_or s i 0 → get_or s i 0 < 256 → Bytes f (w * 128) (v + (get_or s i 0 - 128) * w) s (i + 1) r n → Bytes (suc f) w v s i r n
  more_bytes k m h =
      let b = get_or s i 0 in
      let y = b - 128 + h.x * 128 in
      let p = h.ended (omega arith) in
      let dv : y / 128 ≡ h.x = omega arith in
      let md : 128 + y % 128 ≡ b = omega arith in
      let en : encode_in (suc f) y ≡ b ∷ encode_in f h.x = more-in f y (omega arith) ∙ rw (md, dv) in
      let nx = h.next in
      record {
        x = y;
        small = omega (arith, pow-suc 128 f, h.small);
        value = h.value ∙ (rw dv at (groups y w v b (sym md)));
        next = rw en (omega arith);
        bytes = rw (en, ← h.bytes, add-one i) (drop-cons s i 0 l);
        ended = λ z. omega arith;
      }

encode-decode-in : (f w v : ℕ) (s : List ℕ) (i r n : ℕ) → 0 < w → ((k : ℕ) → get_or s k 0 < 256) → decode_in f w v s i ≡ Number r n → Bytes f w v s i r n
encode-decode-in zero w v s i r n pos by e = no_number (decode_in zero w v s i) 17 most_bytes r n refl e
encode-decode-in (suc f) w v s i r n pos by e =
    elim (dec_lt i (length s)) [
      | no l ↦ no_number (decode_in (suc f) w v s i) 1 _ r n (decode-end (suc f) w v s i (omega arith) (omega arith)) e
      | yes l ↦ elim (dec_lt (get_or s i 0) 128) [
        | yes k ↦ last_byte f w v s i r n pos e l k
        | no k ↦
            let d = decode-more (suc f) w v s i (omega arith) l (omega arith) in
            more_bytes f w v s i r n pos e l (omega arith) (by i)
            (encode-decode-in f (w * 128) (v + (get_or s i 0 - 128) * w) s (i + 1) r n (omega arith) by (sym (rw (sub-one (suc f)) at d) ∙ e))
      ]
    ]

-- What was read is what would be written: a number has one form only.
pub record OneForm (s : List ℕ) (i x n : ℕ) : Type 0 where
  pub small : x < 2 ^ 63
  pub next : n ≡ i + length (encode x)
  pub bytes : drop i s ≡ encode x ++ drop n s

pub encode-decode : (s : List ℕ) (i x n : ℕ) → ((k : ℕ) → get_or s k 0 < 256) → decode s i ≡ Number x n → OneForm s i x n
unfolding encode decode
encode-decode s i x n by e =
    let h = encode-decode-in 9 1 0 s i x n (omega arith) by e in
    let v : x ≡ h.x = h.value ∙ omega arith in
    record { small = rw v h.small; next = rw v h.next; bytes = rw v h.bytes }
