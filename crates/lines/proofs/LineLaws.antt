-- The lines' definitions, one law for each way that the code goes, and how long they are at most. Assumes nothing.
use Prim.Native.Nat.{ℕ, zero, suc, ◌+◌, ◌-◌, ◌*◌, ◌≤◌, ◌<◌}
use native.Mathlib.Omega.{arith}
use native.Mathlib.Numerals.{add-one, sub-one}
use mathlib.Core.Path.{◌≡◌, refl, sym, ap, ◌∙◌}
use mathlib.Core.List.{List, [], ◌∷◌, ◌++◌}
use lib.ListN.{length, take, drop, get_or, length-append, drop_of_length-le}
use lib.Seq.{length-take-le, drop-cons}
use Rattle.laws.specs.Lists.{over}
use Rattle.laws.proofs.ListLaws.{put-nil, length-tab}
use Rattle.laws.proofs.PlacedLaws.{placed-rest}
use Rattle.keys.specs.Keys.{bits_per_row, row_of, rows_in}
use Rattle.lines.specs.declared.Cursor.{Cursor}
use Rattle.lines.specs.Cursors.{HasRoom, Puts, SameBuffer}
use Rattle.lines.specs.Lines.{bytes, most_field, set_room, field, value, each, fields, values, line, padded_end, set_line}
use Rattle.lines.proofs.DecimalLaws.{decimal-few}

-- ---- fields

pub field-few : (x : ℕ) → length (field x) ≤ most_field
unfolding field
field-few x = omega (arith, decimal-few x)

pub value-null : (x : ℕ) → x ≡ 0 → value x ≡ bytes " -"
unfolding value
value-null x e = rw e

pub value-some : (x : ℕ) → (x ≡ 0 → ⊥) → value x ≡ field (x - 1)
unfolding value
value-some zero f = absurd (f refl)
value-some (suc x) f = rw (sub-one (suc x))

pub value-few : (x : ℕ) → length (value x) ≤ most_field
unfolding value
value-few zero = omega arith
value-few (suc x) = field-few x

-- ---- a run of fields, or of anything else that is no longer than a field

module _ (f : ℕ → List ℕ) (few : (x : ℕ) → length (f x) ≤ most_field) where
  pub each-few : (xs : List ℕ) → length (each f xs) ≤ most_field * length xs
  unfolding each
  each-few [] = omega arith
  each-few (x ∷ xs) = rw (length-append (f x) (each f xs)) (omega (arith, few x, each-few xs))

  each_none : (xs : List ℕ) (i : ℕ) → length xs ≤ i → each f (drop i xs) ≡ []
  unfolding each
  each_none xs i h = rw (drop_of_length-le xs {i = i} h)

  each_more : (xs : List ℕ) (i : ℕ) → i < length xs → each f (drop i xs) ≡ f (get_or xs i 0) ++ each f (drop (i + 1) xs)
  unfolding each
  each_more xs i h = rw (drop-cons xs i 0 h, add-one i)

  -- Where a loop over the k numbers xs stands that began at cursor c: it has put the first i of them, and what is left to put from cursor d on is the
  -- whole answer.
  pub record Run (xs : List ℕ) (k : ℕ) (c : Cursor) (i : ℕ) (d : Cursor) : Type 0 where
    pub many : length xs ≡ k
    pub inside : i ≤ k
    pub room : d.at + most_field * (k - i) ≤ length d.out.now
    pub next : d.at + length (each f (drop i xs)) ≡ c.at + length (each f xs)
    pub bytes : over c.at (each f xs) c.out.now ≡ over d.at (each f (drop i xs)) d.out.now
    pub same : SameBuffer c d

  pub run_holds : (xs : List ℕ) (k : ℕ) (c : Cursor) → length xs ≡ k → HasRoom c (most_field * k) → Run xs k c 0 c
  run_holds xs k c e h = record { many = e; inside = omega arith; room = omega arith; next = refl; bytes = refl; same = (refl, refl) }

  pub run-next : {xs : List ℕ} {c d e : Cursor} {k i x : ℕ} → i < k → x ≡ get_or xs i 0 → Run xs k c i d → Puts (f x) d e → SameBuffer d e
      → Run xs k c (i + 1) e
  run-next {xs} {c} {d} {e} {k} {i} {x} h y r p s =
      let m : each f (drop i xs) ≡ f x ++ each f (drop (i + 1) xs) = rw y (each_more xs i (omega arith)) in
      let l = ap length m ∙ length-append (f x) (each f (drop (i + 1) xs)) in
      record {
        many = r.many;
        inside = omega arith;
        room = omega (arith, few x, p.next, s.1);
        next = omega (arith, p.next, r.next);
        bytes = r.bytes ∙ rw m (placed-rest (omega (arith, few x)) p (each f (drop (i + 1) xs)));
        same = (s.0 ∙ r.same.0, s.1 ∙ r.same.1);
      }

  pub run_ends : {xs : List ℕ} {c d : Cursor} {k i : ℕ} → k ≤ i → Run xs k c i d → Puts (each f xs) c d
  run_ends {xs} {c} {d} {k} {i} h r =
      let z = each_none xs i (omega arith) in
      record { next = omega (arith, r.next, ap length z); bytes = sym (r.bytes ∙ rw z (put-nil d.out.now d.at)) }

-- How long the row numbers of a set and the values of its padded row are at most.
pub rows_few : (n key : ℕ) → length (fields (rows_in bits_per_row n key)) ≤ most_field * n
unfolding rows_in
rows_few n key = rw (length-tab n (row_of bits_per_row key)) at (each-few field field-few (rows_in bits_per_row n key))

pub values-few : (codes : List ℕ) (m : ℕ) → m ≤ length codes → length (values (take m codes)) ≤ most_field * m
values-few codes m h = rw (length-take-le m codes h) at (each-few value value-few (take m codes))

-- How long a line is at most.
pub line-few : (word xs : List ℕ) → length (line word xs) ≤ length word + most_field * length xs + 1
unfolding line
line-few word xs = simp length-append (omega (arith, each-few field field-few xs))

pub set-few : (n key m : ℕ) (codes : List ℕ) → m ≤ length codes → length (set_line (rows_in bits_per_row n key) (take m codes)) ≤ set_room n m
unfolding set_line padded_end
set-few n key m codes h = simp length-append (omega (arith, rows_few n key, values-few codes m h))
