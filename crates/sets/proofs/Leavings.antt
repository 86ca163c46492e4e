-- A set's key from which the rows of some tables are taken one after the other. Assumes nothing.
use Prim.Native.Nat.{ℕ, ◌-◌, ◌*◌, ◌^◌, ◌<◌}
use mathlib.Core.Path.{◌≡◌, sym, ap, ◌∙◌}
use mathlib.Core.Bool.{true, false}
use mathlib.Core.List.{List}
use native.Mathlib.Omega.{arith}
use native.Mathlib.Decide.{ℕ_discrete}
use lib.ListN.{length}
use lib.Bits.{bit_xor}
use lib.Pow.{pow_pos}
use Rattle.words.specs.Words.{bit_of}
use Rattle.words.proofs.WordLaws.{zero_bit, bit_kept}
use Rattle.keys.specs.Keys.{bits_per_row, row_of, with_row}
use Rattle.keys.specs.TwoWords.{number_of}
use Rattle.keys.specs.declared.Key.{Key}
use Rattle.keys.proofs.KeyLaws.{row_same, row_other, with-lt}
use Rattle.keys.proofs.SetLaws.{in-length, in-at, in-by}
use Rattle.tables.specs.declared.Catalogue.{Catalogue}
use Rattle.disjunction.specs.Sets.{at, Member}
use Rattle.rows.specs.World.{set_of}
use Rattle.rows.specs.Named.{Named}
use Rattle.rows.proofs.NamedLaws.{key-some}
use Rattle.walks.specs.Merged.{Under}
use Rattle.sets.specs.Promises.{SetFor, lacking}
use Rattle.sets.proofs.LackingLaws.{tables-lt, lacking-long, lacking-out, lacking-in, lacking-le, tables-less}

-- The rows of the tables that are not in `rest` are those of T without the mask's tables.
pub record Leaving (cat : Catalogue) (T : List ℕ) (mask key rest : ℕ) : Type 0 where
  pub low : key < 2 ^ (bits_per_row * cat.n)
  pub done : (u : ℕ) → u < cat.n → bit_of rest u ≡ false → row_of bits_per_row key u ≡ at (lacking T mask) u

module _ (cat : Catalogue) (T : List ℕ) (own tables : ℕ) (S : SetFor cat T own tables) (mask : ℕ) where
  long : length T ≡ cat.n
  long = ap length (sym S.rows) ∙ in-length bits_per_row cat.n own

  pub leaving-start : Leaving cat T mask own mask
  leaving-start =
      record {
        low = S.low;
        done = λ u l f. sym (in-at bits_per_row cat.n own u l) ∙ ap (λ (X : List ℕ). at X u) S.rows ∙ sym (lacking-in T mask u f);
      }

  module _ (h : Under mask tables) (key : Key) (rest : ℕ) (K : Leaving cat T mask (number_of key) rest) where
    pub leaving-next : (u : ℕ) → bit_of mask u ≡ true → bit_of rest u ≡ true → (key' : Key) → number_of key' ≡ with_row bits_per_row (number_of key) u 0
        → Leaving cat T mask (number_of key') (rest - 2 ^ u)
    leaving-next u a b key' e =
        rw e
        (record {
          low = with-lt bits_per_row cat.n (number_of key) u 0 (rw (← long) (tables-lt T tables S.tables u (h u a))) (pow_pos bits_per_row) K.low;
          done = λ v l f. go v l f (ℕ_discrete v u);
        })
      where
        go : (v : ℕ) → v < cat.n → bit_of (rest - 2 ^ u) v ≡ false → Dec (v ≡ u) → row_of bits_per_row (with_row bits_per_row (number_of key) u 0) v ≡ at (lacking T mask) v
        go v l f (yes q) = rw q (row_same bits_per_row (number_of key) u 0 (pow_pos bits_per_row) ∙ sym (lacking-out T mask u a))
        go v l f (no g) = row_other bits_per_row (number_of key) u 0 v (pow_pos bits_per_row) g ∙ K.done v l (sym (bit_kept rest u b v g) ∙ f)

    pub leaving-end : rest ≡ 0 → SetFor cat (lacking T mask) (number_of key) (bit_xor tables mask)
    leaving-end z =
        record {
          low = K.low;
          rows = in-by bits_per_row cat.n (number_of key) (lacking T mask) (lacking-long T mask ∙ long) (λ u l. K.done u l (rw z (zero_bit u)));
          tables = tables-less T tables mask S.tables h;
        }

-- Where a row stays, what is left is a set of rows that are there.
pub left-named : (cat : Catalogue) (own key mask tables : ℕ) → Named cat own → SetFor cat (lacking (set_of cat own) mask) key tables
    → (u : ℕ) → u < cat.n → Member (set_of cat own) u → bit_of mask u ≡ false → Named cat key
left-named cat own key mask tables N S u l m f =
    record {
      some = key-some bits_per_row key u (rw (here u l, lacking-in (set_of cat own) mask u f) m);
      low = S.low;
      rows = λ t b. omega (arith, here t b, lacking-le (set_of cat own) mask t, in-at bits_per_row cat.n own t b, N.rows t b);
    }
  where
    here : (t : ℕ) → t < cat.n → row_of bits_per_row key t ≡ at (lacking (set_of cat own) mask) t
    here t b = sym (in-at bits_per_row cat.n key t b) ∙ ap (λ (X : List ℕ). at X t) S.rows
