-- A layout: its numbers are small, and which tables its mask has.
-- Assumes nothing.
use Prim.Native.Nat.{ℕ, ◌^◌, ◌≤◌, ◌<◌}
use mathlib.Core.Path.{◌≡◌}
use mathlib.Core.Logic.{⊎_elim}
use mathlib.Core.List.{List}
use native.Mathlib.Omega.{arith}
use lib.ListN.{get_or}
use lib.Count.{ones}
use lib.Bits.{bit_or}
use lib.Pow.{pow_mono}
use borrow.Author.Tests.{eqb-true}
use Rattle.laws.proofs.TestLaws.{clash, or_case}
use Rattle.words.specs.Words.{bit_of}
use Rattle.words.proofs.WordLaws.{zero_bit, bit-or}
use Rattle.tables.specs.declared.Catalogue.{Catalogue}
use Rattle.tables.specs.Catalogues.{scheme_of, count_of, first_cell}
use Rattle.tables.specs.Checks.{Lawful}
use Rattle.tables.specs.Sizes.{most_total}
use Rattle.tables.proofs.CatalogueLaws.{rows_few}
use Rattle.sets.specs.declared.Measures.{Measures}
use Rattle.walks.specs.Merged.{Rising}
use Rattle.sets.specs.Promises.{RisingIn, LaidOut}
use Rattle.sets.proofs.MaskLaws.{one-is}

-- A lawful scheme is a word.
pub scheme-narrow : (cat : Catalogue) (lent : ℕ) → Lawful cat lent → (t : ℕ) → t < cat.n → scheme_of cat t < 2 ^ 64
scheme-narrow cat lent L t l = omega (arith, L.scheme t l, pow_mono L.attributes)

-- Few rows lie before a table.
pub laid-small : (cat : Catalogue) (lent : ℕ) → Lawful cat lent → (cells : List ℕ) (l : Measures) → LaidOut cat cells l → (t : ℕ) → t < cat.n
    → get_or l.before t 0 ≤ most_total
laid-small cat lent L cells l o t b = omega (arith, o.before t b, rows_few cat lent L t (omega (arith, b)))

-- ---- the mask

module _ (cat : Catalogue) (cells : List ℕ) where
  pub rising_none : RisingIn cat cells 0
  rising_none t l h = absurd (clash h (zero_bit t))

  pub rising-more : (t mask k : ℕ) → RisingIn cat cells mask → k ≡ 2 ^ t → Rising cells (first_cell cat t) (ones (scheme_of cat t)) (count_of cat t)
      → RisingIn cat cells (bit_or mask k)
  rising-more t mask k h e r u l b =
      ⊎_elim (λ q. h u l q) (λ q. let z : u ≡ t = eqb-true u t (rw (e, one-is t u) at q) in rw z r) (or_case (bit_of mask u) (bit_of k u) (rw (bit-or mask k u) at b))
