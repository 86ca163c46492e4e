-- The padded row of a key: its length, its codes, and that it is document 000's embedding of the set.
-- Assumes nothing.
use Prim.Native.Nat.{ℕ, ◌+◌, ◌-◌, ◌≤◌, ◌<◌}
use native.Mathlib.Omega.{arith}
use mathlib.Core.Path.{◌≡◌, refl, ap, subst, ◌∙◌}
use mathlib.Core.Logic.{◌↔◌}
use mathlib.Core.Bool.{true, false}
use mathlib.Core.List.{List, []}
use lib.ListN.{length, drop, get_or, get_or-append}
use lib.Seq.{get_or-append-add, get_or-drop}
use Rattle.laws.specs.Lists.{put}
use Rattle.laws.proofs.TestLaws.{not_yes, iff-eq}
use Rattle.words.specs.Words.{bit_of}
use Rattle.keys.specs.Keys.{bits_per_row, row_of}
use Rattle.keys.proofs.SetLaws.{in-length, in-at}
use Rattle.tables.specs.declared.Catalogue.{Catalogue}
use Rattle.tables.specs.Catalogues.{scheme_of, code_of}
use Rattle.disjunction.specs.Sets.{Tables, Consistent}
use Rattle.disjunction.specs.Cells.{gives, code_below, Embedding}
use Rattle.disjunction.proofs.CellLaws.{gives-iff, code-lowest, code-none, padded-long, padded-at, padded-embedding}
use Rattle.rows.specs.World.{cells_in, world_of, set_of}
use Rattle.rows.proofs.WorldLaws.{world-tables}
use Rattle.padding.specs.Padding.{gives_in, padded_row}

-- ---- the tables that give a code

module _ (cat : Catalogue) (key : ℕ) where
  pub gives-cells : (cells : List ℕ) (a t : ℕ) → gives (cells_in cat cells) (set_of cat key) a t ≡ gives_in cat key a t
  unfolding gives_in gives
  gives-cells cells a t = refl

  -- A table gives a code where the key has a row of it and its scheme has the attribute.
  pub gives_row : (a t : ℕ) → t < cat.n → (gives_in cat key a t ≡ true) ↔ ((0 < row_of bits_per_row key t) × (bit_of (scheme_of cat t) a ≡ true))
  unfolding gives_in
  gives_row a t l =
      subst (λ (r : ℕ). (gives (cells_in cat []) (set_of cat key) a t ≡ true) ↔ ((0 < r) × (bit_of (scheme_of cat t) a ≡ true)))
      (in-at bits_per_row cat.n key t l) (gives-iff (cells_in cat []) (set_of cat key) a t)

  -- Without a row it gives none; else the scheme decides.
  pub gives-absent : (a t : ℕ) → t < cat.n → row_of bits_per_row key t ≡ 0 → gives_in cat key a t ≡ false
  gives-absent a t l z = not_yes (gives_in cat key a t) (λ y. absurd (omega (arith, z, ((gives_row a t l).0 y).0)))

  pub gives-member : (a t : ℕ) → t < cat.n → 0 < row_of bits_per_row key t → gives_in cat key a t ≡ bit_of (scheme_of cat t) a
  gives-member a t l p = iff-eq (gives_in cat key a t) (bit_of (scheme_of cat t) a) (λ y. ((gives_row a t l).0 y).1) (λ b. (gives_row a t l).1 (p, b))

  -- The code is that of the lowest-numbered table that gives one, and 0 where none does.
  pub code-first : (cells : List ℕ) (a t : ℕ) → t < cat.n → gives_in cat key a t ≡ true → ((u : ℕ) → u < t → gives_in cat key a u ≡ false)
      → code_below (cells_in cat cells) (set_of cat key) a cat.n ≡ code_of cat cells t (row_of bits_per_row key t) a
  code-first cells a t l y n =
      code-lowest (cells_in cat cells) (set_of cat key) a cat.n t l (gives-cells cells a t ∙ y) (λ u b. gives-cells cells a u ∙ n u b)
      ∙ ap (λ (r : ℕ). code_of cat cells t r a) (in-at bits_per_row cat.n key t l)

  pub code-null : (cells : List ℕ) (a : ℕ) → ((u : ℕ) → u < cat.n → gives_in cat key a u ≡ false)
      → code_below (cells_in cat cells) (set_of cat key) a cat.n ≡ 0
  code-null cells a n = code-none (cells_in cat cells) (set_of cat key) a cat.n (λ u b. gives-cells cells a u ∙ n u b)

-- ---- the padded row

module _ (cat : Catalogue) (cells : List ℕ) (key : ℕ) where
  pub pad-long : length (padded_row cat cells key) ≡ cat.m
  unfolding padded_row
  pad-long = padded-long (cells_in cat cells) (set_of cat key)

  pub pad-at : (a : ℕ) → a < cat.m → get_or (padded_row cat cells key) a 0 ≡ code_below (cells_in cat cells) (set_of cat key) a cat.n
  unfolding padded_row
  pad-at a l = padded-at (cells_in cat cells) (set_of cat key) a l

  -- A row with it in its front: the codes below m, and the cells from m on as they were.
  pub put-code : (o : List ℕ) (a : ℕ) → a < cat.m → get_or (put (padded_row cat cells key) o) a 0 ≡ code_below (cells_in cat cells) (set_of cat key) a cat.n
  put-code o a l =
      let row = padded_row cat cells key in
      get_or-append row (drop (length row) o) 0 a (rw pad-long l) ∙ pad-at a l

  pub put-stays : (o : List ℕ) (a : ℕ) → cat.m ≤ a → get_or (put (padded_row cat cells key) o) a 0 ≡ get_or o a 0
  put-stays o a l =
      let row = padded_row cat cells key in
      let k : length row + (a - length row) ≡ a = rw pad-long (omega arith) in
      (rw k at (get_or-append-add row (drop (length row) o) (a - length row) 0)) ∙ get_or-drop (length row) o (a - length row) 0 ∙ rw k

  -- The padded row of a consistent set is its embedding.
  pub pad-embedding : Consistent (world_of cat cells) (set_of cat key) → Embedding (cells_in cat cells) (set_of cat key) (padded_row cat cells key)
  unfolding padded_row
  pad-embedding c =
      padded-embedding (cells_in cat cells) (set_of cat key) (in-length bits_per_row cat.n key)
      (subst (λ (W : Tables). Consistent W (set_of cat key)) (world-tables cat cells) c)
