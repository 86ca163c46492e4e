-- The tables of which request #114 says that no padded row covers another set's: they hold no null, no scheme is empty and no row stands twice in its
-- table. That tables which the loader accepts are `Filed` stands in proofs/FiledLaws. Assumes nothing.
use Rattle.std.specs.Prelude.{ℕ, ◌<◌, ◌≡◌, true}
use Rattle.disjunction.specs.Sets.{Row}
use Rattle.disjunction.specs.Cells.{Cells, tables}

-- "No table holds a null": every row has a value for every attribute of its scheme.
abbrev pub NoNulls : Cells → Type 0
NoNulls C = (t r a : ℕ) → Row (tables C) t r → a < C.m → C.has t a ≡ true → 0 < C.cell t r a

-- What every loaded image has: no scheme is empty (refusal 5), and no row stands twice in its table (refusal 7).
pub record Filed (C : Cells) : Type 0 where
  pub scheme : (t : ℕ) → t < C.n → (a : ℕ) × (a < C.m) × (C.has t a ≡ true)
  pub once : (t r q : ℕ) → Row (tables C) t r → Row (tables C) t q
      → ((a : ℕ) → a < C.m → C.has t a ≡ true → C.cell t r a ≡ C.cell t q a) → r ≡ q
