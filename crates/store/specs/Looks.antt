-- What a search and an offer say, as the paragraphs on looks and trials have it. Assumes nothing.
use Rattle.std.specs.Prelude.{ℕ, Bool}

-- What a search comes to, with the looks that it made: the record of the key; the record and the side, right for true, whose empty link ended it; or a
-- damaged store.
pub data Looked : Type 0 where
  Found : ℕ → ℕ → Looked
  Absent : ℕ → Bool → ℕ → Looked
  Damaged : ℕ → Looked

-- What an offer of a key comes to, with the looks that it took: it was there, or it was added; or refusal 12 (Full) or 14 (Broken), which counts none.
pub data Placed : Type 0 where
  Known : ℕ → Placed
  Added : ℕ → Placed
  Full : Placed
  Broken : Placed
