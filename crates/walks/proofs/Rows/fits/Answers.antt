-- `walks::Rows::fits` meets its contract: what `all` found at the shared attributes is of the row's codes. Assumes nothing.
use native.Mathlib.Omega.{arith}
use Prim.Native.Nat.{ℕ, ◌+◌, ◌%◌, ◌^◌, ◌<◌}
use mathlib.Core.Path.{◌≡◌, sym, ◌∙◌}
use mathlib.Core.Bool.{true}
use lib.ListN.{length, get_or}
use Rattle.std.specs.Int.Bits.{bit_and, and_lt}
use lib.Count.{ones}
use borrow.Author.Tests.{tests}
use Rattle.std.proofs.Common.{rules}
use Rattle.std.specs.Bool.{MatchBool}
use Rattle.laws.proofs.TestLaws.{and_split}
use Rattle.words.specs.Words.{bit_of}
use Rattle.words.proofs.WordLaws.{bit-and}
use Rattle.tables.specs.Catalogues.{code_at}
use Rattle.rows.proofs.WorldLaws.{code_inside}
use Rattle.walks.specs.Merged.{merged_length, Same}
use Rattle.walks.proofs.FirstLaws.{row-inside}
use Rattle.walks.proofs.MatchLaws.{matches-found}
use Rattle.walks.proofs.BitLaws.{bits-all, bits-serve}
use Rattle.walks.proofs.Rows.fits.Goals.{After-bits, After-all}
use Rattle.walks.proofs.Rows.fits.Goals as goal

-- an attribute's cell is there
inside : (c : After-bits) (a : ℕ) → bit_of (bit_and c.args.self.now.scheme c.args.merged.now.attrs) a ≡ true
    → c.start-start.result + ones (c.args.self.now.scheme % 2 ^ a) < length c.args.self.now.cells.now
inside c a b =
    let s = c.args.self.now in
    rw c.start-start.ensures
    (code_inside s.scheme _ _ _ (row-inside _ s.base _ _ _ c.requires s.inside) (and_split _ _ (sym (bit-and _ _ a) ∙ b)).0)

found : (c : After-all) → MatchBool c.all.result
    ((a : ℕ) → bit_of c.bits.result.rest a ≡ true
    → Same (get_or c.args.merged.now.codes a 0) (code_at c.args.self.now.cells.now c.args.self.now.scheme c.start-start.result a))
    ((a : ℕ) × (bit_of c.bits.result.rest a ≡ true)
    × (Same (get_or c.args.merged.now.codes a 0) (code_at c.args.self.now.cells.now c.args.self.now.scheme c.start-start.result a) → ⊥))
found c =
    let s = c.args.self.now in
    bits-all _ _ _ _ (λ (a : ℕ). Same (get_or c.args.merged.now.codes a 0) (code_at s.cells.now s.scheme c.start-start.result a))
    (λ (a : ℕ). Same (get_or c.args.merged.now.codes a 0) (code_at s.cells.now s.scheme c.start-start.result a) → ⊥) c.all.ensures.ran
    (λ x q k. search (rules, tests)) (λ x q k. search (rules, tests))

pub all-requires-clause-callable : goal.all-requires-clause-callable
all-requires-clause-callable c =
    bits-serve (λ x q k. search (rules, tests))
    (λ a l b. let i = inside (goal.at.all-requires-clause-callable c).After-bits a (rw c.bits.ensures at b) in search (rules, tests, i))

pub returns : goal.returns
returns c =
    rw (← c.start-start.ensures)
    (matches-found _ _ _ _ _ (and_lt merged_length _ _ (omega arith) (omega arith)) c.all.result (rw c.bits.ensures at (found (goal.at.returns c).After-all)))
