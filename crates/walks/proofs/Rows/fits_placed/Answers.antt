-- `walks::Rows::fits_placed` meets its contract: what `all` found at the mask's attributes is of the row's codes (`placed-code`). Assumes nothing.
use Prim.Native.Nat.{ℕ, ◌+◌, ◌<◌}
use mathlib.Core.Path.{◌≡◌, sym, ◌∙◌}
use mathlib.Core.Logic.{◌≢◌}
use mathlib.Core.Bool.{true}
use lib.ListN.{length, get_or}
use borrow.Author.Tests.{tests}
use Rattle.std.proofs.Common.{rules}
use Rattle.std.specs.Bool.{MatchBool}
use Rattle.words.specs.Words.{bit_of}
use Rattle.tables.specs.Catalogues.{code_at}
use Rattle.rows.proofs.WorldLaws.{code_inside}
use Rattle.walks.proofs.FirstLaws.{row-inside}
use Rattle.walks.proofs.MatchLaws.{matches-found}
use Rattle.walks.proofs.PlaceLaws.{placed-code}
use Rattle.walks.proofs.BitLaws.{either, bits-all, bits-serve}
use Rattle.walks.proofs.Rows.fits_placed.Goals.{After-bits, After-all}
use Rattle.walks.proofs.Rows.fits_placed.Goals as goal

-- an attribute's cell is there
inside : (c : After-bits) (a : ℕ) → bit_of c.args.mask a ≡ true → c.start-start.result + get_or c.args.places.now a 0 < length c.args.self.now.cells.now
inside c a b =
    let s = c.args.self.now in
    rw (c.start-start.ensures, c.requires.placed.each a b)
    (code_inside s.scheme _ _ _ (row-inside _ s.base _ _ _ c.requires.there s.inside) (c.requires.part a b))

-- and what is read from it is the row's code
own : (c : After-bits) (a : ℕ) → bit_of c.args.mask a ≡ true → get_or c.args.self.now.cells.now (c.start-start.result + get_or c.args.places.now a 0) 0
    ≡ code_at c.args.self.now.cells.now c.args.self.now.scheme c.start-start.result a
own c a b = placed-code _ _ _ c.requires.placed c.args.self.now.cells.now _ a b

found : (c : After-all) → MatchBool c.all.result
    ((a : ℕ) → bit_of c.bits.result.rest a ≡ true
    → get_or c.args.merged.now.codes a 0 ≡ get_or c.args.self.now.cells.now (c.start-start.result + get_or c.args.places.now a 0) 0)
    ((a : ℕ) × (bit_of c.bits.result.rest a ≡ true)
    × (get_or c.args.merged.now.codes a 0 ≢ get_or c.args.self.now.cells.now (c.start-start.result + get_or c.args.places.now a 0) 0))
found c =
    bits-all _ _ _ _
    (λ (a : ℕ). get_or c.args.merged.now.codes a 0 ≡ get_or c.args.self.now.cells.now (c.start-start.result + get_or c.args.places.now a 0) 0)
    (λ (a : ℕ). get_or c.args.merged.now.codes a 0 ≢ get_or c.args.self.now.cells.now (c.start-start.result + get_or c.args.places.now a 0) 0) c.all.ensures.ran
    (λ x q k. search (rules, tests)) (λ x q k. search (rules, tests))

pub all-requires-clause-callable : goal.all-requires-clause-callable
all-requires-clause-callable c =
    bits-serve (λ x q k. search (rules, tests))
    (λ a l b. let i = inside (goal.at.all-requires-clause-callable c).After-bits a (rw c.bits.ensures at b) in search (rules, tests, i))

pub returns : goal.returns
returns c =
    let s = (goal.at.returns c).After-bits in
    rw (← c.start-start.ensures)
    (matches-found _ _ _ _ _ c.ranges.mask.fits c.all.result
    (either c.all.result (λ h a b. (c.requires.valued a b, h a b ∙ own s a b)) (λ n. (n.0, n.1, λ m. n.2 (m.1 ∙ sym (own s n.0 n.1))))
    (rw c.bits.ensures at (found (goal.at.returns c).After-all))))
