-- `walks::MergedRow::valued` meets its contract: what `all` found of the codes at the mask's attributes (`bits-all`). Assumes nothing.
use native.Mathlib.Omega.{arith}
use Prim.Native.Nat.{ℕ, ◌<◌}
use mathlib.Core.Path.{◌≡◌}
use mathlib.Core.Bool.{true}
use lib.ListN.{get_or}
use borrow.Author.Tests.{tests}
use Rattle.std.proofs.Common.{rules}
use Rattle.std.specs.Bool.{MatchBool}
use Rattle.words.specs.Words.{bit_of}
use Rattle.walks.proofs.MatchLaws.{matches-null}
use Rattle.walks.proofs.BitLaws.{bits-all}
use Rattle.walks.proofs.MergedRow.valued.Goals.{After-all}
use Rattle.walks.proofs.MergedRow.valued.Goals as goal

found : (c : After-all) → MatchBool c.all.result ((a : ℕ) → bit_of c.bits.result.rest a ≡ true → 0 < get_or c.args.self.now.codes a 0)
    ((a : ℕ) × (bit_of c.bits.result.rest a ≡ true) × (get_or c.args.self.now.codes a 0 ≡ 0))
found c =
    bits-all _ _ _ _ (λ (a : ℕ). 0 < get_or c.args.self.now.codes a 0) (λ (a : ℕ). get_or c.args.self.now.codes a 0 ≡ 0) c.all.ensures.ran
    (λ x q k. search (rules, tests)) (λ x q k. search (rules, tests))

pub returns-clause-all : goal.returns-clause-all
returns-clause-all c e = rw (← c.bits.ensures) (rw e at (found (goal.at.returns-clause-all c).After-all))

pub returns-clause-null : goal.returns-clause-null
returns-clause-null c e cells scheme start =
    let w = rw (e, c.bits.ensures) at (found (goal.at.returns-clause-null c).After-all) in
    matches-null cells scheme start _ _ c.ranges.mask.fits (λ v. omega (arith, w.2, v w.0 w.1))
