-- `walks::Column::next_equal` meets its contract: what `find` says of the rows before its answer, and of it. Assumes nothing.
use native.Mathlib.Omega.{arith}
use Prim.Native.Nat.{ℕ, ◌+◌, ◌*◌, ◌≤◌, ◌<◌}
use mathlib.Core.Path.{◌≡◌}
use mathlib.Core.Logic.{◌≢◌}
use lib.ListN.{get_or}
use borrow.Author.Tests.{tests}
use Rattle.std.proofs.Common.{rules, Option, Some, None, MatchOption}
use Rattle.std.proofs.lemmas.Iterator.{first_from_Range}
use Rattle.walks.specs.declared.Column.{Column}
use Rattle.walks.specs.Columns.{NextIn}
use Rattle.walks.proofs.Column.next_equal.Goals as goal

next-from : (c : Column) (i v : ℕ) (r : Option ℕ) → i ≤ c.count
    → MatchOption r ((k : ℕ) → i ≤ k → k < c.count → get_or c.cells.now (c.first + k * c.width) 0 ≢ v)
    (λ j. (i ≤ j) × (j < c.count) × (get_or c.cells.now (c.first + j * c.width) 0 ≡ v) × ((k : ℕ) → i ≤ k → k < j → get_or c.cells.now (c.first + k * c.width) 0 ≢ v))
    → NextIn c i v r
next-from c i v None l h =
    record { next = record { from = l; within = omega arith; before = λ j b n. h j n b; found = λ b. absurd (omega arith) }; there = tt }
next-from c i v (Some j) l (a, b, e, h) =
    record { next = record { from = a; within = omega arith; before = λ k x y. h k y x; found = λ x. e }; there = b }

pub returns : goal.returns
returns c =
    next-from _ _ _ _ c.requires
    (first_from_Range _ _ _ _ (λ (k : ℕ). get_or c.args.self.now.cells.now (c.args.self.now.first + k * c.args.self.now.width) 0 ≡ c.args.wanted)
    (λ (k : ℕ). get_or c.args.self.now.cells.now (c.args.self.now.first + k * c.args.self.now.width) 0 ≢ c.args.wanted)
    c.find.ensures.ran (λ x q k. search (rules, tests)) (λ x q k. search (rules, tests)))
