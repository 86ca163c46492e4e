-- `walks::Rows::first_fit` meets its contract: the walk begins at the first row with the lowest code that is asked for, goes on from row to row that has it,
-- and what it compares is what is shared (`fits-shared`). Assumes nothing.
use native.Mathlib.Omega.{arith}
use Prim.Native.Nat.{ℕ, ◌-◌, ◌^◌}
use mathlib.Core.Path.{◌≡◌, refl, sym, ◌∙◌}
use mathlib.Core.List.{List}
use lib.ListN.{get_or}
use borrow.Author.Count.{below_more}
use Rattle.std.proofs.Common.{Option, unwrap_or}
use Rattle.std.specs.Int.Bits.{bit_and}
use Rattle.walks.specs.declared.Column.{Column}
use Rattle.walks.specs.Merged.{Under, Values, matches, row_in, NextEqual, fits_at}
use Rattle.walks.specs.Columns.{column_of, IsColumn, NextIn}
use Rattle.walks.specs.Firsts.{FirstIn}
use Rattle.walks.proofs.MatchLaws.{shared-under, under-less}
use Rattle.walks.proofs.FirstLaws.{first-none, first-same}
use Rattle.walks.proofs.PlaceLaws.{walk-next, walk_end, walk-one, fits-coded, fits-shared}
use Rattle.walks.proofs.Rows.first_fit.Goals.{After-way-way, After-without_lowest-mask, After-fits_placed}
use Rattle.walks.proofs.Rows.first_fit.Goals as goal

-- a column's next row with a code, by the numbers of the column
next-of : (c : Column) (cells : List ℕ) (first w k i v : ℕ) (r : Option ℕ) → IsColumn c cells first w k → NextIn c i v r
    → NextEqual cells c.first w i k v (unwrap_or r k)
next-of c cells first w k i v r q n = rw (q.same_cells, q.wide, q.rows) at n.next

-- every attribute that is asked for has a value
values : (c : After-way-way) → Values (bit_and c.args.self.now.scheme c.args.merged.now.attrs) c.args.merged.now.codes
values c = c.valued.ensures.all c.if-not-valued.false

-- the mask of the others
rest : (c : After-without_lowest-mask)
    → c.without_lowest-mask.result ≡ bit_and c.args.self.now.scheme c.args.merged.now.attrs - 2 ^ c.lowest-a.result
rest c = c.without_lowest-mask.ensures _ c.lowest-a.ensures

-- the others of them are of the scheme, and have values too
others : (c : After-without_lowest-mask) → Under c.without_lowest-mask.result (bit_and c.args.self.now.scheme c.args.merged.now.attrs)
others c d b = under-less _ _ c.lowest-a.ensures _ (λ x y. y) d (rw (rest c) at b)

-- the first row with the lowest code and those of the others is the first that fits
fitted : (c : After-way-way) (mask r : ℕ) → mask ≡ bit_and c.args.self.now.scheme c.args.merged.now.attrs - 2 ^ c.lowest-a.result
    → FirstIn c.args.self.now.count
    (fits_at c.args.self.now.cells.now (column_of c.way-way.result).first c.args.self.now.width (get_or c.args.merged.now.codes c.lowest-a.result 0)
    c.args.self.now.scheme c.args.self.now.base mask c.args.merged.now.codes) r
    → FirstIn c.args.self.now.count
    (λ j. matches c.args.self.now.cells.now c.args.self.now.scheme (row_in c.args.self.now.base c.args.self.now.scheme j)
    (bit_and c.args.self.now.scheme c.args.merged.now.attrs) c.args.merged.now.codes) r
fitted c mask r q F =
    let s = c.args.self.now in
    first-same _ _ _ _
    (fits-shared s.cells.now s.scheme s.base _ c.args.merged.now.codes _ c.lowest-a.ensures _ s.width c.way-way.ensures.begins s.wide (values c _ c.lowest-a.ensures.itself))
    (rw q at F)

-- what the comparison says of a row with the lowest code is whether it fits
answer : (c : After-fits_placed)
    → fits_at c.args.self.now.cells.now (column_of c.way-way.result).first c.args.self.now.width (get_or c.args.merged.now.codes c.lowest-a.result 0)
    c.args.self.now.scheme c.args.self.now.base c.without_lowest-mask.result c.args.merged.now.codes c.loop-way.i
    ≡ c.fits_placed.result
answer c = fits-coded _ _ _ _ _ _ _ _ _ (c.loop-way.invariant.0.code c.loop-way.invariant.1) ∙ sym c.fits_placed.ensures

pub returns-then-not-valued-clause-first : goal.returns-then-not-valued-clause-first
returns-then-not-valued-clause-first c = first-none _ _ (λ j. c.valued.ensures.null c.if-not-valued.true _ _ _)

pub way-way-requires : goal.way-way-requires
way-way-requires c = shared-under _ _ _ c.lowest-a.ensures.itself

pub returns-in_err-i-clause-first : goal.returns-in_err-i-clause-first
returns-in_err-i-clause-first c =
    rw c.from_residual.ensures
    (fitted (goal.at.returns-in_err-i-clause-first c).After-way-way _ _ refl
    (walk_end _ _ _ _ _ _ _ (walk-next _ _ _ _ _ _ _ _ _ 0 _ (λ j b. absurd (omega arith)) (next-of _ _ _ _ _ _ _ _ c.way-way.ensures c.in_err-i.ensures)) refl))

pub returns-then-mask-eq0-clause-first : goal.returns-then-mask-eq0-clause-first
returns-then-mask-eq0-clause-first c =
    fitted (goal.at.returns-then-mask-eq0-clause-first c).After-way-way _ _ (rest (goal.at.returns-then-mask-eq0-clause-first c).After-without_lowest-mask)
    (walk-one _ _ _ _ _ _ _ _ _ _ c.if-mask-eq0.true (next-of _ _ _ _ _ _ _ _ c.way-way.ensures c.in_ok-i.ensures))

pub loop-way-init : goal.loop-way-init
loop-way-init c =
    (walk-next _ _ _ _ _ _ _ _ _ 0 _ (λ j b. absurd (omega arith)) (next-of _ _ _ _ _ _ _ _ c.way-way.ensures c.in_ok-i.ensures), omega (arith, c.way-way.ensures.rows, c.in_ok-i.ensures.there))

pub fits_placed-requires-clause-part : goal.fits_placed-requires-clause-part
fits_placed-requires-clause-part c d b = shared-under _ _ d (others (goal.at.fits_placed-requires-clause-part c).After-without_lowest-mask d b)

pub fits_placed-requires-clause-valued : goal.fits_placed-requires-clause-valued
fits_placed-requires-clause-valued c d b =
    values (goal.at.fits_placed-requires-clause-valued c).After-way-way d (others (goal.at.fits_placed-requires-clause-valued c).After-without_lowest-mask d b)

pub returns-in_err-i-2-clause-first : goal.returns-in_err-i-2-clause-first
returns-in_err-i-2-clause-first c =
    rw c.from_residual-in_err-i-2.ensures
    (fitted (goal.at.returns-in_err-i-2-clause-first c).After-way-way _ _ (rest (goal.at.returns-in_err-i-2-clause-first c).After-without_lowest-mask)
    (walk_end _ _ _ _ _ _ _ (walk-next _ _ _ _ _ _ _ _ _ _ _
    (below_more _ _ c.loop-way.invariant.0.before (answer (goal.at.returns-in_err-i-2-clause-first c).After-fits_placed ∙ c.loop-way-test.true)) (next-of _ _ _ _ _ _ _ _ c.way-way.ensures c.in_err-i-2.ensures)) refl))

pub loop-way-preserved : goal.loop-way-preserved
loop-way-preserved c = (
  walk-next _ _ _ _ _ _ _ _ _ _ _ (below_more _ _ c.loop-way.invariant.0.before (answer (goal.at.loop-way-preserved c).After-fits_placed ∙ c.loop-way-test.true))
      (next-of _ _ _ _ _ _ _ _ c.way-way.ensures c.in_ok-i-2.ensures),
  omega (arith, c.way-way.ensures.rows, c.in_ok-i-2.ensures.there),
)

pub returns-clause-first : goal.returns-clause-first
returns-clause-first c =
    let v = c.loop-way.invariant.0 in
    fitted (goal.at.returns-clause-first c).After-way-way _ _ (rest (goal.at.returns-clause-first c).After-without_lowest-mask)
    (record { within = v.within; before = v.before; found = λ b. answer (goal.at.returns-clause-first c).After-fits_placed ∙ c.loop-way-test.false })
