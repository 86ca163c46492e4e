-- `walks::join_code` meets its contract, way by way. Assumes nothing.
use mathlib.Core.Path.{◌≡◌, sym}
use mathlib.Core.Logic.{◌⊎◌, inl, inr}
use mathlib.Core.Bool.{Bool, true, false}
use Prim.Native.Nat.{ℕ}
use borrow.Author.Tests.{eq-eqb, ne_eqb}
use Rattle.walks.specs.Merged.{joint}
use Rattle.walks.proofs.join_code.Goals as goal

taken : (seen : Bool) (old code : ℕ) → (seen ≡ false) ⊎ (seen ≡ true × old ≡ code) → code ≡ joint seen old code
unfolding joint
taken seen old code (inl e) = rw e
taken seen old code (inr (e, q)) = rw (e, eq-eqb old code q) (sym q)

pub returns-then-old-code : goal.returns-then-old-code
returns-then-old-code c = taken _ _ _ c.if-old-code.either

pub returns-else-old-code : goal.returns-else-old-code
unfolding joint
returns-else-old-code c = rw (c.if-old-code.false.0, ne_eqb c.args.old c.args.code c.if-old-code.false.1)
