-- `tables::scheme_bad` meets its contract: what stands above bit m is the scheme divided by 2 ^ m. Assumes nothing.
use Rattle.std.proofs.Common.{refl}
use Rattle.tables.specs.Checks.{bad_scheme}
use Rattle.tables.proofs.CheckLaws.{bad_scheme-parts}
use Rattle.tables.proofs.scheme_bad.Goals as goal

pub returns-then-scheme-eq0 : goal.returns-then-scheme-eq0
unfolding bad_scheme
returns-then-scheme-eq0 c = rw c.if-scheme-eq0.true refl

pub returns-else-scheme-eq0 : goal.returns-else-scheme-eq0
returns-else-scheme-eq0 c = bad_scheme-parts _ _ c.if-scheme-eq0.false
