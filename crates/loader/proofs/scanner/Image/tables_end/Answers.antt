-- `Image::tables_end` meets its contract: one law for each way. Assumes nothing.
use Rattle.std.proofs.Common.{ap, sym, ◌∙◌}
use Rattle.loader.specs.Load.{refused}
use Rattle.loader.proofs.LoadLaws.{end-over, end-needless, end-good}
use Rattle.loader.proofs.scanner.Image.tables_end.Goals as goal

pub returns-then-at-self : goal.returns-then-at-self
returns-then-at-self c = ap refused c.at.ensures ∙ sym (end-over _ _ _ _ c.if-at-self.true)

pub returns-then-needless : goal.returns-then-needless
returns-then-needless c = ap refused c.at-then-needless.ensures ∙ sym (end-needless _ _ _ _ c.if-at-self.false (sym c.needless.ensures ∙ c.if-needless.true))

pub returns : goal.returns
returns c = rw c.filled.ensures (sym (end-good _ _ _ _ c.if-at-self.false (sym c.needless.ensures ∙ c.if-needless.false)))
