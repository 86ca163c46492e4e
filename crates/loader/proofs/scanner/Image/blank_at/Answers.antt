-- `Image::blank_at` meets its contract: one law for version 2, and one for version 1. Assumes nothing.
use Rattle.std.proofs.Common.{sym, ◌∙◌, refl}
use Rattle.tables.proofs.VersionLaws.{blank-other, blank-two}
use Rattle.loader.proofs.scanner.Image.blank_at.Goals as goal

pub returns-in-One : goal.returns-in-One
returns-in-One c = rw c.in-One.is (sym (blank-other 1 _ (λ e. cc)))

pub returns-in-Two : goal.returns-in-Two
returns-in-Two c = c.all_null.ensures ∙ rw c.in-Two.is (sym (blank-two 2 _ refl))
