-- Which version tables carry, exactly when. What carries the proof: some table passes 255 rows, or none does. Assumes nothing.
use Prim.Native.Nat.{ℕ, ◌≤◌, ◌<◌}
use native.Mathlib.Omega.{arith}
use mathlib.Core.Path.{◌≡◌, refl}
use mathlib.Core.Logic.{◌↔◌}
use mathlib.Core.Bool.{Bool, true, false}
use Rattle.tables.specs.declared.Catalogue.{Catalogue}
use Rattle.tables.specs.Sizes.{most_rows_one, version_one, version_two}
use Rattle.tables.specs.Catalogues.{count_of}
use Rattle.tables.specs.Versions.{some_long, version_of}
use Rattle.tables.proofs.VersionLaws.{long-some, long-none, some-long, none-long, version-two, version-one}
use Rattle.claims.specs.WriteRefusals.{NeedsTwo}

pub carries-two : (cat : Catalogue) → (version_of cat ≡ version_two) ↔ NeedsTwo cat
carries-two cat = (λ e. by e (some_long cat) refl, λ (t, l, h). version-two cat (long-some cat t l h))
  where
    by : version_of cat ≡ version_two → (b : Bool) → some_long cat ≡ b → NeedsTwo cat
    by e true h = some-long cat h
    by e false h = absurd (omega (arith, e, version-one cat h))

pub carries-one : (cat : Catalogue) → (version_of cat ≡ version_one) ↔ ((t : ℕ) → t < cat.n → count_of cat t ≤ most_rows_one)
carries-one cat = (λ e. by e (some_long cat) refl, λ h. version-one cat (long-none cat h))
  where
    by : version_of cat ≡ version_one → (b : Bool) → some_long cat ≡ b → (t : ℕ) → t < cat.n → count_of cat t ≤ most_rows_one
    by e true h = absurd (omega (arith, e, version-two cat h))
    by e false h = none-long cat h
