-- "Images with a table above 255 rows carry version 2, all others version 1" (#110): which version tables need, and what either allows. What follows
-- stands in proofs/VersionLaws. Assumes nothing.
use Rattle.std.specs.Prelude.{ℕ, ◌≡◌, ◌≢◌, Bool, not, cond, ◌&&◌, ltb, eqb, List, Result, MatchResult}
use Rattle.laws.specs.Tests.{any}
use Rattle.refusals.specs.declared.Refusal.{Refusal}
use Rattle.refusals.specs.declared.Refusal.TheVariants.{UnknownVersion}
use Rattle.tables.specs.declared.Catalogue.{Catalogue}
use Rattle.tables.specs.declared.Version.{Version}
use Rattle.tables.specs.declared.Version.TheVariants.{One, Two}
use Rattle.tables.specs.Sizes.{most_rows, most_rows_one, version_one, version_two}
use Rattle.tables.specs.Catalogues.{count_of}
use Rattle.tables.specs.Rows.{all_null}

-- The number of a version.
abbrev pub version_number : Version → ℕ
version_number One = version_one
version_number Two = version_two

-- What reading a version's number comes to: that version, or 3 where the number is neither 1 nor 2.
abbrev pub Reads : ℕ → Result Version Refusal → Type 0
Reads k r =
    MatchResult r (λ version. version_number version ≡ k) (λ refusal. (refusal ≡ UnknownVersion) × (k ≢ version_one) × (k ≢ version_two))

-- Table t passes 255 rows.
abbrev pub long_table : Catalogue → ℕ → Bool
long_table cat t = ltb most_rows_one (count_of cat t)

-- Some table does.
unfoldable pub some_long : Catalogue → Bool
some_long cat = any cat.n (long_table cat)

-- The version that these tables carry.
unfoldable pub version_of : Catalogue → ℕ
version_of cat = cond (some_long cat) version_two version_one

-- "6 means above 255 in version 1, above 4,095 in version 2": the most rows of a table in an image of version v.
unfoldable pub most_rows_in : ℕ → ℕ
most_rows_in v = cond (eqb v version_one) most_rows_one most_rows

-- "20, a version 2 image in which no table passes 255"
unfoldable pub needless : ℕ → Catalogue → Bool
needless v cat = eqb v version_two && not (some_long cat)

-- "21, an all-null row where version 2 is read or would be written" (#111)
unfoldable pub blank : ℕ → List ℕ → Bool
blank v row = eqb v version_two && all_null row
