-- `tables::check_sizes` meets its contract: one law for each way. Assumes nothing.
use Rattle.std.proofs.Common.{inl, inr, sym}
use Rattle.tables.specs.Sizes.{most_attributes, most_tables}
use Rattle.tables.proofs.CheckLaws.{inside, below, above, size-m, size-n, size-good}
use Rattle.tables.proofs.check_sizes.Goals as goal

pub returns-then-m-lt1 : goal.returns-then-m-lt1
returns-then-m-lt1 c =
    elim c.then-m-lt1.either [
      | inl low ↦ sym (size-m _ _ (below 1 most_attributes _ low))
      | inr m ↦ elim m [
        | inl high ↦ sym (size-m _ _ (above 1 most_attributes _ high.0 high.1))
        | inr n ↦ elim n [
          | inl low ↦ sym (size-n _ _ (inside 1 most_attributes _ low.0 low.1) (below 1 most_tables _ low.2))
          | inr high ↦ sym (size-n _ _ (inside 1 most_attributes _ high.0 high.1) (above 1 most_tables _ high.2 high.3))
        ]
      ]
    ]

pub returns : goal.returns
returns c = sym (size-good _ _ (inside 1 most_attributes _ c.if-m-lt1.false c.if-m-gt-MOST_ATTRIBUTES.false) (inside 1 most_tables _ c.if-n-lt1.false c.if-n-gt-MOST_TABLES.false))
