-- Which version tables carry, one law for each way that the code goes; and what either version allows. Assumes nothing.
use Prim.Native.Nat.{ℕ, zero, suc, ◌≤◌, ◌<◌}
use native.Mathlib.Decide.{dec_lt}
use native.Mathlib.Omega.{arith}
use mathlib.Core.Path.{◌≡◌, refl, sym, ◌∙◌}
use mathlib.Core.Logic.{◌⊎◌, inl, inr, ⊎_elim}
use mathlib.Core.Bool.{Bool, true, false, not, cond, or_comm}
use mathlib.Core.List.{List}
use native.Mathlib.Numerals.{add-one}
use lib.Dec.{eqb, ltb}
use lib.ListN.{length, get_or, take}
use Rattle.std.specs.List.{list_any}
use Rattle.std.proofs.lemmas.List.Folds.{list_any_more}
use Rattle.laws.specs.Tests.{any}
use borrow.Author.Tests.{lt-ltb, le-ltb, ltb-true, eq-eqb, ne_eqb}
use Rattle.laws.proofs.TestLaws.{clash, which, any_some, any_of, any_none}
use Rattle.tables.specs.declared.Catalogue.{Catalogue}
use Rattle.tables.specs.Sizes.{most_rows, most_rows_one, version_one, version_two}
use Rattle.tables.specs.Catalogues.{count_of}
use Rattle.tables.specs.Versions.{long_table, some_long, version_of, most_rows_in, needless, blank}
use Rattle.tables.specs.Rows.{all_null}

-- ---- the most rows

pub most-one : (v : ℕ) → v ≡ version_one → most_rows_in v ≡ most_rows_one
unfolding most_rows_in
most-one v e = rw (eq-eqb v version_one e)

pub most-two : (v : ℕ) → (v ≡ version_one → ⊥) → most_rows_in v ≡ most_rows
unfolding most_rows_in
most-two v h = rw (ne_eqb v version_one h)

-- No version allows more rows than a catalogue.
pub most-in : (v : ℕ) → most_rows_in v ≤ most_rows
unfolding most_rows_in
most-in v = by (eqb v version_one)
  where
    by : (b : Bool) → cond b most_rows_one most_rows ≤ most_rows
    by true = omega arith
    by false = omega arith

-- ---- all-null rows

pub blank-other : (v : ℕ) (row : List ℕ) → (v ≡ version_two → ⊥) → blank v row ≡ false
unfolding blank
blank-other v row h = rw (ne_eqb v version_two h)

pub blank-two : (v : ℕ) (row : List ℕ) → v ≡ version_two → blank v row ≡ all_null row
unfolding blank
blank-two v row e = rw (eq-eqb v version_two e)

-- ---- the version of tables

-- A test of the first k members of a list.
any-taken : (p : ℕ → Bool) (xs : List ℕ) (k : ℕ) → k ≤ length xs → list_any p (take k xs) ≡ any k (λ i. p (get_or xs i 0))
unfolding any
any-taken p xs zero h = refl
any-taken p xs (suc k) h =
    let b : k < length xs = omega arith in
    rw (← add-one k, list_any_more p xs k 0 b, any-taken p xs k (omega arith)) (or_comm (any k (λ i. p (get_or xs i 0))) (p (get_or xs k 0)))

module _ (cat : Catalogue) where
  pub long-some : (t : ℕ) → t < cat.n → most_rows_one < count_of cat t → some_long cat ≡ true
  unfolding some_long
  long-some t l h = any_of cat.n (long_table cat) t l (lt-ltb most_rows_one (count_of cat t) h)

  pub long-none : ((t : ℕ) → t < cat.n → count_of cat t ≤ most_rows_one) → some_long cat ≡ false
  unfolding some_long
  long-none h = any_none cat.n (long_table cat) (λ t l. le-ltb most_rows_one (count_of cat t) (h t l))

  -- It is one of the row counts below n.
  pub long-taken : cat.n ≤ length cat.rows → list_any (ltb most_rows_one) (take cat.n cat.rows) ≡ some_long cat
  unfolding some_long
  long-taken h = any-taken (ltb most_rows_one) cat.rows cat.n h

  -- Where there is one, it is some table,
  pub some-long : some_long cat ≡ true → (t : ℕ) × (t < cat.n) × (most_rows_one < count_of cat t)
  unfolding some_long
  some-long e = let (t, l, h) = any_some cat.n (long_table cat) e in (t, l, ltb-true most_rows_one (count_of cat t) h)

  -- and where there is none, every table is short.
  pub none-long : some_long cat ≡ false → (t : ℕ) → t < cat.n → count_of cat t ≤ most_rows_one
  none-long e t l =
      elim (dec_lt most_rows_one (count_of cat t)) [
        | yes h ↦ absurd (clash (long-some t l h) e)
        | no h ↦ omega arith
      ]

  pub version-two : some_long cat ≡ true → version_of cat ≡ version_two
  unfolding version_of
  version-two e = rw e

  pub version-one : some_long cat ≡ false → version_of cat ≡ version_one
  unfolding version_of
  version-one e = rw e

  pub version-some : version_one ≤ version_of cat
  version-some =
      ⊎_elim
      (λ (e : some_long cat ≡ true). rw (version-two e) (omega arith))
      (λ (e : some_long cat ≡ false). rw (version-one e) (omega arith))
      (which (some_long cat))

  pub version-few : version_of cat ≤ version_two
  version-few =
      ⊎_elim
      (λ (e : some_long cat ≡ true). rw (version-two e) (omega arith))
      (λ (e : some_long cat ≡ false). rw (version-one e) (omega arith))
      (which (some_long cat))

  -- Each table has as many rows as its version allows.
  pub version-allows : ((t : ℕ) → t < cat.n → count_of cat t ≤ most_rows) → (t : ℕ) → t < cat.n → count_of cat t ≤ most_rows_in (version_of cat)
  version-allows few t l =
      ⊎_elim
      (λ (e : some_long cat ≡ true). rw (version-two e, most-two version_two (λ z. absurd (omega arith))) (few t l))
      (λ (e : some_long cat ≡ false). rw (version-one e, most-one version_one refl) (none-long e t l))
      (which (some_long cat))

  -- Version 2 is needless where the tables carry version 1, and no other version is.
  pub needless-other : (v : ℕ) → (v ≡ version_two → ⊥) → needless v cat ≡ false
  unfolding needless
  needless-other v h = rw (ne_eqb v version_two h)

  pub needless-two : (v : ℕ) → v ≡ version_two → needless v cat ≡ eqb (version_of cat) version_one
  unfolding needless version_of
  needless-two v e = rw (eq-eqb v version_two e) (by (some_long cat))
    where
      by : (b : Bool) → not b ≡ eqb (cond b version_two version_one) version_one
      by true = refl
      by false = refl

  -- Their version is not a needless one,
  pub version-needed : needless (version_of cat) cat ≡ false
  unfolding needless
  version-needed =
      ⊎_elim
      (λ (e : some_long cat ≡ true). rw (version-two e, e) refl)
      (λ (e : some_long cat ≡ false). rw (version-one e) refl)
      (which (some_long cat))

  -- and of versions 1 and 2 it is the only one that is not and allows their rows.
  pub version-only : (v : ℕ) → (v ≡ version_one) ⊎ (v ≡ version_two)
      → ((t : ℕ) → t < cat.n → count_of cat t ≤ most_rows_in v) → needless v cat ≡ false → v ≡ version_of cat
  unfolding needless
  version-only v (inl e) few n =
      e ∙ sym (version-one (long-none (λ t l. rw (most-one v e) at (few t l))))
  version-only v (inr e) few n = by (some_long cat) refl
    where
      by : (b : Bool) → some_long cat ≡ b → v ≡ version_of cat
      by true h = e ∙ sym (version-two h)
      by false h = absurd (clash (rw (eq-eqb v version_two e, h) refl) n)

-- ---- catalogues with the same row counts below n carry the same version

module _ (cat cat' : Catalogue) (n : cat'.n ≡ cat.n) (same : (t : ℕ) → t < cat.n → count_of cat' t ≡ count_of cat t) where
  pub long_same : some_long cat' ≡ some_long cat
  long_same = by (some_long cat) refl
    where
      by : (b : Bool) → some_long cat ≡ b → some_long cat' ≡ b
      by true e = let (t, l, h) = some-long cat e in long-some cat' t (rw n l) (rw (same t l) h)
      by false e = long-none cat' (λ t l. let m = rw n at l in rw (same t m) (none-long cat e t m))

  pub version-same : version_of cat' ≡ version_of cat
  unfolding version_of
  version-same = rw long_same refl

  pub needless-same : (v : ℕ) → needless v cat' ≡ needless v cat
  unfolding needless
  needless-same v = rw long_same refl
