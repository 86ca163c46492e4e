-- When there is a list: for every set always, for the sets of a row just where that row is there. Assumes nothing.
use Prim.Native.Nat.{ℕ, ◌<◌}
use native.Mathlib.Omega.{arith}
use mathlib.Core.Path.{◌≡◌, refl, ap, ◌∙◌}
use mathlib.Core.Bool.{true}
use mathlib.Core.List.{List, [], ◌∷◌, ◌++◌}
use lib.ListN.{length}
use Rattle.tables.specs.declared.Catalogue.{Catalogue}
use Rattle.tables.specs.Sizes.{most_attributes, most_cells}
use Rattle.tables.specs.Catalogues.{total}
use Rattle.tables.specs.Checks.{Lawful}
use Rattle.disjunction.specs.Asked.{Asked, every_set}
use Rattle.store.specs.Store.{Store, store_in, room_in}
use Rattle.machine.specs.Machine.{Opened, Askable, stray, open_fault, opening_for}
use Rattle.machine.proofs.RefusalLaws.{opening-says, open-stray, open_free}
use Rattle.lines.specs.Lines.{tables_line, refused_line}
use Rattle.lister.specs.Listing.{most_records, blank, most_calls, lines_of, tables_text}
use Rattle.lister.proofs.ListingLaws.{text-opened, text-refused}

module _ (cat : Catalogue) (cells : List ℕ) (w : Lawful cat most_cells) (l : length cells ≡ most_cells) where
  abbrev first : Asked → Opened
  first a = opening_for cat cells a (blank most_records) (blank most_records) (blank most_records) (blank most_records)

  abbrev none : Store
  none = store_in (blank most_records) (blank most_records) (blank most_records) (blank most_records) 0

  refuses : (a : Asked) → (first a).refusal ≡ open_fault cat most_cells a none
  refuses a = opening-says cat cells a (blank most_records) (blank most_records) (blank most_records) (blank most_records) ∙ ap (λ (n : ℕ). open_fault cat n a none) l

  room : 0 < room_in none
  unfolding blank
  room = omega arith

  -- A row that is there has a list.
  pub listed : (a : Asked) → Askable cat a
      → tables_text cat cells a ≡ tables_line cat.m cat.n (total cat) (first a).tests ++ lines_of cat cells most_calls (first a).after (blank most_attributes) 0 0 0
  listed a y = text-opened cat cells a (first a) refl (refuses a ∙ open_free cat most_cells a none w y (λ _. room))

  -- "`tables`, m, n, N, open's row tests", then the sets and the last line: what the listing prints of every image that it loads.
  pub listed-every : tables_text cat cells every_set
      ≡ tables_line cat.m cat.n (total cat) (first every_set).tests ++ lines_of cat cells most_calls (first every_set).after (blank most_attributes) 0 0 0
  listed-every = listed every_set tt

  -- A row that is not there has the line `refused 19` alone.
  pub not_listed : (a : Asked) → stray cat a ≡ true → tables_text cat cells a ≡ refused_line (19 ∷ [])
  not_listed a e =
      let k = refuses a ∙ open-stray cat most_cells a none w e in
      text-refused cat cells a (first a) refl (omega arith) ∙ ap (λ (n : ℕ). refused_line (n ∷ [])) k
