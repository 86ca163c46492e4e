-- `abi::harbour_load` meets its contract: each way is its law's, and no refusal of a load is placed far from the start. Assumes nothing.
use mathlib.Core.Path.{◌≡◌, refl, sym, ap, ◌∙◌}
use Rattle.std.specs.Prelude.{Result, Ok, Err}
use Rattle.std.specs.Result.{result_unwrap_or}
use Rattle.laws.specs.Lists.{put}
use Rattle.tables.specs.declared.Catalogue.{Catalogue}
use Rattle.tables.specs.Catalogues.{no_tables}
use Rattle.loader.specs.declared.Fault.{Fault}
use Rattle.loader.specs.Load.{loaded_of}
use lib.ListN.{length}
use mathlib.Core.Bool.{false}
use borrow.Author.Tests.{ltb-false}
use Rattle.loader.proofs.PlaceLaws.{scan-near}
use Rattle.abi.specs.Words.{catalogue_words, words_of}
use Rattle.abi.specs.Calls.{short}
use Rattle.abi.proofs.CallLaws.{load-short, load-done}
use Rattle.abi.proofs.harbour_load.Goals.{Else-too_few}
use Rattle.abi.proofs.harbour_load.Goals as goal

enough : (c : Else-too_few) → short c.args.catalogue.now ≡ false
enough c = sym c.too_few.ensures ∙ c.if-too_few.false

pub returns-then-too_few : goal.returns-then-too_few
returns-then-too_few c = load-short _ _ _ _ (sym c.too_few.ensures ∙ c.if-too_few.true)

pub put_catalogue-requires : goal.put_catalogue-requires
put_catalogue-requires c = ltb-false _ catalogue_words (enough (goal.at.put_catalogue-requires c).Else-too_few)

pub number_of-requires : goal.number_of-requires
number_of-requires c = rw (c.of-verdict.ensures, c.load-loaded.ensures.answer) (scan-near c.args.image.now (length c.args.cells.now))

-- what a load gives, or zeros, is the catalogue of its answer
zeros_or : (r : Result Catalogue Fault) → result_unwrap_or r no_tables ≡ (loaded_of r).catalogue
zeros_or (Ok cat) = refl
zeros_or (Err f) = refl

pub returns : goal.returns
returns c =
    let r = c.load-loaded.result in
    let e : c.unwrap_or.result ≡ (loaded_of r).catalogue = c.unwrap_or.ensures ∙ ap (λ (z : Catalogue). result_unwrap_or r z) c.no_tables.ensures ∙ zeros_or r in
    let w : c.put_catalogue.new.words ≡ put (words_of (loaded_of r).catalogue) c.args.catalogue.now = c.put_catalogue.ensures ∙ ap (λ (z : Catalogue). put (words_of z) c.args.catalogue.now) e in
    load-done _ _ _ _ (loaded_of r) _ _ _ _ _ (enough (goal.at.returns c).Else-too_few) c.load-loaded.ensures (rw c.of-verdict.ensures at c.number_of.ensures) w (rw c.of-verdict.ensures at c.looked_of.ensures) c.put_count.ensures
