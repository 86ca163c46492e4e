-- `abi::put_catalogue` meets its contract. Invariant: what is left to put from here on makes the whole answer. Assumes nothing.
use borrow.Author.Rules.{rules}
use native.Mathlib.Omega.{arith}
use mathlib.Core.Path.{◌≡◌, refl, sym, ◌∙◌}
use lib.ListN.{length, length-set, drop_of_length-le}
use Rattle.laws.proofs.ListLaws.{put-nil, put_next}
use Rattle.tables.specs.Sizes.{most_tables}
use Rattle.abi.specs.Words.{catalogue_words, words_of}
use Rattle.abi.proofs.WordLaws.{words-length}
use Rattle.abi.proofs.put_catalogue.Goals.{At-loop-i}
use Rattle.abi.proofs.put_catalogue.Goals as goal

all_words : (c : At-loop-i) → length (words_of c.args.cat) ≡ catalogue_words
all_words c =
    let a = c.args in
    let s : length a.cat.schemes ≡ most_tables = search rules in
    let r : length a.cat.rows ≡ most_tables = search rules in
    let p : length a.cat.places ≡ most_tables = search rules in
    let t : length a.cat.touching ≡ most_tables = search rules in
    words-length a.cat s r p t

pub loop-i-init : goal.loop-i-init
loop-i-init c = (refl, refl)

pub loop-i-preserved : goal.loop-i-preserved
loop-i-preserved c =
    let l = c.loop-i in
    let w = all_words (goal.at.loop-i-preserved c).At-loop-i in
    (simp length-set l.invariant.0, l.invariant.1 ∙ put_next l.words (words_of c.args.cat) l.i _ (omega arith) (omega arith) c.word_of.ensures)

pub returns : goal.returns
returns c =
    let l = c.loop-i in
    let w = all_words (goal.at.returns c).At-loop-i in
    sym (l.invariant.1 ∙ rw (drop_of_length-le (words_of c.args.cat) {i = l.i} (omega arith)) (put-nil l.words l.i))
