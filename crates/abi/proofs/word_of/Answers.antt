-- `abi::word_of` meets its contract: behind m and n lie eight schemes, eight row counts, eight places and eight masks. Assumes nothing.
use native.Mathlib.Omega.{arith}
use mathlib.Core.Path.{◌≡◌, sym}
use lib.ListN.{length}
use borrow.Author.Rules.{rules}
use Rattle.tables.specs.Sizes.{most_tables}
use Rattle.abi.proofs.WordLaws.{words-scheme, words_count, words-place, words-mask}
use Rattle.abi.proofs.word_of.Goals as goal

pub returns-then-i-lt1 : goal.returns-then-i-lt1
returns-then-i-lt1 c =
    let e : c.args.i ≡ 0 = omega arith in
    rw e

pub returns-then-i-lt2 : goal.returns-then-i-lt2
returns-then-i-lt2 c =
    let e : c.args.i ≡ 1 = omega arith in
    rw e

pub returns-then-i-lt-COUNTS_AT : goal.returns-then-i-lt-COUNTS_AT
returns-then-i-lt-COUNTS_AT c =
    let a = c.args in
    let s : length a.cat.schemes ≡ most_tables = search rules in
    sym (words-scheme a.cat s a.i (omega arith) (omega arith))

pub returns-then-i-lt-PLACES_AT : goal.returns-then-i-lt-PLACES_AT
returns-then-i-lt-PLACES_AT c =
    let a = c.args in
    let s : length a.cat.schemes ≡ most_tables = search rules in
    let r : length a.cat.rows ≡ most_tables = search rules in
    sym (words_count a.cat s r a.i (omega arith) (omega arith))

pub returns-then-i-lt-MASKS_AT : goal.returns-then-i-lt-MASKS_AT
returns-then-i-lt-MASKS_AT c =
    let a = c.args in
    let s : length a.cat.schemes ≡ most_tables = search rules in
    let r : length a.cat.rows ≡ most_tables = search rules in
    let p : length a.cat.places ≡ most_tables = search rules in
    sym (words-place a.cat s r p a.i (omega arith) (omega arith))

pub returns : goal.returns
returns c =
    let a = c.args in
    let s : length a.cat.schemes ≡ most_tables = search rules in
    let r : length a.cat.rows ≡ most_tables = search rules in
    let p : length a.cat.places ≡ most_tables = search rules in
    sym (words-mask a.cat s r p a.i (omega arith))
