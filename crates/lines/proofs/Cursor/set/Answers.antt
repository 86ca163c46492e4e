-- `Cursor::set` meets its contract: three parts, each behind the one before, are one. Assumes nothing.
use native.Mathlib.Omega.{arith}
use Rattle.laws.proofs.PlacedLaws.{placed-three}
use Rattle.keys.specs.TwoWords.{number_of}
use Rattle.lines.specs.Lines.{set_line}
use Rattle.lines.proofs.LineLaws.{rows_few}
use Rattle.lines.proofs.Cursor.set.Goals as goal

pub padded-requires : goal.padded-requires
padded-requires c =
    let few = rows_few c.args.n (number_of c.args.key) in
    let word = c.word.ensures.puts in
    (c.requires.1, omega (arith, few, c.requires, c.rows.ensures.puts.next, word.next))

pub returns-clause-puts : goal.returns-clause-puts
unfolding set_line
returns-clause-puts c =
    let word = c.word.ensures.puts in
    let rows = c.rows.ensures.puts in
    placed-three (omega (arith, rows_few c.args.n (number_of c.args.key), c.requires)) word rows c.padded.ensures.puts
