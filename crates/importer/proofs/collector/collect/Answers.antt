-- `importer::collector::collect` meets its contract. Invariant: lines are read so far, and the places of their rows are kept. Assumes nothing.
use Rattle.std.proofs.Common.{◌≡◌, ◌<◌, arith, rules, refl}
use Rattle.std.specs.Prelude.{Ok, Some}
use Rattle.tables.specs.Sizes.{most_rows}
use Rattle.importer.proofs.CollectLaws.{collect-start, collect-over}
use Rattle.importer.proofs.collector.collect.Goals as goal

pub loop-next-init : goal.loop-next-init
loop-next-init c =
    let k = c.args.kept.now in
    (refl, refl, rw c.requires.0 (collect-start k.lines.width k.lines.text.now c.args.from k.places c.requires.1 c.requires.2))

pub overflow_add-line : goal.overflow_add-line
overflow_add-line c =
    let l = c.loop-next in
    let e : c.read.result ≡ Ok (Some c.in-Some.next) = search rules in
    let h = rw e at c.read.ensures in
    omega (arith, h.sizes, l.invariant.2.low, c.args.kept.now.lines.short)

pub returns-then-len-gt-MOST_ROWS-clause-told : goal.returns-then-len-gt-MOST_ROWS-clause-told
returns-then-len-gt-MOST_ROWS-clause-told c =
    let l = c.loop-next in
    let k = c.args.kept.now in
    let e : c.read.result ≡ Ok (Some c.in-Some.next) = search rules in
    let q : l.kept.lines ≡ k.lines = cc in
    let keeps = rw q at c.keep.ensures.kept in
    let n : most_rows < c.keep.new.self.count = omega (arith, c.len.ensures, c.if-len-gt-MOST_ROWS.true) in
    collect-over k.lines.width k.lines.text.now c.args.from l.kept.places l.at l.line l.kept.count l.invariant.2 _ _ _ (rw e at c.read.ensures) keeps n c.keep.new.self.room
    c.refuse_rest.ensures
