-- `exporter::putter::put_text` meets its contract: the rows stand behind the header. Assumes nothing.
use native.Mathlib.Omega.{arith}
use Prim.Native.Nat.{ℕ, ◌+◌, ◌≤◌}
use mathlib.Core.Path.{◌≡◌, sym, ap, ◌∙◌}
use mathlib.Core.List.{List}
use lib.ListN.{length, take}
use Rattle.std.proofs.lemmas.Grind.{common_steps}
use Rattle.exporter.specs.Promise.{text_in}
use Rattle.laws.specs.Lists.{put, Placed}
use Rattle.laws.proofs.PlacedLaws.{placed-length, placed-append}
use Rattle.text.specs.Writing.{attribute_codes, line_text}
use Rattle.exporter.proofs.WriteLaws.{ones-some, codes-some, text-is, text-length}
use Rattle.exporter.proofs.putter.put_text.Goals.{After-header-head, After-put_line}
use Rattle.exporter.proofs.putter.put_text.Goals as goal

-- The header's codes, in front of the rest.
head : (c : After-header-head) → take c.width-width.result c.header-head.result ≡ attribute_codes c.args.table.now.m 0 c.args.table.now.scheme
head c = rw c.width-width.ensures c.header-head.ensures.codes

pub put_line-requires : goal.put_line-requires
put_line-requires c =
    let t = c.args.table.now in
    rw (head (goal.at.put_line-requires c).After-header-head)
    (codes-some t.m t.scheme t.some_scheme t.low_scheme, omega (arith, text-length t.m t.scheme t.cells.now, c.requires))

-- The header stands in front, where there is room for it.
first : (c : After-put_line)
    → (let line = line_text (attribute_codes c.args.table.now.m 0 c.args.table.now.scheme) in
    (0 + length line ≤ length c.args.out.now) × Placed line 0 c.args.out.now c.put_line.new.to.at c.put_line.new.to.out.now)
first c =
    let t = c.args.table.now in
    (omega (arith, text-length t.m t.scheme t.cells.now, c.requires), rw (head (goal.at-After-put_line c).After-header-head) at c.put_line.ensures.puts)

pub put_rows-requires : goal.put_rows-requires
put_rows-requires c =
    let t = c.args.table.now in
    let (room, p) = first (goal.at.put_rows-requires c).After-put_line in
    rw c.width-width.ensures
    (ones-some t.m t.scheme t.some_scheme t.low_scheme, omega (arith, p.next, placed-length room p, text-length t.m t.scheme t.cells.now, c.requires))

pub returns : goal.returns
returns c =
    let t = c.args.table.now in
    let (room, p) = first (goal.at.returns c).After-put_line in
    let q = rw c.width-width.ensures at c.put_rows.ensures.puts in
    let filled : c.put_rows.new.to.out.now ≡ put (text_in t.m t.scheme t.cells.now) c.args.out.now =
    (placed-append room p q).bytes ∙ ap (λ (u : List ℕ). put u c.args.out.now) (sym (text-is t.m t.scheme t.cells.now)) in
    grind (arith, common_steps)
