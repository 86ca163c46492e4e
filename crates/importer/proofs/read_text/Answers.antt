-- `importer::read_text` meets its contract: 4, then the header, then the rows. Assumes nothing.
use Rattle.std.proofs.Common.{◌≡◌, arith, rules}
use Rattle.std.specs.Prelude.{Ok, Err}
use mathlib.Core.Logic.{⊎_elim}
use Rattle.refusals.specs.Refusals.{number}
use Rattle.importer.specs.declared.answers.LineFault.{LineFault}
use Rattle.importer.proofs.ReadLaws.{read_low, read-high, read-refused, read-rows}
use Rattle.importer.proofs.read_text.Goals as goal

pub returns-then-m-lt1 : goal.returns-then-m-lt1
returns-then-m-lt1 c =
    let a = c.args in
    rw c.whole.ensures (⊎_elim (λ h. read_low a.m a.text.now a.cells.now h) (λ h. read-high a.m a.text.now a.cells.now h.1) c.then-m-lt1.either)

pub returns-in_err-header : goal.returns-in_err-header
returns-in_err-header c =
    let a = c.args in
    let (f, p, q) : (f : LineFault) × (c.read_header.result ≡ Err f) × (c.in_err-header.field-0.0 ≡ record { refusal = f.refusal; line = 1; field = f.field }) = search rules in
    let e : c.from_residual.result ≡ Err c.in_err-header.field-0.0 = search rules in
    rw (e, q) (read-refused a.m a.text.now a.cells.now (omega arith) (omega arith) (number f.refusal) f.field (rw p at c.read_header.ensures))

pub read_rows-requires : goal.read_rows-requires
read_rows-requires c =
    let e : c.read_header.result ≡ Ok c.in_ok-header.header = search rules in
    let h = rw e at c.read_header.ensures in
    (h.sizes.0, omega (arith, h.sizes), h.sizes.2, h.sizes.3)

pub returns : goal.returns
returns c =
    let a = c.args in
    let e : c.read_header.result ≡ Ok c.in_ok-header.header = search rules in
    read-rows a.m a.text.now a.cells.now (omega arith) (omega arith) _ _ _ _ _ (rw e at c.read_header.ensures) c.read_rows.ensures
