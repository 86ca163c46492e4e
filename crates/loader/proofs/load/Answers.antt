-- `loader::load` meets its contract: a good first pass is sound, which is what the second pass asks. Assumes nothing.
use Rattle.std.proofs.Common.{length, sym, ap, arith}
use Rattle.loader.specs.Faults.{Loaded}
use Rattle.loader.proofs.SoundLaws.{scan-sound}
use Rattle.loader.proofs.load.Goals as goal

pub fill-requires : goal.fill-requires
fill-requires c =
    let a = c.args in
    let e = c.in_ok-catalogue.ensures in
    let h = scan-sound a.image.now (length a.cells.now) (λ k. omega (arith, c.type_inv.image k)) (sym (ap (λ (r : Loaded). r.verdict) e)) in
    rw (ap (λ (r : Loaded). r.catalogue.n) e) (h.0, _, h.1)
