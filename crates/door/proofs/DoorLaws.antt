-- The door's number tells the refusal and its place, since no refusal has a number above the highest, which is below 32. Assumes nothing.
use Prim.Native.Nat.{ℕ, ◌/◌, ◌%◌}
use native.Mathlib.Omega.{arith}
use mathlib.Core.Path.{◌≡◌}
use mathlib.Core.List.{List}
use Rattle.tables.specs.Sizes.{most_cells}
use Rattle.loader.specs.Faults.{Fault, Refused}
use Rattle.loader.specs.Load.{farthest, NearVerdict, scan_of}
use Rattle.loader.proofs.PlaceLaws.{scan-near}
use Rattle.door.specs.Door.{check_of}

-- A refusal and its place, read off the number.
pub door-tells : (s : List ℕ) (f : Fault) → (scan_of s most_cells).verdict ≡ Refused f → (check_of s % 32 ≡ f.refusal) × (check_of s / 32 ≡ f.place)
unfolding check_of
door-tells s f e =
    let h : NearVerdict farthest (Refused f) = rw e at (scan-near s most_cells) in
    rw e (omega (arith, h.1))
