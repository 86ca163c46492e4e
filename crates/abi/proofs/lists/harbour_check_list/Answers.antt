-- `abi::lists::harbour_check_list` meets its contract: each way is its law's. Assumes nothing.
use Prim.Native.Nat.{ℕ, ◌≤◌}
use mathlib.Core.Path.{◌≡◌, sym, ap, ◌∙◌}
use mathlib.Core.List.{List, ◌++◌}
use mathlib.Core.Bool.{false}
use lib.ListN.{length, drop, length-take}
use native.Mathlib.Omega.{arith}
use Rattle.std.proofs.Common.{rules}
use Rattle.abi.specs.Lists.{list_short}
use Rattle.abi.proofs.ListCallLaws.{list-enough, list-short, list_done}
use Rattle.abi.proofs.lists.harbour_check_list.Goals.{Else-list_short}
use Rattle.abi.proofs.lists.harbour_check_list.Goals as goal

enough : (c : Else-list_short) → list_short c.args.catalogue.now c.args.res.now ≡ false
enough c = sym c.list_short.ensures ∙ c.if-list_short.false

-- So the result has room.
room : (c : Else-list_short) → 2 ≤ length c.args.res.now
room c = (list-enough c.args.catalogue.now c.args.cells.now c.args.listed_low.now c.args.listed_high.now c.args.res.now (enough c)).1

pub returns-then-list_short : goal.returns-then-list_short
returns-then-list_short c = list-short _ _ _ _ _ (sym c.list_short.ensures ∙ c.if-list_short.true)

pub catalogue_in-cat-requires : goal.catalogue_in-cat-requires
catalogue_in-cat-requires c = (list-enough _ c.args.cells.now c.args.listed_low.now c.args.listed_high.now _ (enough c)).0

pub slice_bounds-copy_from_slice-end : goal.slice_bounds-copy_from_slice-end
slice_bounds-copy_from_slice-end c = room (goal.at.slice_bounds-copy_from_slice-end c).Else-list_short

pub slice_bounds-copy_from_slice-end-2 : goal.slice_bounds-copy_from_slice-end-2
slice_bounds-copy_from_slice-end-2 c =
    let b : 2 ≤ length c.args.res.now = room (goal.at.slice_bounds-copy_from_slice-end-2 c).Else-list_short in search rules

pub copy_from_slice-requires : goal.copy_from_slice-requires
copy_from_slice-requires c =
    let b : 2 ≤ length c.args.res.now = room (goal.at.copy_from_slice-requires c).Else-list_short in
    simp length-take (omega (arith, ap (length {A = ℕ}) c.told-number.ensures.1))

pub returns : goal.returns
returns c =
    let t = c.told-number.ensures in
    list_done c.args.catalogue.now c.args.cells.now c.args.listed_low.now c.args.listed_high.now c.args.res.now c.catalogue_in-cat.result _ _ c.told-number.result.1 _
    (enough (goal.at.returns c).Else-list_short) c.catalogue_in-cat.ensures c.check_list-answer.ensures t.0 t.1
    (ap (λ (x : List ℕ). x ++ drop 2 c.args.res.now) c.copy_from_slice.ensures.after)
