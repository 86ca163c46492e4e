-- `hub::HubList::is_entry` meets its contract: both words are compared. Assumes nothing.
use native.Mathlib.Omega.{arith}
use Rattle.store.proofs.LentLaws.{same-as}
use Rattle.hub.proofs.TreeLaws.{key-own, keys-both}
use Rattle.hub.proofs.HubList.is_entry.Goals as goal

pub at-requires : goal.at-requires
at-requires c = keys-both _ _ _ (omega (arith, c.requires, c.args.self.now.counted))

pub returns : goal.returns
returns c =
    let k = c.args.self.now.keys in
    same-as c.at.result c.args.key (omega arith) (omega arith)
    (key-own k.low.now k.high.now c.args.i (omega (arith, c.requires, c.args.self.now.counted)) c.at.ensures) c.eq.ensures
