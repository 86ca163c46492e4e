-- `exporter::table::Table::header` meets its contract. Invariant: the attributes that are left, from the cursor on, make the whole. Assumes nothing.
use Prim.Native.Nat.{◌-◌, ◌/◌, ◌^◌, ◌≤◌}
use mathlib.Core.Path.{◌≡◌}
use lib.ListN.{length, replicate}
use Rattle.laws.specs.Lists.{put, over}
use Rattle.text.specs.Writing.{attribute_codes}
use Rattle.exporter.proofs.table.Table.header.Given as goal

abbrev pub invariant-loop-a : goal.invariant-loop-a
invariant-loop-a l =
    record {
      few : l.k ≤ l.a;
      room : length l.codes ≡ 64;
      put : put (attribute_codes l.self.m 0 l.self.scheme) (replicate 64 0) ≡ over l.k (attribute_codes (l.self.m - l.a) l.a (l.self.scheme / 2 ^ l.a)) l.codes;
    }
