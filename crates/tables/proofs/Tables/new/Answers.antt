-- `tables::Tables::new` meets its contract: a catalogue that meets no refusal is lawful. Assumes nothing.
use Rattle.std.proofs.Common.{sym}
use Rattle.tables.proofs.CheckLaws.{fault-lawful}
use Rattle.tables.proofs.Tables.new.Goals as goal

pub invariant_of-result : goal.invariant_of-result
invariant_of-result c = record { lawful = fault-lawful _ _ (sym c.in_ok-check.ensures) }
