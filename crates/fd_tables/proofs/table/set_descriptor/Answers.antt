-- A table that isn't there doesn't change.
use Rattle.fd_tables.proofs.AtNumbers.{nothing_changes}
use Rattle.fd_tables.proofs.table.set_descriptor.Goals as goal

pub returns-in_default : goal.returns-in_default
returns-in_default c = nothing_changes _ _ _ c.if-table-tables.true c.in_default.is
