use Rattle.vos_tables.proofs.Held.{held_table}
use Rattle.vos_tables.proofs.laws.held_are_tables.Goals as goal

pub returns : goal.returns
returns c = held_table
