use Rattle.vos_tables.proofs.Writing.{changes_written}
use Rattle.vos_tables.proofs.laws.changes_are_written.Goals as goal

pub returns : goal.returns
returns c = let e = c.places_are_written.ensures in changes_written e.conts e.snaps e.unused e.others e.beyond
