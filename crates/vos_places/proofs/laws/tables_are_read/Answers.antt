use Rattle.vos_places.proofs.Writing.{tables_read}
use Rattle.vos_places.proofs.laws.tables_are_read.Goals as goal

pub returns : goal.returns
returns c = tables_read
