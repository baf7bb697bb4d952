use Rattle.vos_tables.proofs.Places.{unused_found}
use Rattle.vos_tables.proofs.seats.free_cont.Goals as goal

pub returns : goal.returns
returns c = unused_found c.args.places.now c.unused_cont.result c.unused_cont.ensures
