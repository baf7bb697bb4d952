use Rattle.vos_newest.proofs.Speaking.{cell_holds}
use Rattle.vos_newest.proofs.laws.cells_hold_the_newest.Goals as goal

pub returns : goal.returns
returns c vs e x = cell_holds vs e x
