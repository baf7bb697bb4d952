use Rattle.daos_model.proofs.Planned.{prune_keeps_cells}
use Rattle.daos_model.proofs.laws.laws_of_prunes.Goals as goal

pub returns : goal.returns
returns c = prune_keeps_cells
