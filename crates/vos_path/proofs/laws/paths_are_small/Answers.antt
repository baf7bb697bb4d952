use Rattle.vos_path.proofs.AllSmall.{path_small}
use Rattle.vos_path.proofs.laws.paths_are_small.Goals as goal

pub returns : goal.returns
returns c = path_small
