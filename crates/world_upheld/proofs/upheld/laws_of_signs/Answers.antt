use Rattle.world_upheld.specs.upheld.Signs.{runs-sign_alike}
use Rattle.world_upheld.proofs.upheld.laws_of_signs.Goals as goal

pub returns : goal.returns
returns c = runs-sign_alike
