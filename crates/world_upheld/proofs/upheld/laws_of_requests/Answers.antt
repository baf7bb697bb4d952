use Rattle.world_upheld.proofs.upheld.laws_of_requests.Goals as goal
use Rattle.world_upheld.specs.upheld.Heard.{all-heard_right}

pub returns : goal.returns
returns c = record { right = all-heard_right }
