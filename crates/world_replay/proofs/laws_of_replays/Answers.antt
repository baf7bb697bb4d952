use Rattle.world_replay.specs.Replays.{runs-have-lists}
use Rattle.world_replay.proofs.laws_of_replays.Goals as goal

pub returns : goal.returns
returns c = record { lists = runs-have-lists }
