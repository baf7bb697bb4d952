use Rattle.world_closing.proofs.stands.laws_of_stands.Goals as goal
use Rattle.world_closing.specs.stands.Runs.{all-ends-stand, all-runs-keep_floors, all-runs-keep_sound, all-runs-stand}

pub returns : goal.returns
returns c = record { resolved = all-runs-stand; sound = all-runs-keep_sound; floors = all-runs-keep_floors; ended = all-ends-stand }
