use Rattle.run_opening.specs.AlikeSound.{reopening-sound}
use Rattle.run_opening.specs.FloorLaws.{reopening-floored}
use Rattle.run_opening.proofs.laws_of_reopening.Goals as goal

pub returns : goal.returns
returns c = record { sound = reopening-sound; floors = reopening-floored }
