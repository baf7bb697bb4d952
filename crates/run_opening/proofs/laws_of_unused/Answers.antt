use Rattle.run_opening.specs.UnusedLaws.{unused-open, unused-sound, unused-stand}
use Rattle.run_opening.specs.FloorLaws.{unused-floored}
use Rattle.run_opening.proofs.laws_of_unused.Goals as goal

pub returns : goal.returns
returns c = record { sound = unused-sound; floored = unused-floored; opened = unused-open; stands = unused-stand }
