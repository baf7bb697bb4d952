use Rattle.world_determined.specs.Readings.{cut-readings_are_one, further-readings_are_one, readings-are_one}
use Rattle.world_determined.proofs.laws_of_readings.Goals as goal

pub returns : goal.returns
returns c = record { hearing = readings-are_one; further = further-readings_are_one; cut = cut-readings_are_one }
