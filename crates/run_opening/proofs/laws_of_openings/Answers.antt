use Rattle.run_opening.specs.FloorLaws.{opened-floored}
use Rattle.run_opening.specs.SoundLaws.{opened-form, opened-settled, opened-sound}
use Rattle.run_opening.specs.StandLaws.{opened-leases, opened-stands}
use Rattle.run_opening.proofs.laws_of_openings.Goals as goal

pub returns : goal.returns
returns c = record { settled = opened-settled; stands = opened-stands; leases = opened-leases; sound = opened-sound; floors = opened-floored; form = opened-form }
