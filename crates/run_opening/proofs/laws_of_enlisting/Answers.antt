use Rattle.run_opening.specs.EnlistLaws.{enlisting-form, enlisting-openings, enlisting-sound, opened-knows}
use Rattle.run_opening.specs.FloorLaws.{enlisting-floored}
use Rattle.run_opening.proofs.laws_of_enlisting.Goals as goal

pub returns : goal.returns
returns c = record { sound = enlisting-sound; floors = enlisting-floored; form = enlisting-form; openings = enlisting-openings; known = opened-knows }
