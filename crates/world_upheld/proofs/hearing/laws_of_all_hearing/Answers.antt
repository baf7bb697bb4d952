use Rattle.world_upheld.proofs.hearing.laws_of_all_hearing.Goals as goal
use Rattle.world_upheld.specs.hearing.Hearable.{all-heard_in_form, all-letters_can_be_heard}
use Rattle.world_upheld.specs.hearing.Runs.{runs-can_hear_all}

pub returns : goal.returns
returns c = record { letters = all-letters_can_be_heard; form = all-heard_in_form; runs = runs-can_hear_all }
