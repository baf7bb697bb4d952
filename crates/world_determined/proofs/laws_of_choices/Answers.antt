use Rattle.world_determined.specs.Events.{events-are_one}
use Rattle.world_determined.specs.Leading.{attempts-lead_decided}
use Rattle.world_determined.specs.Runs.{runs-are_one}
use Rattle.world_determined.specs.Worlds.{same-tell_one}
use Rattle.world_determined.proofs.laws_of_choices.Goals as goal

pub returns : goal.returns
returns c = record { events = events-are_one; runs = runs-are_one; told = same-tell_one; led = attempts-lead_decided }
