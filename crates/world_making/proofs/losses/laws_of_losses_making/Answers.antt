use Rattle.world_making.specs.losses.Events.{all-events-keep-losses, making-keeps-losses}
use Rattle.world_making.proofs.losses.laws_of_losses_making.Goals as goal

pub returns : goal.returns
returns c = record { heard = making-keeps-losses; events = all-events-keep-losses }
