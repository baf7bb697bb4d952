use Rattle.world_making.specs.making.Snapshots.{created-are_frozen, created-stay, freezes-stay}
use Rattle.world_making.specs.making.Turns.{cuts-leave, hearings-leave}
use Rattle.world_making.proofs.making.laws_of_making.Goals as goal

pub returns : goal.returns
returns c = record { heard = hearings-leave; cut = cuts-leave; freezes = freezes-stay; created = created-stay; held = created-are_frozen }
