use Rattle.world_closing.proofs.stands.laws_of_held_openings.Goals as goal
use Rattle.world_closing.specs.stands.Held.{opened-are_held}
use Rattle.world_closing.specs.stands.Lasting.{lasting-stores-begin}

pub returns : goal.returns
returns c = record { held = opened-are_held; begin = lasting-stores-begin }
