use Rattle.world_determined.specs.Turns.{further-is_one, hearing-is_alike, hearing-is_one, idling-is_one}
use Rattle.world_determined.proofs.laws_of_target_turns.Goals as goal

pub returns : goal.returns
returns c = record { hearing = hearing-is_one; alike = hearing-is_alike; further = further-is_one; idling = idling-is_one }
