use Rattle.world_determined.specs.Clients.{one_hear, one_next}
use Rattle.world_determined.proofs.laws_of_client_turns.Goals as goal

pub returns : goal.returns
returns c = record { next = one_next; hear = one_hear }
