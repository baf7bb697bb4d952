use Rattle.world_closing.proofs.asked.laws_of_last_turns.Goals as goal
use Rattle.world_closing.specs.asked.Runs.{ended-all_over, still-all_over}

pub returns : goal.returns
returns c = record { still = still-all_over; over = ended-all_over }
