use Rattle.world_closing.proofs.asked.laws_of_last_attempts.Goals as goal
use Rattle.world_closing.specs.asked.Runs.{ended-conclude, explained-conclude, explained-resolve}

pub returns : goal.returns
returns c = record { resolve = explained-resolve; conclude = explained-conclude; concluded = ended-conclude }
