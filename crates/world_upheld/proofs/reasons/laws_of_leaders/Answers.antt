use Rattle.world_upheld.proofs.reasons.laws_of_leaders.Goals as goal
use Rattle.world_upheld.specs.reasons.Leaders.{all-acks_known, all-asks_known, all-commits_meet, all-lost-questions_known, all-states_known}

pub returns : goal.returns
returns c = record { asks = all-asks_known; acks = all-acks_known; states = all-states_known; lost = all-lost-questions_known; commits = all-commits_meet }
