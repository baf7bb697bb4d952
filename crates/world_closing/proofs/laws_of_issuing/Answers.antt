use Rattle.world_closing.proofs.laws_of_issuing.Goals as goal
use Rattle.world_closing.specs.Issued.{all-events-issue_once}

pub returns : goal.returns
returns c = record { events = all-events-issue_once }
