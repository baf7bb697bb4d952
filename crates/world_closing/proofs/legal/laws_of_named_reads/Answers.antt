use Rattle.world_closing.proofs.legal.laws_of_named_reads.Goals as goal
use Rattle.world_closing.specs.legal.Following.{all-events-name, runs-begin_named}
use Rattle.world_closing.specs.legal.Moments.{runs-issue_once, runs-name}

pub returns : goal.returns
returns c = record { begins = runs-begin_named; events = all-events-name; runs = runs-name; once = runs-issue_once }
