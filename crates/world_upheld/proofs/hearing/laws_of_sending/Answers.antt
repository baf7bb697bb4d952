use Rattle.world_upheld.proofs.hearing.laws_of_sending.Goals as goal
use Rattle.world_upheld.specs.hearing.Across.{all-events-go_across}
use Rattle.world_upheld.specs.hearing.Runs.{all-runs-send_so, runs-go_across}
use Rattle.world_upheld.specs.hearing.Sent.{all-events-keep_sent}

pub returns : goal.returns
returns c = record { sent = all-events-keep_sent; across = all-events-go_across; sent_so = all-runs-send_so; gone_across = runs-go_across }
