use Rattle.world_commit.specs.statuses.Events.{events-keep}
use Rattle.world_commit.specs.statuses.Heard.{further-keeps}
use Rattle.world_commit.specs.statuses.SenderLaws.{senders-stay}
use Rattle.world_commit.proofs.statuses.laws_of_statuses.Goals as goal

pub returns : goal.returns
returns c = record { heard = further-keeps; events = events-keep; senders = senders-stay }
