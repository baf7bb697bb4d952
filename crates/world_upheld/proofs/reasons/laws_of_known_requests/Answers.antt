use Rattle.world_upheld.proofs.reasons.laws_of_known_requests.Goals as goal
use Rattle.world_upheld.specs.reasons.Requests.{all-commits_known, all-fetches_known, all-prepares_known, snapshot-fetches_known}

pub returns : goal.returns
returns c = record { fetches = all-fetches_known; snapshots = snapshot-fetches_known; handed = all-commits_known; prepares = all-prepares_known }
