use Rattle.world_causes.proofs.handing.laws_of_handing.Goals as goal
use Rattle.world_causes.specs.handing.Begun.{leaders-targets, losses-asked, readers-new}
use Rattle.world_causes.specs.handing.Dates.{epochs-of_commits}
use Rattle.world_causes.specs.handing.Fitting.{hears-fitly}
use Rattle.world_causes.specs.handing.Groups.{groups-stay}
use Rattle.world_causes.specs.handing.Handing.{asked-right, asks-right, commits-of_clients, hands-over}
use Rattle.world_causes.specs.handing.Losing.{losses-stand, open-held}
use Rattle.world_causes.specs.handing.Places.{places-right, snapshots-read}
use Rattle.world_causes.specs.handing.Targets.{asks-its_targets}
use Rattle.world_causes.specs.handing.Tellers.{are-begun, ends-told}

pub returns : goal.returns
returns c = record { over = hands-over; commits = commits-of_clients; asks = asks-right; right = asked-right; epochs = epochs-of_commits; fits = hears-fitly; groups = groups-stay; targets = asks-its_targets; lost = losses-asked; readers = readers-new; leaders = leaders-targets; begun = are-begun; told = ends-told; versions = open-held; losses = losses-stand; places = places-right; snapshots = snapshots-read }
