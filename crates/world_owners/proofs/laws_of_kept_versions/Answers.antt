use Rattle.world_owners.specs.Events.{all-events-leave_or_store}
use Rattle.world_owners.specs.Versions.{all-events-bring_versions, all-events-keep_prepared, all-events-raise_leases}
use Rattle.world_owners.proofs.laws_of_kept_versions.Goals as goal

pub returns : goal.returns
returns c = record { events = all-events-leave_or_store; versions = all-events-bring_versions; prepared = all-events-keep_prepared; leases = all-events-raise_leases }
