use Rattle.world_making.proofs.prunings.laws_of_prunings.Goals as goal
use Rattle.world_making.specs.prunings.Containers.{all-events-keep_makers, declared-known}
use Rattle.world_making.specs.prunings.Floors.{all-events-keep_floors}
use Rattle.world_making.specs.prunings.MakingGots.{all-events-keep_gots}
use Rattle.world_making.specs.prunings.MakingReads.{all-events-keep_reads}
use Rattle.world_making.specs.prunings.Writing.{all-events-keep_entries}

pub returns : goal.returns
returns c = record {
  reads = all-events-keep_reads;
  entries = all-events-keep_entries;
  gots = all-events-keep_gots;
  floors = all-events-keep_floors;
  declared = declared-known;
  known = all-events-keep_makers;
}
