use Rattle.world_causes.specs.hearing.HappeningEpochs.{events-keep-clients}
use Rattle.world_causes.specs.hearing.Writing.{entries-begin}
use Rattle.world_causes.proofs.hearing.laws_of_happenings.Goals as goal

pub returns : goal.returns
returns c = record {
  begin = entries-begin;
  clients = events-keep-clients;
}
