use Rattle.world_upheld.specs.stored.Events.{all-clients-keep-stored, all-events-keep-stored, all-happenings-keep-stored, making-ends-makers-alone, making-keeps-stored, making-stores-nothing, stored-writes-began, stored-writes-stay}
use Rattle.world_upheld.proofs.stored.laws_of_stored_making.Goals as goal

pub returns : goal.returns
returns c = record {
  stores = making-stores-nothing;
  tells = making-ends-makers-alone;
  begin = stored-writes-began;
  writes = stored-writes-stay;
  heard = making-keeps-stored;
  clients = all-clients-keep-stored;
  happens = all-happenings-keep-stored;
  events = all-events-keep-stored;
}
