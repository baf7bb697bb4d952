use Rattle.world_upheld.proofs.causing.laws_of_causing.Goals as goal
use Rattle.world_upheld.specs.causing.Begin.{causes-begin, refusals-and_places_begin}
use Rattle.world_upheld.specs.causing.Clients.{going-keeps, hears-keeps}
use Rattle.world_upheld.specs.causing.Events.{making-cuts_keep_causes, making-keeps_causes}
use Rattle.world_upheld.specs.causing.Happening.{all-events-keep_causes, all-happenings-keep_causes}
use Rattle.world_upheld.specs.causing.PlaceLaws.{all-events-keep_places}
use Rattle.world_upheld.specs.causing.RefusalLaws.{all-events-keep_refusals}

pub returns : goal.returns
returns c = record {
  making = making-keeps_causes;
  cut = making-cuts_keep_causes;
  places = all-events-keep_places;
  refusals = all-events-keep_refusals;
  going = going-keeps;
  hearing = hears-keeps;
  happening = all-happenings-keep_causes;
  kept = all-events-keep_causes;
  begin = causes-begin;
  first = refusals-and_places_begin;
}
