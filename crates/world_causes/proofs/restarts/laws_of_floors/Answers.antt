use Rattle.world_causes.specs.causes.FloorLaws.{openings-keep-floors, staying-keeps-floors, stops-keep-floors, sweeps-keep-floors}
use Rattle.world_causes.proofs.restarts.laws_of_floors.Goals as goal

pub returns : goal.returns
returns c = record { stop = stops-keep-floors; opening = openings-keep-floors; swept = sweeps-keep-floors; staying = staying-keeps-floors }
