use Rattle.std.specs.Prelude.{◌⊎◌}
use Rattle.std.proofs.Common.{inl, inr}
use Rattle.world_base.specs.declared.world.World.{World}
use Rattle.world_base.specs.Events.{Rules}
use Rattle.world_base.specs.Stops.{OpeningFails, TargetGivenUp, TargetOpens}
use Rattle.world_causes.specs.restarts.EpochLaws.{rests-epochs, rests-gots}
use Rattle.world_causes.specs.restarts.Laws.{KeepsDated}
use Rattle.world_causes.specs.restarts.Resting.{Rests, failure-rests, given_up-rests, numbers-rests, opening-rests, stop-rests, sweep-rests}
use Rattle.world_causes.proofs.restarts.laws_of_dates.Goals as goal

rests-dated : (w v : World) → Rests w v → KeepsDated w v
rests-dated w v k = record { epochs = λ r top E. rests-epochs r top w v k E; gots = λ r h g. rests-gots r 0 w v k h g }

openings-dated : (r : Rules) (w v : World) → TargetOpens r w v ⊎ OpeningFails r w v ⊎ TargetGivenUp r w v → KeepsDated w v
openings-dated r w v (inl g) = rests-dated w v (opening-rests r w v g)
openings-dated r w v (inr (inl g)) = rests-dated w v (failure-rests r w v g)
openings-dated r w v (inr (inr g)) = rests-dated w v (given_up-rests r w v g)

pub returns : goal.returns
returns c = record {
  stop = λ w v t s cut here after none silent lease entries. rests-dated w v (stop-rests w v t s cut here after none silent lease entries);
  opening = openings-dated;
  swept = λ w. rests-dated w _ (sweep-rests w);
  numbers = λ w v g. rests-dated w v (numbers-rests w v g);
}
