-- What else holds before an event, of which what targets keep makes use where snapshots are made and containers aggregated.
use Rattle.std.specs.Prelude.{ℕ, ◌≡◌, ◌⊎◌, true, slice_get, Some}
use Rattle.base_types.specs.declared.id.AttemptId.{AttemptId}
use Rattle.base_types.specs.declared.id.ContId.{ContId}
use Rattle.daos_model.specs.Durables.{is_enlisted}
use Rattle.daos_model.specs.Opening.{Opening, top}
use Rattle.world_base.specs.declared.target.TargetState.{TargetState}
use Rattle.world_base.specs.declared.world.World.{World}
use Rattle.world_base.specs.Events.{Rules}
use Rattle.world_letters.specs.epochs.Epochs.{Epochs}
use Rattle.world_letters.specs.snapshots.Makings.{IsAggregationOf, IsSnapIn, Makings}

-- each target knows the containers of which attempts make snapshots, or that they aggregate
abbrev pub MakersAreKnown : Rules → World → Type 0
MakersAreKnown r w = (t : ℕ) (s : TargetState) (x : AttemptId) (c : ContId) → slice_get w.targets t ≡ Some s → IsSnapIn r x c ⊎ IsAggregationOf r x c → is_enlisted s.durable c ≡ true

-- the epochs of attempts; which attempts what is asked for snapshots and aggregations comes of; and their containers
pub record MakersStand (r : Rules) (o : Opening) (w : World) : Type 0 where
  pub epochs : Epochs r (top o) w
  pub makings : Makings r w
  pub known : MakersAreKnown r w
