-- Which attempts are told of for snapshots and aggregations, and how a prune is asked.
use Rattle.std.specs.Prelude.{◌⊎◌, Some, None}
use Rattle.base_types.specs.declared.id.AttemptId.{AttemptId}
use Rattle.base_types.specs.declared.id.ContId.{ContId}
use Rattle.base_messages.specs.declared.message.Message.{Message, more_of-Message}
use Rattle.base_messages.specs.declared.message.Message.TheVariants as message
use Rattle.model_laws.specs.Members.{Has}
use Rattle.world_base.specs.declared.letter.Letter.{Letter}
use Rattle.world_base.specs.declared.world.World.{World}
use Rattle.world_base.specs.Events.{Rules}
use Rattle.world_letters.specs.snapshots.Makings.{IsAggregationOf, IsSnapIn}

-- an attempt makes a snapshot, or aggregates a container
abbrev pub IsMaker : Rules → AttemptId → Type 0
IsMaker r x = (c : ContId) × (IsSnapIn r x c ⊎ IsAggregationOf r x c)

-- a client asks to aggregate after its tracker, and target 0 asks the others to prune up to an epoch
abbrev pub IsPruneRight : Message → Type 0
IsPruneRight (message.Prune x c (Some tracker) None) = Unit {0}
IsPruneRight (message.Prune x c None (Some g)) = Unit {0}
IsPruneRight (message.Prune x c None None) = ⊥
IsPruneRight (message.Prune x c (Some tracker) (Some g)) = ⊥
IsPruneRight m = Unit {0}

-- so is what got no answer; and what is told of a freeze or a prune is of an attempt that makes a snapshot or aggregates
abbrev pub IsToldByMaker : Rules → Message → Type 0
IsToldByMaker r (message.Held x refusal) = IsMaker r x
IsToldByMaker r (message.Reset' t down place (more_of-Message q rest)) = IsPruneRight q
IsToldByMaker r m = IsPruneRight m

-- so it is of all that is in flight, or without an answer
pub record MakersTell (r : Rules) (w : World) : Type 0 where
  pub letters : (l : Letter) → Has l w.messages → IsToldByMaker r l.message
  pub asked : (l : Letter) → Has l w.asked → IsPruneRight l.message
