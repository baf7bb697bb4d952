-- By what freezes are refused, and that what tells of one in flight tells so.
use Rattle.std.specs.Prelude.{◌≡◌, [], Some}
use Rattle.base_types.specs.declared.outcome.Cause.TheVariants as cause
use Rattle.base_types.specs.declared.outcome.Outcome.{Outcome}
use Rattle.base_types.specs.declared.outcome.Outcome.TheVariants as outcome
use Rattle.base_messages.specs.declared.message.Message.{Message}
use Rattle.base_messages.specs.declared.message.Message.TheVariants as message
use Rattle.model_laws.specs.Members.{Has}
use Rattle.world_base.specs.declared.letter.Letter.{Letter}
use Rattle.world_base.specs.declared.world.World.{World}
use Rattle.world_base.specs.Events.{Rules}
use Rattle.world_base.specs.Stops.{WorldEvent}
use Rattle.world_letters.specs.lines.Lines.{Endings}

-- a freeze is refused by a floor, or for want of space
abbrev pub IsFreezeRefusal : Outcome → Type 0
IsFreezeRefusal (outcome.Restart (cause.Floor target floor reason)) = Unit {0}
IsFreezeRefusal (outcome.NoSpace target need free) = Unit {0}
IsFreezeRefusal how = ⊥

-- what tells that one is refused tells so
abbrev pub IsHeldSo : Message → Type 0
IsHeldSo (message.Held x (Some how)) = IsFreezeRefusal how
IsHeldSo m = Unit {0}

-- so it is with all in flight
abbrev pub FreezesAreRefusedSo : World → Type 0
FreezesAreRefusedSo w = (l : Letter) → Has l w.messages → IsHeldSo l.message

abbrev pub FreezeRefusalsBegin : Type 0
FreezeRefusalsBegin = (w : World) → w.messages ≡ [] → FreezesAreRefusedSo w

-- and every event of a run keeps it, where what is in flight ends attempts as it may
abbrev pub EventsKeepFreezeRefusals : Type 0
EventsKeepFreezeRefusals = (r : Rules) (w v : World) → WorldEvent r w v → Endings w → FreezesAreRefusedSo w → FreezesAreRefusedSo v
