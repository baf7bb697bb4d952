use Rattle.std.specs.Prelude.{◌⊎◌}
use Rattle.std.proofs.Common.{inl, inr}
use Rattle.world_base.specs.declared.world.World.{World}
use Rattle.world_base.specs.Events.{ClientGoes, ClientHears, Rules}
use Rattle.world_letters.specs.waits.ClientLaws.{goes-keeps, hears-keeps}
use Rattle.world_letters.specs.waits.Happenings.{events-keep, happenings-keep}
use Rattle.world_letters.specs.waits.TargetLaws.{between-hears, idle-keeps}
use Rattle.world_letters.specs.waits.Waits.{Conversation}
use Rattle.world_letters.specs.waits.Events.{conversations-begin, cut-keeps, drawing-keeps, failing-keeps, given_up-keeps, opening-keeps, sweep-keeps}
use Rattle.world_letters.proofs.waits.laws_of_waits.Goals as goal

clients-keep : (r : Rules) (w v : World) → ClientGoes r w v ⊎ ClientHears r w v → Conversation r w → Conversation r v
clients-keep r w v (inl g) k = goes-keeps r w v g k
clients-keep r w v (inr g) k = hears-keeps r w v g k

pub returns : goal.returns
returns c = record { begin = conversations-begin; clients = clients-keep; idle = idle-keeps; others = between-hears; cut = cut-keeps; opening = opening-keeps; failure = failing-keeps; given_up = given_up-keeps; swept = sweep-keeps; numbers = drawing-keeps; happening = happenings-keep; event = events-keep }
