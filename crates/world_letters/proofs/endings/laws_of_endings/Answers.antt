use Rattle.std.specs.Prelude.{◌≡◌, [], Contains}
use Rattle.std.proofs.Common.{subst}
use Rattle.world_base.specs.model_laws.Members.{has-from_contains}
use Rattle.world_base.specs.declared.world.World.{World}
use Rattle.world_letters.specs.endings.Events.{event-keeps}
use Rattle.world_letters.specs.lines.Lines.{Endings}
use Rattle.world_letters.proofs.endings.laws_of_endings.Goals as goal

begin : (w : World) → w.messages ≡ [] → Endings w
begin w none l i = absurd (has-from_contains [] l (subst (λ ls. Contains ls l) none i))

pub returns : goal.returns
returns c = record { begin = begin; kept = event-keeps }
