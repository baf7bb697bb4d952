-- The laws of first epochs, as statements.
use Rattle.std.specs.Prelude.{ℕ, ◌≡◌, ◌<◌, [], slice_get, Some, None}
use Rattle.world_base.specs.declared.client.ClientState.{ClientState}
use Rattle.world_base.specs.declared.target.TargetState.{TargetState}
use Rattle.world_base.specs.declared.world.World.{World}
use Rattle.world_base.specs.Events.{Rules}
use Rattle.world_base.specs.Stops.{WorldEvent}
use Rattle.world_contents.specs.world_letters.epochs.Epochs.{ClientsStand, Epochs}
use Rattle.world_causes.specs.firsts.Firsts.{Firsts}

-- where no client is at an attempt, nothing is in flight, and no Fetch waits
abbrev pub FirstsBegin : Type 0
FirstsBegin =
    (r : Rules) (w : World) → ((n : ℕ) (c : ClientState) → slice_get w.clients n ≡ Some c → c.present ≡ None) → w.messages ≡ [] → ((t : ℕ) (s : TargetState) → slice_get w.targets t ≡ Some s → s.memory.member.parked ≡ []) → Firsts r w

-- every event of a run, where clients stand at their commands, and messages bear the epochs of their attempts
abbrev pub EventsKeepFirsts : Type 0
EventsKeepFirsts = (r : Rules) (top : ℕ) → 0 < r.attempts → (w v : World) → WorldEvent r w v → ClientsStand r w → Epochs r top w → Firsts r w → Firsts r v
